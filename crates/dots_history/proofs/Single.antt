-- What there is one of at most: live mitigations of a client and mid, aliases and lists of a client and name,
-- configurations of a peer.
use Rattle.std.proofs.Common.{◌≡◌, ℕ, ◌+◌, ◌≤◌, Bool, true, false, cond, not, ◌&&◌, ◌||◌, List, [], ◌∷◌, ◌++◌, Option, Some, None, refl, sym, ap, ◌∙◌, arith}
use Rattle.std.specs.Prelude.{option_to_list, bytes_eq, ◌==◌}
use Rattle.std.specs.List.{list_any}
use Rattle.std.proofs.lemmas.Bool.{false≢true, both_ways, cond_both, and_parts, and_from, or_parts, or_from, or_left, or_right, eqb-true, eq-eqb, false_from_ne_true}
use Rattle.std.proofs.lemmas.Slice.Eq.{bytes_eq-Decides}
use Rattle.dots_history.specs.declared.entry.Entry.{Entry}
use Rattle.dots_history.specs.declared.put.Put.{Put}
use Rattle.dots_history.specs.declared.status.Status.{Status}
use Rattle.dots_history.specs.declared.status.Status.TheVariants.{Ended, Open, Withdrawn}
use Rattle.dots_history.specs.declared.change.Change.{Change}
use Rattle.dots_history.specs.declared.change.Change.TheVariants as change
use Rattle.dots_history.specs.Entries.{same_client, put_of, holds_of_both, option_any, overlaps, replaces, ends, withdraws, is_held, undoes, undoes_of_client, undoes_alias, undoes_acl, undoes_of_peer, is_configuration, reconfigures, same_flag, resumes}
use Rattle.dots_history.specs.Histories.{Mitigation, tally, live, status, step, stays, mitigations, held}
use Rattle.dots_history.proofs.Fates.{ended_stays}
use Rattle.dots_history.specs.Capacities.{is_setting}
use Rattle.dots_history.specs.Tables.{Client, client_of, is_of, has_mid, overlap_of_client, AreApart, writes_alias, writes_acl, same_overlap}

-- ---- clients
pub of_itself : (a b : Entry) → same_client a b ≡ is_of (client_of a) b
unfolding same_client is_of
of_itself a b = refl

pub is_of_client : (client : Client) (e : Entry) → is_of client e ≡ true → client_of e ≡ client
unfolding is_of
is_of_client client e is =
    let parts = and_parts (client.domain == e.domain) (bytes_eq client.cuid e.cuid) is in
    ap (λ d. record { domain = d; cuid = e.cuid }) (sym (eqb-true client.domain e.domain parts.0))
    ∙ ap (λ c. record { domain = client.domain; cuid = c }) (sym ((bytes_eq-Decides client.cuid e.cuid).0 parts.1))

pub client_is_of : (e : Entry) → is_of (client_of e) e ≡ true
unfolding is_of
client_is_of e =
    and_from (e.domain == e.domain) (bytes_eq e.cuid e.cuid) (eq-eqb e.domain e.domain refl) ((bytes_eq-Decides e.cuid e.cuid).1 refl)

pub same_of : (client : Client) (a b : Entry) → is_of client a ≡ true → is_of client b ≡ true → same_client a b ≡ true
same_of client a b of_a of_b = of_itself a b ∙ ap (λ c. is_of c b) (is_of_client client a of_a) ∙ of_b

-- ---- a mitigation that a later entry ends isn't live
end_step : (put : Entry) (s : Status) (e : Entry) → ends put e ≡ true → step put s e ≡ Ended
end_step put Ended e is = refl
end_step put Open e is = ap (λ b. cond b Ended (cond (withdraws put e) (Withdrawn e.time) Open)) is
end_step put (Withdrawn at) e is = ap (λ b. cond b Ended (Withdrawn at)) is

none_ends : (t : ℕ) (put : Entry) (s : Status) (later : List Entry) → live t put (status put s later) ≡ true → list_any (ends put) later ≡ false
none_ends t put s [] is = refl
none_ends t put s (e ∷ later) is =
    or_from
    (ends put e)
    (list_any (ends put) later)
    (false_from_ne_true
    (ends put e)
    (λ ended.
    false≢true (sym (ap (live t put) (ap (λ x. status put x later) (end_step put s e ended) ∙ ended_stays put later)) ∙ is)))
    (none_ends t put (step put s e) later is)

-- ---- at most one of a kind whose later one ends the earlier
module _ (test : Entry → Bool) (leads : (e x : Entry) → test e ≡ true → test x ≡ true → ends e x ≡ true) where
  none_passes : (t : ℕ) (e : Entry) (later : List Entry) → test e ≡ true → list_any (ends e) later ≡ false
      → tally (λ (m : Mitigation). test m.put) (mitigations t later) ≤ 0
  none_passes t e [] is none = omega arith
  none_passes t e (x ∷ later) is none =
      let parts = or_parts (ends e x) (list_any (ends e) later) none in
      let go = none_passes t e later is parts.1 in
      let out = cond_both
      (test x)
      1
      0
      (λ k. k ≤ 0)
      (λ same. absurd (both_ways (ends e x) parts.0 (leads e x is same)))
      (λ other. omega arith) in
      cond_both
      (live t x (status x Open later))
      (Some (record { put = x; status = status x Open later }))
      None
      (λ o. tally (λ (m : Mitigation). test m.put) (option_to_list o ++ mitigations t later) ≤ 0)
      (λ now. omega (arith, go, out))
      (λ dead. go)

  pub one_live : (t : ℕ) (entries : List Entry) → tally (λ (m : Mitigation). test m.put) (mitigations t entries) ≤ 1
  one_live t [] = omega arith
  one_live t (e ∷ later) =
      let go = one_live t later in
      cond_both
      (live t e (status e Open later))
      (Some (record { put = e; status = status e Open later }))
      None
      (λ o. tally (λ (m : Mitigation). test m.put) (option_to_list o ++ mitigations t later) ≤ 1)
      (λ now.
      cond_both
      (test e)
      1
      0
      (λ k. k + tally (λ (m : Mitigation). test m.put) (mitigations t later) ≤ 1)
      (λ is. let rest = none_passes t e later is (none_ends t e Open later now) in omega (arith, rest))
      (λ out. omega (arith, go)))
      (λ dead. go)

ends_of : (client : Client) (mid : ℕ) (e x : Entry) → is_of client e && has_mid mid e ≡ true → is_of client x && has_mid mid x ≡ true → ends e x ≡ true
unfolding ends replaces
ends_of client mid e x first second =
    let a = and_parts (is_of client e) (has_mid mid e) first in
    let b = and_parts (is_of client x) (has_mid mid x) second in
    and_from
    (same_client e x)
    (holds_of_both (λ (p q : Put). (p.mid == q.mid) || (same_flag p.trigger q.trigger && overlaps true p q)) (put_of e.change) (put_of x.change))
    (same_of client e x a.0 b.0)
    (by_puts (put_of e.change) (put_of x.change) a.1 b.1)
  where
    by_puts : (p q : Option Put) → option_any (λ (put : Put). put.mid == mid) p ≡ true → option_any (λ (put : Put). put.mid == mid) q ≡ true
        → holds_of_both (λ (p q : Put). (p.mid == q.mid) || (same_flag p.trigger q.trigger && overlaps true p q)) p q ≡ true
    by_puts None q is is_too = absurd (false≢true is)
    by_puts (Some p) None is is_too = absurd (false≢true is_too)
    by_puts (Some p) (Some q) is is_too =
        or_left (p.mid == q.mid) (same_flag p.trigger q.trigger && overlaps true p q) (eq-eqb p.mid q.mid (eqb-true p.mid mid is ∙ sym (eqb-true q.mid mid is_too)))

pub one_mid : (client : Client) (mid t : ℕ) (entries : List Entry)
    → tally (λ (m : Mitigation). is_of client m.put && has_mid mid m.put) (mitigations t entries) ≤ 1
one_mid client mid t entries = one_live (λ e. is_of client e && has_mid mid e) (ends_of client mid) t entries

-- ---- live ones of a client don't overlap
overlap_ends : (a b : Entry) → overlap_of_client a b ≡ true → ends a b ≡ true
unfolding overlap_of_client ends replaces
overlap_ends a b is =
    let parts = and_parts (same_client a b) (holds_of_both same_overlap (put_of a.change) (put_of b.change)) is in
    and_from
    (same_client a b)
    (holds_of_both (λ (p q : Put). (p.mid == q.mid) || (same_flag p.trigger q.trigger && overlaps true p q)) (put_of a.change) (put_of b.change))
    parts.0
    (by_puts (put_of a.change) (put_of b.change) parts.1)
  where
    by_puts : (p q : Option Put) → holds_of_both same_overlap p q ≡ true
        → holds_of_both (λ (p q : Put). (p.mid == q.mid) || (same_flag p.trigger q.trigger && overlaps true p q)) p q ≡ true
    by_puts None q both = absurd (false≢true both)
    by_puts (Some p) None both = absurd (false≢true both)
    by_puts (Some p) (Some q) both = or_right (p.mid == q.mid) (same_flag p.trigger q.trigger && overlaps true p q) both

none_overlaps : (t : ℕ) (put : Entry) (later : List Entry) → list_any (ends put) later ≡ false
    → list_any (λ (m : Mitigation). overlap_of_client put m.put) (mitigations t later) ≡ false
none_overlaps t put [] none = refl
none_overlaps t put (x ∷ later) none =
    let parts = or_parts (ends put x) (list_any (ends put) later) none in
    let go = none_overlaps t put later parts.1 in
    cond_both
    (live t x (status x Open later))
    (Some (record { put = x; status = status x Open later }))
    None
    (λ o. list_any (λ (m : Mitigation). overlap_of_client put m.put) (option_to_list o ++ mitigations t later) ≡ false)
    (λ now.
    or_from
    (overlap_of_client put x)
    (list_any (λ (m : Mitigation). overlap_of_client put m.put) (mitigations t later))
    (false_from_ne_true (overlap_of_client put x) (λ is. both_ways (ends put x) parts.0 (overlap_ends put x is)))
    go)
    (λ dead. go)

pub live_apart : (t : ℕ) (entries : List Entry) → AreApart (mitigations t entries)
live_apart t [] = record {}
live_apart t (e ∷ later) =
    let go = live_apart t later in
    cond_both
    (live t e (status e Open later))
    (Some (record { put = e; status = status e Open later }))
    None
    (λ o. AreApart (option_to_list o ++ mitigations t later))
    (λ now. (none_overlaps t e later (none_ends t e Open later now), go))
    (λ dead. go)

-- ---- at most one of a kind whose later one undoes the earlier
module _ (test : Entry → Bool) (leads : (e x : Entry) → test e ≡ true → test x ≡ true → undoes e x ≡ true) where
  no_more : (e : Entry) (later : List Entry) → test e ≡ true → list_any (undoes e) later ≡ false → tally test (held later) ≤ 0
  no_more e [] is none = omega arith
  no_more e (x ∷ later) is none =
      let parts = or_parts (undoes e x) (list_any (undoes e) later) none in
      let go = no_more e later is parts.1 in
      let out = cond_both
      (test x)
      1
      0
      (λ k. k ≤ 0)
      (λ same. absurd (both_ways (undoes e x) parts.0 (leads e x is same)))
      (λ other. omega arith) in
      cond_both
      (stays x later)
      (Some x)
      None
      (λ o. tally test (option_to_list o ++ held later) ≤ 0)
      (λ stay. omega (arith, go, out))
      (λ gone. go)

  pub one_held : (entries : List Entry) → tally test (held entries) ≤ 1
  one_held [] = omega arith
  one_held (e ∷ later) =
      let go = one_held later in
      cond_both
      (stays e later)
      (Some e)
      None
      (λ o. tally test (option_to_list o ++ held later) ≤ 1)
      (λ stay.
      cond_both
      (test e)
      1
      0
      (λ k. k + tally test (held later) ≤ 1)
      (λ is.
      let rest = no_more e later is (not_is (list_any (undoes e) later) (and_parts (is_held e.change) (not (list_any (undoes e) later)) stay).1) in
      omega (arith, rest))
      (λ out. omega (arith, go)))
      (λ gone. go)
    where
      not_is : (b : Bool) → not b ≡ true → b ≡ false
      not_is true is = absurd (false≢true is)
      not_is false is = refl

alias_undone : (name : List ℕ) (c later : Change) → writes_alias name c ≡ true → writes_alias name later ≡ true → undoes_of_client c later ≡ true
unfolding writes_alias undoes_of_client undoes_alias
alias_undone name (change.SetAlias a) (change.SetAlias b) is is_too =
    ap (λ n. bytes_eq n b.name) (sym ((bytes_eq-Decides name a.name).0 is)) ∙ is_too
alias_undone name (change.SetAlias a) _ is is_too = absurd (false≢true is_too)
alias_undone name _ later is is_too = absurd (false≢true is)

acl_undone : (name : List ℕ) (c later : Change) → writes_acl name c ≡ true → writes_acl name later ≡ true → undoes_of_client c later ≡ true
unfolding writes_acl undoes_of_client undoes_acl
acl_undone name (change.SetAcl a) (change.SetAcl b) is is_too =
    ap (λ n. bytes_eq n b.name) (sym ((bytes_eq-Decides name a.name).0 is)) ∙ is_too
acl_undone name (change.SetAcl a) _ is is_too = absurd (false≢true is_too)
acl_undone name _ later is is_too = absurd (false≢true is)

setting_undone : (c later : Change) → is_setting c ≡ true → is_setting later ≡ true → undoes_of_peer c later ≡ true
unfolding is_setting undoes_of_peer is_configuration
setting_undone (change.SetConfig sid config) (change.SetConfig other more) is is_too = refl
setting_undone (change.SetConfig sid config) _ is is_too = absurd (false≢true is_too)
setting_undone _ later is is_too = absurd (false≢true is)

by_client : (e x : Entry) → same_client e x ≡ true → undoes_of_client e.change x.change ≡ true → undoes e x ≡ true
unfolding undoes
by_client e x same undone =
    or_left
    (same_client e x && undoes_of_client e.change x.change)
    (reconfigures e x || resumes e x)
    (and_from (same_client e x) (undoes_of_client e.change x.change) same undone)

by_peer : (e x : Entry) → e.peer ≡ x.peer → undoes_of_peer e.change x.change ≡ true → undoes e x ≡ true
unfolding undoes reconfigures
by_peer e x same undone =
    or_right
    (same_client e x && undoes_of_client e.change x.change)
    (((e.peer == x.peer) && undoes_of_peer e.change x.change) || resumes e x)
    (or_left ((e.peer == x.peer) && undoes_of_peer e.change x.change) (resumes e x)
    (and_from (e.peer == x.peer) (undoes_of_peer e.change x.change) (eq-eqb e.peer x.peer same) undone))

pub one_alias : (client : Client) (name : List ℕ) (entries : List Entry) → tally (λ (e : Entry). is_of client e && writes_alias name e.change) (held entries) ≤ 1
one_alias client name entries =
    one_held
    (λ (e : Entry). is_of client e && writes_alias name e.change)
    (λ e x is is_too.
    let a = and_parts (is_of client e) (writes_alias name e.change) is in
    let b = and_parts (is_of client x) (writes_alias name x.change) is_too in
    by_client e x (same_of client e x a.0 b.0) (alias_undone name e.change x.change a.1 b.1))
    entries

pub one_acl : (client : Client) (name : List ℕ) (entries : List Entry) → tally (λ (e : Entry). is_of client e && writes_acl name e.change) (held entries) ≤ 1
one_acl client name entries =
    one_held
    (λ (e : Entry). is_of client e && writes_acl name e.change)
    (λ e x is is_too.
    let a = and_parts (is_of client e) (writes_acl name e.change) is in
    let b = and_parts (is_of client x) (writes_acl name x.change) is_too in
    by_client e x (same_of client e x a.0 b.0) (acl_undone name e.change x.change a.1 b.1))
    entries

pub one_setting : (peer : ℕ) (entries : List Entry) → tally (λ (e : Entry). is_setting e.change && (e.peer == peer)) (held entries) ≤ 1
one_setting peer entries =
    one_held
    (λ (e : Entry). is_setting e.change && (e.peer == peer))
    (λ e x is is_too.
    let a = and_parts (is_setting e.change) (e.peer == peer) is in
    let b = and_parts (is_setting x.change) (x.peer == peer) is_too in
    by_peer e x (eqb-true e.peer peer a.1 ∙ sym (eqb-true x.peer peer b.1)) (setting_undone e.change x.change a.0 b.0))
    entries
