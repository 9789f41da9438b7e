-- What a domain has of remembered replies and of rows comes from its own entries.
use Rattle.std.proofs.Common.{◌≡◌, ℕ, ◌+◌, Bool, true, false, cond, ◌&&◌, ◌||◌, not, List, [], ◌∷◌, ◌++◌, filter, map, Some, None, inl, inr, refl, sym, ap, ◌∙◌, arith}
use Rattle.std.specs.Prelude.{option_to_list, nat_lt, bytes_eq, ◌==◌}
use Rattle.std.specs.List.{list_any, flat_map}
use Rattle.std.proofs.lemmas.Bool.{false≢true, both_ways, cond_both, cond-true, cond-false, cases_Bool, and_left, and_right, or_from, eqb-true, eq-eqb, false_from_ne_true}
use Rattle.ip_scope.specs.Prefix.{PrefixValue}
use Rattle.acl_lists.specs.declared.acl.Acl.{Acl}
use Rattle.dots_history.specs.declared.entry.Entry.{Entry}
use Rattle.dots_history.specs.declared.put.Target.{Target}
use Rattle.dots_history.specs.declared.change.Change.{Change}
use Rattle.dots_history.specs.declared.change.Change.TheVariants as change
use Rattle.dots_history.specs.Entries.{same_client, is_signal, signals, may_repeat, is_held, undoes, undoes_of_client, undoes_of_peer, reconfigures, option_any, resumes, undoes_loss}
use Rattle.dots_history.specs.Histories.{Mitigation, tally, is_recent, or_else, remembered, mitigations, stays, held, alone}
use Rattle.dots_history.specs.Rows.{Row, rows_of, targets_of, acl_of, scrub_rows, list_rows}
use Rattle.dots_history.proofs.Remembering.{or_none}
use Rattle.dots_history.specs.Views.{mitigations_of}
use Rattle.dots_history.proofs.Recents.{signal_parts}
use Rattle.dots_history.proofs.Apart.{other_domain, apart}

-- what signals for another domain doesn't signal for this one
other_signals : (peer domain : ℕ) (e : Entry) → (e.domain == domain) ≡ false → signals peer domain e ≡ false
other_signals peer domain e other =
    false_from_ne_true
    (signals peer domain e)
    (λ is. both_ways (e.domain == domain) other (eq-eqb e.domain domain (signal_parts peer domain e is).2))

same_tally : (peer domain : ℕ) (later : List Entry) → tally (signals peer domain) (alone domain later) ≡ tally (signals peer domain) later
same_tally peer domain [] = refl
same_tally peer domain (e ∷ later) =
    cond_both
    (e.domain == domain)
    (e ∷ alone domain later)
    (alone domain later)
    (λ es. tally (signals peer domain) es ≡ tally (signals peer domain) (e ∷ later))
    (λ own. ap (λ k. cond (signals peer domain e) 1 0 + k) (same_tally peer domain later))
    (λ other.
    same_tally peer domain later
    ∙ (let zero_more : tally (signals peer domain) later ≡ 0 + tally (signals peer domain) later = omega arith in zero_more)
    ∙ sym (ap (λ b. cond b 1 0 + tally (signals peer domain) later) (other_signals peer domain e other)))

recent_alone : (n peer domain : ℕ) (e : Entry) (later : List Entry) → (e.domain == domain) ≡ true → is_recent n e (alone domain later) ≡ is_recent n e later
recent_alone n peer domain e later own =
    let domain_is : e.domain ≡ domain = eqb-true e.domain domain own in
    ap (λ d. is_signal e.change && nat_lt (tally (signals e.peer d) (alone domain later)) n) domain_is
    ∙ ap (λ k. is_signal e.change && nat_lt k n) (same_tally e.peer domain later)
    ∙ sym (ap (λ d. is_signal e.change && nat_lt (tally (signals e.peer d) later) n) domain_is)

pub replies_alone : (n t peer domain id : ℕ) (entries : List Entry) → remembered n t peer domain id (alone domain entries) ≡ remembered n t peer domain id entries
replies_alone n t peer domain id [] = refl
replies_alone n t peer domain id (e ∷ later) =
    let go = replies_alone n t peer domain id later in
    cond_both
    (e.domain == domain)
    (e ∷ alone domain later)
    (alone domain later)
    (λ es. remembered n t peer domain id es ≡ remembered n t peer domain id (e ∷ later))
    (λ own.
    ap
    (λ o. or_else o (cond (signals peer domain e && (is_recent n e (alone domain later) && may_repeat t id e.time e.key)) (Some e) None))
    go
    ∙ ap
    (λ b. or_else (remembered n t peer domain id later) (cond (signals peer domain e && (b && may_repeat t id e.time e.key)) (Some e) None))
    (recent_alone n peer domain e later own))
    (λ other.
    go
    ∙ sym (or_none (remembered n t peer domain id later))
    ∙ sym (ap
    (λ b. or_else (remembered n t peer domain id later) (cond (b && (is_recent n e later && may_repeat t id e.time e.key)) (Some e) None))
    (other_signals peer domain e other)))

-- rows
abbrev of_domain : ℕ → Row → Bool
of_domain domain row = row.put.domain == domain

abbrev row_with : Entry → Target → PrefixValue → Row
row_with put target prefix = record { put = put; target = target; prefix = prefix }

all_of_domain : (domain : ℕ) (put : Entry) (target : Target) (prefixes : List PrefixValue) → (put.domain == domain) ≡ true
    → filter (of_domain domain) (map (row_with put target) prefixes) ≡ map (row_with put target) prefixes
all_of_domain domain put target [] own = refl
all_of_domain domain put target (p ∷ prefixes) own =
    cond-true
    (put.domain == domain)
    (row_with put target p ∷ filter (of_domain domain) (map (row_with put target) prefixes))
    (filter (of_domain domain) (map (row_with put target) prefixes))
    own
    ∙ ap (λ rows. row_with put target p ∷ rows) (all_of_domain domain put target prefixes own)

none_of_domain : (domain : ℕ) (put : Entry) (target : Target) (prefixes : List PrefixValue) → (put.domain == domain) ≡ false
    → filter (of_domain domain) (map (row_with put target) prefixes) ≡ []
none_of_domain domain put target [] other = refl
none_of_domain domain put target (p ∷ prefixes) other =
    cond-false
    (put.domain == domain)
    (row_with put target p ∷ filter (of_domain domain) (map (row_with put target) prefixes))
    (filter (of_domain domain) (map (row_with put target) prefixes))
    other
    ∙ none_of_domain domain put target prefixes other

filter_both : {A : Type 0} → (test : A → Bool) (xs ys : List A) → filter test (xs ++ ys) ≡ filter test xs ++ filter test ys
filter_both test [] ys = refl
filter_both test (x ∷ xs) ys =
    cond_both
    (test x)
    (x ∷ filter test xs)
    (filter test xs)
    (λ zs. cond (test x) (x ∷ filter test (xs ++ ys)) (filter test (xs ++ ys)) ≡ zs ++ filter test ys)
    (λ is. cond-true (test x) (x ∷ filter test (xs ++ ys)) (filter test (xs ++ ys)) is ∙ ap (λ zs. x ∷ zs) (filter_both test xs ys))
    (λ out. cond-false (test x) (x ∷ filter test (xs ++ ys)) (filter test (xs ++ ys)) out ∙ filter_both test xs ys)

abbrev rows_of_targets : Entry → List Target → List Row
rows_of_targets put targets = flat_map (λ (target : Target). map (row_with put target) target.prefixes) targets

all_rows : (domain : ℕ) (put : Entry) (targets : List Target) → (put.domain == domain) ≡ true
    → filter (of_domain domain) (rows_of_targets put targets) ≡ rows_of_targets put targets
all_rows domain put [] own = refl
all_rows domain put (target ∷ targets) own =
    filter_both (of_domain domain) (map (row_with put target) target.prefixes) (rows_of_targets put targets)
    ∙ ap (λ rows. rows ++ filter (of_domain domain) (rows_of_targets put targets)) (all_of_domain domain put target target.prefixes own)
    ∙ ap (λ rows. map (row_with put target) target.prefixes ++ rows) (all_rows domain put targets own)

no_rows : (domain : ℕ) (put : Entry) (targets : List Target) → (put.domain == domain) ≡ false
    → filter (of_domain domain) (rows_of_targets put targets) ≡ []
no_rows domain put [] other = refl
no_rows domain put (target ∷ targets) other =
    filter_both (of_domain domain) (map (row_with put target) target.prefixes) (rows_of_targets put targets)
    ∙ ap (λ rows. rows ++ filter (of_domain domain) (rows_of_targets put targets)) (none_of_domain domain put target target.prefixes other)
    ∙ no_rows domain put targets other

abbrev rows_in : List Mitigation → List Row
rows_in ms = flat_map (λ (m : Mitigation). rows_of m.put) ms

rows_in_domain : (domain : ℕ) (ms : List Mitigation) → rows_in (mitigations_of domain ms) ≡ filter (of_domain domain) (rows_in ms)
rows_in_domain domain [] = refl
rows_in_domain domain (m ∷ ms) =
    let go = rows_in_domain domain ms in
    cond_both
    (m.put.domain == domain)
    (m ∷ mitigations_of domain ms)
    (mitigations_of domain ms)
    (λ standing. rows_in standing ≡ filter (of_domain domain) (rows_in (m ∷ ms)))
    (λ own.
    ap (λ rows. rows_of m.put ++ rows) go
    ∙ sym (ap (λ rows. rows ++ filter (of_domain domain) (rows_in ms)) (all_rows domain m.put (targets_of m.put.change) own))
    ∙ sym (filter_both (of_domain domain) (rows_of m.put) (rows_in ms)))
    (λ other.
    go
    ∙ sym (ap (λ rows. rows ++ filter (of_domain domain) (rows_in ms)) (no_rows domain m.put (targets_of m.put.change) other))
    ∙ sym (filter_both (of_domain domain) (rows_of m.put) (rows_in ms)))

pub rows_alone : (domain t : ℕ) (entries : List Entry) → scrub_rows t (alone domain entries) ≡ filter (λ (row : Row). row.put.domain == domain) (scrub_rows t entries)
rows_alone domain t entries = ap rows_in (apart domain t entries) ∙ rows_in_domain domain (mitigations t entries)

-- access lists
abbrev writes_list : Entry → Bool
writes_list e = option_any (λ (acl : Acl). true) (acl_of e.change)

not_by_peer : (earlier later : Change) → option_any (λ (acl : Acl). true) (acl_of earlier) ≡ true → undoes_of_peer earlier later ≡ false
unfolding undoes_of_peer
not_by_peer (change.SetAcl acl) later is = refl
not_by_peer _ later is = absurd (false≢true is)

pub far_resumes : (e x : Entry) → (e.domain == x.domain) ≡ false → resumes e x ≡ false
unfolding resumes
far_resumes e x other =
    and_right (e.peer == x.peer) ((e.domain == x.domain) && undoes_loss e.change x.change) (and_left (e.domain == x.domain) (undoes_loss e.change x.change) other)

list_undone : (e x : Entry) → writes_list e ≡ true → (e.domain == x.domain) ≡ false → undoes e x ≡ false
unfolding undoes reconfigures same_client
list_undone e x is other =
    or_from
    (((e.domain == x.domain) && bytes_eq e.cuid x.cuid) && undoes_of_client e.change x.change)
    (((e.peer == x.peer) && undoes_of_peer e.change x.change) || resumes e x)
    (and_left ((e.domain == x.domain) && bytes_eq e.cuid x.cuid) (undoes_of_client e.change x.change) (and_left (e.domain == x.domain) (bytes_eq e.cuid x.cuid) other))
    (or_from ((e.peer == x.peer) && undoes_of_peer e.change x.change) (resumes e x)
    (and_right (e.peer == x.peer) (undoes_of_peer e.change x.change) (not_by_peer e.change x.change is)) (far_resumes e x other))

same_undone : (domain : ℕ) (e : Entry) (later : List Entry) → writes_list e ≡ true → (e.domain == domain) ≡ true
    → list_any (undoes e) (alone domain later) ≡ list_any (undoes e) later
same_undone domain e [] is own = refl
same_undone domain e (x ∷ later) is own =
    let go = same_undone domain e later is own in
    cond_both
    (x.domain == domain)
    (x ∷ alone domain later)
    (alone domain later)
    (λ es. list_any (undoes e) es ≡ list_any (undoes e) (x ∷ later))
    (λ same. ap (λ b. undoes e x || b) go)
    (λ other. go ∙ sym (ap (λ b. b || list_any (undoes e) later) (list_undone e x is (other_domain domain e x own other))))

list_passes : (s : Bool) (e : Entry) (rest : List Entry) → writes_list e ≡ true
    → filter writes_list (option_to_list (cond s (Some e) None) ++ rest) ≡ option_to_list (cond s (Some e) None) ++ filter writes_list rest
list_passes true e rest is = cond-true (writes_list e) (e ∷ filter writes_list rest) (filter writes_list rest) is
list_passes false e rest is = refl

list_dropped : (s : Bool) (e : Entry) (rest : List Entry) → writes_list e ≡ false
    → filter writes_list (option_to_list (cond s (Some e) None) ++ rest) ≡ filter writes_list rest
list_dropped true e rest out = cond-false (writes_list e) (e ∷ filter writes_list rest) (filter writes_list rest) out
list_dropped false e rest out = refl

abbrev pub in_domain : ℕ → Entry → Bool
in_domain domain e = e.domain == domain

pub own_passes : (s : Bool) (domain : ℕ) (e : Entry) (rest : List Entry) → (e.domain == domain) ≡ true
    → filter (in_domain domain) (option_to_list (cond s (Some e) None) ++ rest) ≡ option_to_list (cond s (Some e) None) ++ filter (in_domain domain) rest
own_passes true domain e rest own = cond-true (e.domain == domain) (e ∷ filter (in_domain domain) rest) (filter (in_domain domain) rest) own
own_passes false domain e rest own = refl

pub other_dropped : (s : Bool) (domain : ℕ) (e : Entry) (rest : List Entry) → (e.domain == domain) ≡ false
    → filter (in_domain domain) (option_to_list (cond s (Some e) None) ++ rest) ≡ filter (in_domain domain) rest
other_dropped true domain e rest other = cond-false (e.domain == domain) (e ∷ filter (in_domain domain) rest) (filter (in_domain domain) rest) other
other_dropped false domain e rest other = refl

pub lists_alone : (domain : ℕ) (entries : List Entry) → list_rows (alone domain entries) ≡ alone domain (list_rows entries)
lists_alone domain [] = refl
lists_alone domain (e ∷ later) =
    let go = lists_alone domain later in
    elim (cases_Bool (writes_list e)) [
      | inl is ↦
          cond_both
          (e.domain == domain)
          (e ∷ alone domain later)
          (alone domain later)
          (λ es. list_rows es ≡ alone domain (list_rows (e ∷ later)))
          (λ own.
          list_passes (stays e (alone domain later)) e (held (alone domain later)) is
          ∙ ap (λ b. option_to_list (cond (is_held e.change && not b) (Some e) None) ++ list_rows (alone domain later)) (same_undone domain e later is own)
          ∙ ap (λ es. option_to_list (cond (stays e later) (Some e) None) ++ es) go
          ∙ sym (own_passes (stays e later) domain e (list_rows later) own)
          ∙ sym (ap (alone domain) (list_passes (stays e later) e (held later) is)))
          (λ other.
          go
          ∙ sym (other_dropped (stays e later) domain e (list_rows later) other)
          ∙ sym (ap (alone domain) (list_passes (stays e later) e (held later) is)))
      | inr out ↦
          cond_both
          (e.domain == domain)
          (e ∷ alone domain later)
          (alone domain later)
          (λ es. list_rows es ≡ alone domain (list_rows (e ∷ later)))
          (λ own.
          list_dropped (stays e (alone domain later)) e (held (alone domain later)) out
          ∙ go
          ∙ sym (ap (alone domain) (list_dropped (stays e later) e (held later) out)))
          (λ other. go ∙ sym (ap (alone domain) (list_dropped (stays e later) e (held later) out)))
    ]
