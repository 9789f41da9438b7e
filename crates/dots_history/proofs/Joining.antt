-- An entry that joins a calm history leaves it calm at its end.
use Rattle.std.proofs.Common.{◌≡◌, ℕ, ◌+◌, ◌<◌, ◌≤◌, Bool, true, false, cond, not, ◌&&◌, ◌||◌, List, [], ◌∷◌, ◌++◌, filter, Option, Some, None, inl, inr, refl, sym, ap, ◌∙◌, subst, le_refl, le_trans, arith}
use Rattle.std.specs.Prelude.{◌==◌, nat_lt, nat_le, ◌^◌}
use Rattle.std.specs.List.{list_all, All}
use Rattle.std.proofs.lemmas.Bool.{false≢true, both_ways, cond_both, cases_Bool, and_parts, and_from, or_cases, or_left, or_right, not_from_true, not_from_false, eqb-true, ltb-true, leb-true, false_from_ne_true}
use Rattle.std.proofs.lemmas.Option.{none-some}
use Rattle.std.proofs.lemmas.List.Folds.{list_all-append}
use Rattle.std.proofs.lemmas.List.Elements.{All-nil, All-cons}
use Rattle.dots_settings.specs.declared.peer.Role.{Role}
use Rattle.dots_settings.specs.declared.peer.Role.TheVariants as role
use Rattle.dots_settings.specs.Settings.{SettingsValue}
use Rattle.dots_history.specs.declared.entry.Entry.{Entry}
use Rattle.dots_history.specs.declared.put.Put.{Put}
use Rattle.dots_history.specs.declared.status.Status.TheVariants.{Open}
use Rattle.dots_history.specs.declared.change.Change.{Change}
use Rattle.dots_history.specs.declared.change.Change.TheVariants as change
use Rattle.dots_history.specs.Entries.{same_client, put_of, withdrawn_mid, holds_of_both, overlaps, ends, replaces, withdraws, takes_back, is_held, undoes, undoes_of_client, undoes_alias, undoes_acl, is_deregister, undoes_of_peer, is_configuration, reconfigures, same_flag, resumes, is_lost}
use Rattle.dots_history.specs.Histories.{Mitigation, Within, tally, is_nil, live, step, mitigations, held}
use Rattle.dots_history.specs.Keeping.{moved}
use Rattle.dots_settings.specs.Lookups.{no_domain, role_of, prefixes_of}
use Rattle.dots_history.specs.Calm.{may_act, may_configure, change_inside, is_of_settings, came_rightly, is_own, capacities_of, IsCalmBy, acts_rightly, loses_rightly, waits_rightly}
use Rattle.dots_history.specs.Capacities.{KeepsCapacities, is_registration, is_alias, is_list, has_client}
use Rattle.dots_history.specs.Fits.{last_or, last_time, is_registered, registers_rightly, keeps_room, fits, is_of_mitigations, has_one_peer, joins}
use Rattle.dots_history.specs.Tables.{client_of, is_of}
use Rattle.dots_history.specs.Views.{mitigations_with, held_with}
use Rattle.dots_history.proofs.Adding.{adding}
use Rattle.dots_history.proofs.GoingOn.{held_push}
use Rattle.dots_history.proofs.Touching.{touches, touch_parts}
use Rattle.dots_history.proofs.Fitting.{push_calm}
use Rattle.dots_history.proofs.Single.{of_itself, is_of_client}
use Rattle.dots_history.proofs.ViewLemmas.{resumes_parts}

-- ---- how many pass a test, with one more entry that doesn't
zero : (b : Bool) → b ≡ false → cond b 1 0 + 0 ≤ 0
zero b out = subst (λ x. cond x 1 0 + 0 ≤ 0) (sym out) (omega arith)

pub tally_with : (q : Entry → Bool) (e : Entry) (ms : List Mitigation) → q e ≡ false
    → tally (λ (m : Mitigation). q m.put) (mitigations_with e ms) ≤ tally (λ (m : Mitigation). q m.put) ms
tally_with q e [] out =
    cond_both
    (live e.time e Open)
    (record { put = e; status = Open } ∷ [])
    []
    (λ ys. tally (λ (m : Mitigation). q m.put) ys ≤ 0)
    (λ is. zero (q e) out)
    (λ dead. omega arith)
tally_with q e (m ∷ ms) out =
    let go = tally_with q e ms out in
    cond_both
    (live e.time m.put (step m.put m.status e))
    (moved e m ∷ mitigations_with e ms)
    (mitigations_with e ms)
    (λ ys. tally (λ (x : Mitigation). q x.put) ys ≤ cond (q m.put) 1 0 + tally (λ (x : Mitigation). q x.put) ms)
    (λ is. omega (arith, go))
    (λ dead. omega (arith, go))

abbrev end : Entry → List Entry
end e = cond (is_held e.change) (e ∷ []) []

abbrev left : Entry → List Entry → List Entry
left e es = filter (λ (x : Entry). not (undoes x e)) es

pub tally_held : (q : Entry → Bool) (e : Entry) (es : List Entry) → q e ≡ false → tally q (held_with e es) ≤ tally q es
tally_held q e [] out = cond_both (is_held e.change) (e ∷ []) [] (λ ys. tally q ys ≤ 0) (λ is. zero (q e) out) (λ no. omega arith)
tally_held q e (x ∷ es) out =
    let go = tally_held q e es out in
    cond_both
    (not (undoes x e))
    (x ∷ left e es)
    (left e es)
    (λ ys. tally q (ys ++ end e) ≤ cond (q x) 1 0 + tally q es)
    (λ is. omega (arith, go))
    (λ no. omega (arith, go))

pub tally_same : {A : Type 0} (f g : A → Bool) → ((x : A) → f x ≡ g x) → (xs : List A) → tally f xs ≡ tally g xs
tally_same f g same [] = refl
tally_same f g same (x ∷ xs) =
    ap (λ b. cond b 1 0 + tally f xs) (same x) ∙ ap (λ k. cond (g x) 1 0 + k) (tally_same f g same xs)

-- ---- entries of one client are of the same clients
pub same_by : (client e x : Entry) → same_client client e ≡ true → same_client client x ≡ same_client e x
same_by client e x is =
    of_itself client x
    ∙ ap (λ c. is_of c x) (sym (is_of_client (client_of client) e (sym (of_itself client e) ∙ is)))
    ∙ sym (of_itself e x)

-- ---- what an entry that fits does
pub record FitsSo (settings : SettingsValue) (before : List Entry) (e : Entry) : Type 0 where
  pub later : last_time before ≤ e.time
  pub bounded : e.time < 2 ^ 48
  pub of_settings : is_of_settings settings e ≡ true
  pub registers : (not (is_registration e.change) || not (is_registered (held before) e)) ≡ true
  pub has_one : has_client (held before) e ≡ true
  pub of_domain : tally (λ (m : Mitigation). m.put.domain == e.domain) (mitigations e.time (before ++ e ∷ [])) ≤ settings.limits.domain_mitigations
  pub of_client : tally (λ (m : Mitigation). same_client e m.put) (mitigations e.time (before ++ e ∷ [])) ≤ settings.limits.client_mitigations
  pub registered : tally (λ (x : Entry). is_registration x.change && (x.domain == e.domain)) (held (before ++ e ∷ [])) ≤ settings.limits.clients
  pub aliased : tally (λ (x : Entry). is_alias x.change && same_client e x) (held (before ++ e ∷ [])) ≤ settings.limits.aliases
  pub listed : tally (λ (x : Entry). is_list x.change && same_client e x) (held (before ++ e ∷ [])) ≤ settings.limits.acls

pub fits_so : (settings : SettingsValue) (before : List Entry) (e : Entry) → fits settings before e ≡ true → FitsSo settings before e
fits_so settings before e is =
    let ms = mitigations e.time (before ++ e ∷ []) in
    let standing = held (before ++ e ∷ []) in
    let timed = nat_le (last_time before) e.time && nat_lt e.time (2 ^ 48) in
    let a = tally (λ (m : Mitigation). m.put.domain == e.domain) ms in
    let b = tally (λ (m : Mitigation). same_client e m.put) ms in
    let c = tally (λ (x : Entry). is_registration x.change && (x.domain == e.domain)) standing in
    let d = tally (λ (x : Entry). is_alias x.change && same_client e x) standing in
    let f = tally (λ (x : Entry). is_list x.change && same_client e x) standing in
    let halves = and_parts (timed && is_of_settings settings e) (registers_rightly (held before) e && keeps_room settings.limits e ms standing) is in
    let front = and_parts timed (is_of_settings settings e) halves.0 in
    let times = and_parts (nat_le (last_time before) e.time) (nat_lt e.time (2 ^ 48)) front.0 in
    let back = and_parts (registers_rightly (held before) e) (keeps_room settings.limits e ms standing) halves.1 in
    let clients = and_parts (not (is_registration e.change) || not (is_registered (held before) e)) (has_client (held before) e) back.0 in
    let rooms = and_parts
    (nat_le a settings.limits.domain_mitigations && nat_le b settings.limits.client_mitigations)
    (nat_le c settings.limits.clients && (nat_le d settings.limits.aliases && nat_le f settings.limits.acls))
    back.1 in
    let live_rooms = and_parts (nat_le a settings.limits.domain_mitigations) (nat_le b settings.limits.client_mitigations) rooms.0 in
    let held_rooms = and_parts (nat_le c settings.limits.clients) (nat_le d settings.limits.aliases && nat_le f settings.limits.acls) rooms.1 in
    let own_rooms = and_parts (nat_le d settings.limits.aliases) (nat_le f settings.limits.acls) held_rooms.1 in
    record {
      later = leb-true (last_time before) e.time times.0;
      bounded = ltb-true e.time (2 ^ 48) times.1;
      of_settings = front.1;
      registers = clients.0;
      has_one = clients.1;
      of_domain = leb-true a settings.limits.domain_mitigations live_rooms.0;
      of_client = leb-true b settings.limits.client_mitigations live_rooms.1;
      registered = leb-true c settings.limits.clients held_rooms.0;
      aliased = leb-true d settings.limits.aliases own_rooms.0;
      listed = leb-true f settings.limits.acls own_rooms.1;
    }

pub record JoinsSo (settings : SettingsValue) (before : List Entry) (e : Entry) : Type 0 where
  pub fits : FitsSo settings before e
  pub came : came_rightly e ≡ true
  pub peers : has_one_peer e (mitigations e.time before) ≡ true

pub joins_so : (settings : SettingsValue) (before : List Entry) (e : Entry) → joins settings before e ≡ true → JoinsSo settings before e
joins_so settings before e is =
    let parts = and_parts (fits settings before e) (came_rightly e && has_one_peer e (mitigations e.time before)) is in
    let more = and_parts (came_rightly e) (has_one_peer e (mitigations e.time before)) parts.1 in
    record { fits = fits_so settings before e parts.0; came = more.0; peers = more.1 }

-- ---- times
last_or_push : (t : ℕ) (before : List Entry) (e : Entry) → last_or t (before ++ e ∷ []) ≡ e.time
last_or_push t [] e = refl
last_or_push t (x ∷ before) e = last_or_push x.time before e

pub last_of_push : (before : List Entry) (e : Entry) → last_time (before ++ e ∷ []) ≡ e.time
last_of_push before e = last_or_push 0 before e

within_push : (low high : ℕ) (xs : List Entry) (e : Entry) → Within low xs high → high ≤ e.time → Within low (xs ++ e ∷ []) e.time
within_push low high [] e within less = (le_trans within less, le_refl e.time)
within_push low high (x ∷ xs) e within less = (within.0, within_push x.time high xs e within.1 less)

all_push : (test : Entry → Bool) (xs : List Entry) (e : Entry) → list_all test xs ≡ true → test e ≡ true → list_all test (xs ++ e ∷ []) ≡ true
all_push test [] e all is = and_from (test e) true is refl
all_push test (x ∷ xs) e all is =
    let parts = and_parts (test x) (list_all test xs) all in
    and_from (test x) (list_all test (xs ++ e ∷ [])) parts.0 (all_push test xs e parts.1 is)

-- ---- peers
put_changes : (c : Change) (put : Put) → put_of c ≡ Some put → is_of_mitigations c ≡ true
unfolding is_of_mitigations
put_changes (change.Put p) put is = refl
put_changes _ put is = absurd (none-some put is)

withdrawal_changes : (c : Change) (mid : ℕ) → withdrawn_mid c ≡ Some mid → is_of_mitigations c ≡ true
unfolding is_of_mitigations
withdrawal_changes (change.Withdraw m) mid is = refl
withdrawal_changes _ mid is = absurd (none-some mid is)

second_there : {A B : Type 0} → (test : A → B → Bool) (a : Option A) (b : Option B) → holds_of_both test a b ≡ true → (y : B) × (b ≡ Some y)
second_there test None b is = absurd (false≢true is)
second_there test (Some x) None is = absurd (false≢true is)
second_there test (Some x) (Some y) is = (y, refl)

-- what ends or withdraws a mitigation puts or withdraws one
touch_changes : (put e : Entry) → touches put e ≡ true → is_of_mitigations e.change ≡ true
unfolding ends replaces withdraws takes_back
touch_changes put e is =
    elim (or_cases
    (same_client put e && holds_of_both (λ (a b : Put). (a.mid == b.mid) || (same_flag a.trigger b.trigger && overlaps true a b)) (put_of put.change) (put_of e.change))
    (same_client put e && holds_of_both (λ (p : Put) mid. p.mid == mid) (put_of put.change) (withdrawn_mid e.change))
    is) [
      | inl ended ↦
          let both = and_parts (same_client put e) (holds_of_both (λ (a b : Put). (a.mid == b.mid) || (same_flag a.trigger b.trigger && overlaps true a b)) (put_of put.change) (put_of e.change)) ended in
          let there = second_there (λ (a b : Put). (a.mid == b.mid) || (same_flag a.trigger b.trigger && overlaps true a b)) (put_of put.change) (put_of e.change) both.1 in
          put_changes e.change there.0 there.1
      | inr taken ↦
          let both = and_parts (same_client put e) (holds_of_both (λ (p : Put) mid. p.mid == mid) (put_of put.change) (withdrawn_mid e.change)) taken in
          let there = second_there (λ (p : Put) mid. p.mid == mid) (put_of put.change) (withdrawn_mid e.change) both.1 in
          withdrawal_changes e.change there.0 there.1
    ]

abbrev HasPeer : Entry → Mitigation → Type 0
HasPeer e m = ends m.put e || withdraws m.put e ≡ true → e.peer ≡ m.put.peer

abbrev has_own_peer : Entry → Mitigation → Bool
has_own_peer e m = not (same_client m.put e) || (e.peer == m.put.peer)

of_all : (e : Entry) (ms : List Mitigation) → list_all (has_own_peer e) ms ≡ true → All (HasPeer e) ms
of_all e [] all = All-nil (HasPeer e)
of_all e (m ∷ ms) all =
    let parts = and_parts (has_own_peer e m) (list_all (has_own_peer e) ms) all in
    All-cons
    (HasPeer e)
    m
    ms
    (λ touched.
    elim (or_cases (not (same_client m.put e)) (e.peer == m.put.peer) parts.0) [
      | inl out ↦
          absurd (both_ways (not (same_client m.put e)) (not_from_true (same_client m.put e) (touch_parts m.put e touched).0) out)
      | inr same ↦ eqb-true e.peer m.put.peer same
    ])
    (of_all e ms parts.1)

none_touched : (e : Entry) (ms : List Mitigation) → is_of_mitigations e.change ≡ false → All (HasPeer e) ms
none_touched e [] out = All-nil (HasPeer e)
none_touched e (m ∷ ms) out =
    All-cons
    (HasPeer e)
    m
    ms
    (λ touched. absurd (both_ways (is_of_mitigations e.change) out (touch_changes m.put e touched)))
    (none_touched e ms out)

pub has_peers : (e : Entry) (ms : List Mitigation) → has_one_peer e ms ≡ true → All (HasPeer e) ms
has_peers e ms is =
    elim (cases_Bool (is_of_mitigations e.change)) [
      | inl does ↦
          elim (or_cases (not (is_of_mitigations e.change)) (list_all (has_own_peer e) ms) is) [
            | inl out ↦ absurd (both_ways (not (is_of_mitigations e.change)) (not_from_true (is_of_mitigations e.change) does) out)
            | inr all ↦ of_all e ms all
          ]
      | inr out ↦ none_touched e ms out
    ]

-- ---- the session configurations of a peer are of one domain
changes_configure : (earlier later : Change) → undoes_of_peer earlier later ≡ true → (is_configuration earlier ≡ true) × (is_configuration later ≡ true)
unfolding undoes_of_peer is_configuration
changes_configure (change.SetConfig sid config) later is = (refl, is)
changes_configure _ later is = absurd (false≢true is)

both_configure : (x e : Entry) → reconfigures x e ≡ true → (x.peer ≡ e.peer) × (is_configuration x.change ≡ true) × (is_configuration e.change ≡ true)
unfolding reconfigures
both_configure x e is =
    let parts = and_parts (x.peer == e.peer) (undoes_of_peer x.change e.change) is in
    let both = changes_configure x.change e.change parts.1 in
    (eqb-true x.peer e.peer parts.0, both.0, both.1)

configures : (settings : SettingsValue) (e : Entry) → is_of_settings settings e ≡ true → is_configuration e.change ≡ true
    → may_configure (role_of settings e.peer) e.domain ≡ true
configures settings e own is =
    let acts = may_act settings (role_of settings e.peer) e.domain && change_inside settings (prefixes_of settings e.domain) e.change in
    let told = sym (ap (λ b. cond b (is_nil e.cuid && may_configure (role_of settings e.peer) e.domain) acts) is) ∙ (and_parts (acts_rightly settings e) (loses_rightly settings e && waits_rightly settings e) own).0 in
    (and_parts (is_nil e.cuid) (may_configure (role_of settings e.peer) e.domain) told).1

one_domain_of : (r : Role) (a b : ℕ) → may_configure r a ≡ true → may_configure r b ≡ true → a ≡ b
one_domain_of role.Stranger a b is is_too = absurd (false≢true is)
one_domain_of (role.Client own) a b is is_too = sym (eqb-true own a is) ∙ eqb-true own b is_too
one_domain_of role.Gateway a b is is_too = eqb-true a no_domain is ∙ sym (eqb-true b no_domain is_too)

abbrev HasDomain : Entry → Entry → Type 0
HasDomain e x = reconfigures x e ≡ true → e.domain ≡ x.domain

same_domain : (settings : SettingsValue) (x e : Entry) → is_own settings x ≡ true → is_of_settings settings e ≡ true → HasDomain e x
same_domain settings x e own of_settings is =
    let both = both_configure x e is in
    let x_may = configures settings x (and_parts (is_of_settings settings x) (came_rightly x) own).0 both.1 in
    one_domain_of
    (role_of settings e.peer)
    e.domain
    x.domain
    (configures settings e of_settings both.2)
    (subst (λ p. may_configure (role_of settings p) x.domain ≡ true) both.0 x_may)

pub has_domains : (settings : SettingsValue) (xs : List Entry) (e : Entry) → list_all (is_own settings) xs ≡ true → is_of_settings settings e ≡ true
    → All (HasDomain e) xs
has_domains settings [] e all own = All-nil (HasDomain e)
has_domains settings (x ∷ xs) e all own =
    let parts = and_parts (is_own settings x) (list_all (is_own settings) xs) all in
    All-cons (HasDomain e) x xs (same_domain settings x e parts.0 own) (has_domains settings xs e parts.1 own)

-- ---- registered clients
undoes_both : (c x later : Change) → is_registration c ≡ true → is_alias x || is_list x ≡ true → undoes_of_client c later ≡ true
    → undoes_of_client x later ≡ true
unfolding is_registration is_alias is_list undoes_of_client undoes_alias undoes_acl is_deregister
undoes_both change.Register (change.SetAlias alias) change.Deregister is own undone = refl
undoes_both change.Register (change.SetAlias alias) _ is own undone = absurd (false≢true undone)
undoes_both change.Register (change.SetAcl acl) change.Deregister is own undone = refl
undoes_both change.Register (change.SetAcl acl) _ is own undone = absurd (false≢true undone)
undoes_both change.Register _ later is own undone = absurd (false≢true own)
undoes_both _ x later is own undone = absurd (false≢true is)

registration_of_client : (c later : Change) → is_registration c ≡ true → undoes_of_peer c later ≡ false
unfolding is_registration undoes_of_peer
registration_of_client change.Register later is = refl
registration_of_client _ later is = absurd (false≢true is)

owned_not_registered : (c later : Change) → is_registration c ≡ true → is_alias later || is_list later ≡ true → undoes_of_client c later ≡ false
unfolding is_registration is_alias is_list undoes_of_client is_deregister
owned_not_registered change.Register (change.SetAlias alias) is own = refl
owned_not_registered change.Register (change.SetAcl acl) is own = refl
owned_not_registered change.Register _ is own = absurd (false≢true own)
owned_not_registered _ later is own = absurd (false≢true is)

registration_no_loss : (c : Change) → is_registration c ≡ true → is_lost c ≡ false
unfolding is_registration is_lost
registration_no_loss change.Register is = refl
registration_no_loss _ is = absurd (false≢true is)

-- what undoes the registration of a client undoes its aliases and access lists
registration_undone : (r e : Entry) → is_registration r.change ≡ true → undoes r e ≡ true → (same_client r e ≡ true) × (undoes_of_client r.change e.change ≡ true)
unfolding undoes reconfigures
registration_undone r e is undone =
    elim (or_cases (same_client r e && undoes_of_client r.change e.change) (((r.peer == e.peer) && undoes_of_peer r.change e.change) || resumes r e) undone) [
      | inl of_client ↦ and_parts (same_client r e) (undoes_of_client r.change e.change) of_client
      | inr other ↦
          elim (or_cases ((r.peer == e.peer) && undoes_of_peer r.change e.change) (resumes r e) other) [
            | inl of_peer ↦
                absurd (both_ways
                (undoes_of_peer r.change e.change)
                (registration_of_client r.change e.change is)
                (and_parts (r.peer == e.peer) (undoes_of_peer r.change e.change) of_peer).1)
            | inr of_loss ↦ absurd (both_ways (is_lost r.change) (registration_no_loss r.change is) (resumes_parts r e of_loss).2)
          ]
    ]

undone_of_client : (x e : Entry) → same_client x e ≡ true → undoes_of_client x.change e.change ≡ true → undoes x e ≡ true
unfolding undoes
undone_of_client x e same undone =
    or_left
    (same_client x e && undoes_of_client x.change e.change)
    (reconfigures x e || resumes x e)
    (and_from (same_client x e) (undoes_of_client x.change e.change) same undone)

pub undone_with_client : (r x e : Entry) → is_registration r.change ≡ true → same_client r x ≡ true → is_alias x.change || is_list x.change ≡ true
    → undoes r e ≡ true → undoes x e ≡ true
undone_with_client r x e is same own undone =
    let parts = registration_undone r e is undone in
    undone_of_client
    x
    e
    (sym (same_by r x e same) ∙ parts.0)
    (undoes_both r.change x.change e.change is own parts.1)

pub stays_registered : (r e : Entry) → is_registration r.change ≡ true → is_alias e.change || is_list e.change ≡ true → undoes r e ≡ false
stays_registered r e is own =
    false_from_ne_true
    (undoes r e)
    (λ undone.
    both_ways
    (undoes_of_client r.change e.change)
    (owned_not_registered r.change e.change is own)
    (registration_undone r e is undone).1)

-- a registration that is held and isn't undone is still held
still_registered : (x e : Entry) (hs : List Entry) → ((r : Entry) → is_registration r.change && same_client r x ≡ true → undoes r e ≡ false)
    → is_registered hs x ≡ true → is_registered (held_with e hs) x ≡ true
still_registered x e [] stays is = absurd (false≢true is)
still_registered x e (r ∷ hs) stays is =
    elim (or_cases (is_registration r.change && same_client r x) (is_registered hs x) is) [
      | inl here ↦
          ap (λ b. is_registered (cond (not b) (r ∷ left e hs) (left e hs) ++ end e) x) (stays r here)
          ∙ or_left (is_registration r.change && same_client r x) (is_registered (held_with e hs) x) here
      | inr beyond ↦
          let go = still_registered x e hs stays beyond in
          cond_both
          (not (undoes r e))
          (r ∷ left e hs)
          (left e hs)
          (λ ys. is_registered (ys ++ end e) x ≡ true)
          (λ kept. or_right (is_registration r.change && same_client r x) (is_registered (held_with e hs) x) go)
          (λ gone. go)
    ]

registered_of : (hs : List Entry) (x : Entry) (b : Bool) → b ≡ true → (not b || is_registered hs x) ≡ true → is_registered hs x ≡ true
registered_of hs x true own is = is
registered_of hs x false own is = absurd (false≢true own)

client_still : (e : Entry) (hs : List Entry) (x : Entry) → has_client hs x ≡ true
    → (is_alias x.change || is_list x.change ≡ true → (r : Entry) → is_registration r.change && same_client r x ≡ true → undoes r e ≡ false)
    → has_client (held_with e hs) x ≡ true
client_still e hs x has stays =
    elim (cases_Bool (is_alias x.change || is_list x.change)) [
      | inl own ↦
          or_right
          (not (is_alias x.change || is_list x.change))
          (is_registered (held_with e hs) x)
          (still_registered x e hs (stays own) (registered_of hs x (is_alias x.change || is_list x.change) own has))
      | inr out ↦
          or_left
          (not (is_alias x.change || is_list x.change))
          (is_registered (held_with e hs) x)
          (not_from_false (is_alias x.change || is_list x.change) out)
    ]

-- those that stay have their clients
rest_owned : (e : Entry) (hs xs : List Entry) → list_all (has_client hs) xs ≡ true → list_all (has_client (held_with e hs)) (left e xs) ≡ true
rest_owned e hs [] all = refl
rest_owned e hs (x ∷ xs) all =
    let parts = and_parts (has_client hs x) (list_all (has_client hs) xs) all in
    let go = rest_owned e hs xs parts.1 in
    elim (cases_Bool (undoes x e)) [
      | inl undone ↦ ap (λ b. list_all (has_client (held_with e hs)) (cond (not b) (x ∷ left e xs) (left e xs))) undone ∙ go
      | inr stays ↦
          ap (λ b. list_all (has_client (held_with e hs)) (cond (not b) (x ∷ left e xs) (left e xs))) stays
          ∙ and_from
          (has_client (held_with e hs) x)
          (list_all (has_client (held_with e hs)) (left e xs))
          (client_still
          e
          hs
          x
          parts.0
          (λ own r is.
          let both = and_parts (is_registration r.change) (same_client r x) is in
          false_from_ne_true (undoes r e) (λ gone. both_ways (undoes x e) stays (undone_with_client r x e both.0 both.1 own gone))))
          go
    ]

pub owned_with : (e : Entry) (hs : List Entry) → list_all (has_client hs) hs ≡ true → has_client hs e ≡ true
    → list_all (has_client (held_with e hs)) (held_with e hs) ≡ true
owned_with e hs all own =
    list_all-append (has_client (held_with e hs)) (left e hs) (end e)
    ∙ and_from
    (list_all (has_client (held_with e hs)) (left e hs))
    (list_all (has_client (held_with e hs)) (end e))
    (rest_owned e hs hs all)
    (cond_both
    (is_held e.change)
    (e ∷ [])
    []
    (λ ys. list_all (has_client (held_with e hs)) ys ≡ true)
    (λ is.
    and_from
    (has_client (held_with e hs) e)
    true
    (client_still e hs e own (λ owns r is. stays_registered r e (and_parts (is_registration r.change) (same_client r e) is).0 owns))
    refl)
    (λ no. refl))

-- ---- capacities
module _ (settings : SettingsValue) (t : ℕ) (before : List Entry) (e : Entry) (calm : IsCalmBy settings t before) (less : t ≤ e.time)
    (so : FitsSo settings before e) where
  live_room : (q : Entry → Bool) (most : ℕ) → tally (λ (m : Mitigation). q m.put) (mitigations t before) ≤ most
      → (q e ≡ true → tally (λ (m : Mitigation). q m.put) (mitigations e.time (before ++ e ∷ [])) ≤ most)
      → tally (λ (m : Mitigation). q m.put) (mitigations e.time (before ++ e ∷ [])) ≤ most
  live_room q most few own =
      elim (cases_Bool (q e)) [
        | inl is ↦ own is
        | inr out ↦
            le_trans
            (subst
            (λ ms. tally (λ (m : Mitigation). q m.put) ms ≤ tally (λ (m : Mitigation). q m.put) (mitigations t before))
            (sym (adding t e before less))
            (tally_with q e (mitigations t before) out))
            few
      ]

  held_room : (q : Entry → Bool) (most : ℕ) → tally q (held before) ≤ most → (q e ≡ true → tally q (held (before ++ e ∷ [])) ≤ most)
      → tally q (held (before ++ e ∷ [])) ≤ most
  held_room q most few own =
      elim (cases_Bool (q e)) [
        | inl is ↦ own is
        | inr out ↦
            le_trans
            (subst (λ hs. tally q hs ≤ tally q (held before)) (sym (held_push e before)) (tally_held q e (held before) out))
            few
      ]

  keeps : KeepsCapacities (capacities_of settings) e.time (before ++ e ∷ [])
  keeps = record {
    live = λ domain.
        live_room
        (λ (x : Entry). x.domain == domain)
        settings.limits.domain_mitigations
        (calm.capacities.live domain)
        (λ is.
        subst
        (λ d. tally (λ (m : Mitigation). m.put.domain == d) (mitigations e.time (before ++ e ∷ [])) ≤ settings.limits.domain_mitigations)
        (eqb-true e.domain domain is)
        so.of_domain);
    registered = λ domain.
        held_room
        (λ (x : Entry). is_registration x.change && (x.domain == domain))
        settings.limits.clients
        (calm.capacities.registered domain)
        (λ is.
        subst
        (λ d. tally (λ (x : Entry). is_registration x.change && (x.domain == d)) (held (before ++ e ∷ [])) ≤ settings.limits.clients)
        (eqb-true e.domain domain (and_parts (is_registration e.change) (e.domain == domain) is).1)
        so.registered);
    owned = subst (λ hs. list_all (has_client hs) hs ≡ true) (sym (held_push e before)) (owned_with e (held before) calm.capacities.owned so.has_one);
    aliased = λ client.
        held_room
        (λ (x : Entry). is_alias x.change && same_client client x)
        settings.limits.aliases
        (calm.capacities.aliased client)
        (λ is.
        let same = (and_parts (is_alias e.change) (same_client client e) is).1 in
        subst
        (λ k. k ≤ settings.limits.aliases)
        (sym (tally_same
        (λ (x : Entry). is_alias x.change && same_client client x)
        (λ (x : Entry). is_alias x.change && same_client e x)
        (λ x. ap (λ b. is_alias x.change && b) (same_by client e x same))
        (held (before ++ e ∷ []))))
        so.aliased);
    listed = λ client.
        held_room
        (λ (x : Entry). is_list x.change && same_client client x)
        settings.limits.acls
        (calm.capacities.listed client)
        (λ is.
        let same = (and_parts (is_list e.change) (same_client client e) is).1 in
        subst
        (λ k. k ≤ settings.limits.acls)
        (sym (tally_same
        (λ (x : Entry). is_list x.change && same_client client x)
        (λ (x : Entry). is_list x.change && same_client e x)
        (λ x. ap (λ b. is_list x.change && b) (same_by client e x same))
        (held (before ++ e ∷ []))))
        so.listed);
  }

  of_one_client : (client : Entry)
      → tally (λ (m : Mitigation). same_client client m.put) (mitigations e.time (before ++ e ∷ [])) ≤ settings.limits.client_mitigations
  of_one_client client =
      live_room
      (same_client client)
      settings.limits.client_mitigations
      (calm.of_client client)
      (λ same.
      subst
      (λ k. k ≤ settings.limits.client_mitigations)
      (sym (tally_same
      (λ (m : Mitigation). same_client client m.put)
      (λ (m : Mitigation). same_client e m.put)
      (λ m. same_by client e m.put same)
      (mitigations e.time (before ++ e ∷ []))))
      so.of_client)

-- ---- all together
pub end_with : (settings : SettingsValue) (t : ℕ) (before : List Entry) (e : Entry) → IsCalmBy settings t before → t ≤ e.time → JoinsSo settings before e
    → IsCalmBy settings e.time (before ++ e ∷ [])
end_with settings t before e calm less so = record {
  times = within_push 0 t before e calm.times less;
  own = all_push (is_own settings) before e calm.own (and_from (is_of_settings settings e) (came_rightly e) so.fits.of_settings so.came);
  peers = push_calm before e calm.peers (has_peers e (mitigations e.time before) so.peers) (has_domains settings before e calm.own so.fits.of_settings);
  capacities = keeps settings t before e calm less so.fits;
  of_client = of_one_client settings t before e calm less so.fits;
}
