-- What one entry can do to another.
use Rattle.std.proofs.Common.{◌≡◌, ℕ, Bool, true, false, cond, ◌&&◌, ◌||◌, Option, Some, None, inl, inr, refl, sym, ap, ◌∙◌}
use Rattle.std.specs.Prelude.{bytes_eq, ◌==◌, nat_lt, ◌+◌}
use Rattle.std.proofs.lemmas.Bool.{false≢true, and_parts, and_from, and_left, or_from, or_cases, eqb-true, eq-eqb}
use Rattle.std.proofs.lemmas.Option.{none-some}
use Rattle.dots_history.specs.declared.entry.Entry.{Entry}
use Rattle.dots_history.specs.declared.put.Put.{Put}
use Rattle.dots_history.specs.declared.status.Status.{Status}
use Rattle.dots_history.specs.declared.status.Status.TheVariants.{Ended, Open, Withdrawn}
use Rattle.dots_history.specs.declared.change.Change.{Change}
use Rattle.dots_history.specs.declared.change.Change.TheVariants as change
use Rattle.dots_history.specs.Entries.{same_client, put_of, withdrawn_mid, holds_of_both, overlaps, replaces, ends, takes_back, withdraws, granted_at, option_any, is_unexpired, runs, is_signal, signals, is_held, same_flag}
use Rattle.dots_history.specs.Histories.{step, live}

-- the second of two that are there
second_there : {A B : Type 0} → (test : A → B → Bool) (a : Option A) (b : Option B) → holds_of_both test a b ≡ true → (y : B) × (b ≡ Some y)
second_there test None b is = absurd (false≢true is)
second_there test (Some x) None is = absurd (false≢true is)
second_there test (Some x) (Some y) is = (y, refl)

pub put_signals : (c : Change) (put : Put) → put_of c ≡ Some put → is_signal c ≡ true
unfolding is_signal
put_signals (change.Put p) put is = refl
put_signals _ put is = absurd (none-some put is)

withdrawal_signals : (c : Change) (mid : ℕ) → withdrawn_mid c ≡ Some mid → is_signal c ≡ true
unfolding is_signal
withdrawal_signals (change.Withdraw m) mid is = refl
withdrawal_signals _ mid is = absurd (none-some mid is)

withdrawal_no_put : (c : Change) (mid : ℕ) → withdrawn_mid c ≡ Some mid → put_of c ≡ None
withdrawal_no_put (change.Withdraw m) mid is = refl
withdrawal_no_put _ mid is = absurd (none-some mid is)

withdrawal_not_held : (c : Change) (mid : ℕ) → withdrawn_mid c ≡ Some mid → is_held c ≡ false
unfolding is_held
withdrawal_not_held (change.Withdraw m) mid is = refl
withdrawal_not_held _ mid is = absurd (none-some mid is)

pub held_no_put : (c : Change) → is_held c ≡ true → put_of c ≡ None
unfolding is_held
held_no_put (change.Put p) is = absurd (false≢true is)
held_no_put _ is = refl

-- what is no mitigation is never live
pub no_put_no_run : (t : ℕ) (e : Entry) → put_of e.change ≡ None → runs t e ≡ false
unfolding runs is_unexpired
no_put_no_run t e none = ap (option_any (λ (p : Put). granted_at t e.time p.granted)) none

pub never_live : (t : ℕ) (e : Entry) (s : Status) → put_of e.change ≡ None → live t e s ≡ false
never_live t e Ended none = refl
never_live t e Open none = or_from (runs t e) false (no_put_no_run t e none) refl
never_live t e (Withdrawn at) none = and_left (runs at e) (nat_lt t (at + 120)) (no_put_no_run at e none)

-- what ends or withdraws a mitigation is a signal entry of its client
pub ends_parts : (put e : Entry) → ends put e ≡ true → (same_client put e ≡ true) × (is_signal e.change ≡ true)
unfolding ends replaces
ends_parts put e is =
    let parts = and_parts (same_client put e) (replaces put.change e.change) is in
    let there = second_there (λ (a b : Put). (a.mid == b.mid) || (same_flag a.trigger b.trigger && overlaps true a b)) (put_of put.change) (put_of e.change) parts.1 in
    (parts.0, put_signals e.change there.0 there.1)

pub withdraws_parts : (put e : Entry) → withdraws put e ≡ true
    → (same_client put e ≡ true) × (is_signal e.change ≡ true) × (put_of e.change ≡ None) × (is_held e.change ≡ false)
unfolding withdraws takes_back
withdraws_parts put e is =
    let parts = and_parts (same_client put e) (takes_back put.change e.change) is in
    let there = second_there (λ (p : Put) mid. p.mid == mid) (put_of put.change) (withdrawn_mid e.change) parts.1 in
    (parts.0, withdrawal_signals e.change there.0 there.1, withdrawal_no_put e.change there.0 there.1, withdrawal_not_held e.change there.0 there.1)

-- a client has one domain
pub one_domain : (a b : Entry) → same_client a b ≡ true → b.domain ≡ a.domain
unfolding same_client
one_domain a b is = sym (eqb-true a.domain b.domain (and_parts (a.domain == b.domain) (bytes_eq a.cuid b.cuid) is).0)

pub as_signal : (peer domain : ℕ) (e : Entry) → is_signal e.change ≡ true → e.peer ≡ peer → e.domain ≡ domain → signals peer domain e ≡ true
unfolding signals
as_signal peer domain e is of_peer of_domain =
    and_from
    (is_signal e.change)
    ((e.peer == peer) && (e.domain == domain))
    is
    (and_from (e.peer == peer) (e.domain == domain) (eq-eqb e.peer peer of_peer) (eq-eqb e.domain domain of_domain))

abbrev pub touches : Entry → Entry → Bool
touches put e = ends put e || withdraws put e

pub touch_parts : (put e : Entry) → touches put e ≡ true → (same_client put e ≡ true) × (is_signal e.change ≡ true)
touch_parts put e is =
    elim (or_cases (ends put e) (withdraws put e) is) [
      | inl ended ↦ ends_parts put e ended
      | inr taken ↦ let parts = withdraws_parts put e taken in (parts.0, parts.1)
    ]

pub touch_signals : (put e : Entry) → touches put e ≡ true → e.peer ≡ put.peer → signals put.peer put.domain e ≡ true
touch_signals put e is of_peer =
    let parts = touch_parts put e is in as_signal put.peer put.domain e parts.1 of_peer (one_domain put e parts.0)

-- what does neither changes no status
pub untouched : (put : Entry) (s : Status) (e : Entry) → ends put e ≡ false → withdraws put e ≡ false → step put s e ≡ s
untouched put Ended e out untaken = refl
untouched put Open e out untaken =
    ap (λ b. cond b Ended (cond (withdraws put e) (Withdrawn e.time) Open)) out ∙ ap (λ b. cond b (Withdrawn e.time) Open) untaken
untouched put (Withdrawn at) e out untaken = ap (λ b. cond b Ended (Withdrawn at)) out
