-- Who was notified isn't due any more, and who was passed over is.
use Rattle.std.proofs.Common.{◌≡◌, inl, inr, ℕ, ◌+◌, ◌<◌, ◌≤◌, zero, suc, Bool, true, false, List, [], ◌∷◌, ◌++◌, length, Option, Some, None, refl, sym, ap, ◌∙◌, subst, arith}
use Rattle.std.specs.Prelude.{slice_get, not, ◌||◌, nat_lt, is_some, MatchOption, if◌then◌else◌}
use Rattle.std.proofs.lemmas.Bool.{cond-true, cond-false, ltb-true, ltb-false, false≢true}
use Rattle.dots_host.specs.declared.out.OwnedOut.{OwnedOut}
use Rattle.coap_exchange.specs.Firsts.{replace_at}
use Rattle.coap_observe.specs.declared.due_among.DueAmong.{DueAmong}
use Rattle.coap_observe.specs.declared.due_among.DueAmong.TheVariants.{Nobody, Anybody}
use Rattle.coap_observe.specs.DueAmong.{AreNotified}
use Rattle.coap_observe.specs.Seen.{Lists, list_for}
use Rattle.coap_observe.specs.Observed.{ObservedValue, is_due, notified}
use Rattle.coap_observe.specs.Observing.{after_notice, NoneIsDue}
use Rattle.coap_observe.proofs.Notified.{notified_isnt_due, none_due}
use Rattle.session_core.specs.declared.contact.PeerContact.{PeerContact}
use Rattle.session_core.specs.Contacts.{numbered}
use Rattle.session_core.specs.Notifying.{Bodies, Notifies, is_gone, OneNotified, missing, sent, IsKnown}
use Rattle.session_core.proofs.Ordering.{Stands, stands_at, replaced}

pub quiet_first : (lists : Lists) (among : DueAmong) (rows : List ObservedValue) → NoneIsDue lists among 0 0 rows
quiet_first lists among rows place o from to there within = absurd (omega (arith, to))

-- two stretches one behind the other
pub quiet_both : (lists : Lists) (among : DueAmong) (rows : List ObservedValue) (from to : ℕ) → NoneIsDue lists among 0 from rows → NoneIsDue lists among from to rows → NoneIsDue lists among 0 to rows
quiet_both lists among rows from to front back place o first last there within = by_test (nat_lt place from) refl
  where
    by_test : (b : Bool) → nat_lt place from ≡ b → is_due lists o ≡ false
    by_test true is = front place o first (ltb-true place from is) there within
    by_test false is = back place o (ltb-false place from is) last there within

-- the same front
front_same : (front xs ys : List ObservedValue) (place : ℕ) (o : ObservedValue) → place < length front → slice_get (front ++ xs) place ≡ Some o → slice_get (front ++ ys) place ≡ Some o
front_same [] xs ys place o less there = absurd (omega (arith, less))
front_same (x ∷ front) xs ys zero o less there = there
front_same (x ∷ front) xs ys (suc place) o less there = front_same front xs ys place o (omega (arith, less)) there

some_is : (x y : ObservedValue) → Some x ≡ Some y → x ≡ y
some_is x y e = cc

-- the one behind a front
behind_front : (front ys : List ObservedValue) (x o : ObservedValue) (place : ℕ) → length front ≡ place → slice_get (front ++ x ∷ ys) place ≡ Some o → o ≡ x
behind_front [] ys x o zero is there = some_is o x (sym there)
behind_front [] ys x o (suc place) is there = absurd (omega (arith, is))
behind_front (y ∷ front) ys x o zero is there = absurd (omega (arith, is))
behind_front (y ∷ front) ys x o (suc place) is there = behind_front front ys x o place (omega (arith, is)) there

-- one in front of a place is due
abbrev pub IsOneOwed : Lists → ℕ → List ObservedValue → Type 0
IsOneOwed lists from rows = (place : ℕ) × (o : ObservedValue) × (place < from) × (slice_get rows place ≡ Some o) × (is_due lists o ≡ true)

-- ---- the one at a place was notified

abbrev pub IsNotified : Lists → List ObservedValue → ℕ → ObservedValue → List ObservedValue → ℕ → Type 0
IsNotified lists rows place one new next =
    (id : ℕ) × (new ≡ replace_at place (after_notice lists id) rows) × (next ≡ (if is_gone lists one then place else place + 1))

module _ (lists : Lists) (among : DueAmong) (rows : List ObservedValue) (from place : ℕ) (one : ObservedValue) (there : slice_get rows place ≡ Some one) (later : from ≤ place)
    (new : List ObservedValue) (next : ℕ) (went : IsNotified lists rows place one new next) where
  here : Stands rows place one
  here = stands_at rows place one there

  now : new ≡ here.front ++ (after_notice lists went.0 one ++ here.back)
  now = went.1 ∙ ap (replace_at place (after_notice lists went.0)) here.are ∙ replaced (after_notice lists went.0) here.front here.back one place here.length_is

  -- what stands in front of it is the same
  pub was : (at : ℕ) (o : ObservedValue) → at < place → slice_get new at ≡ Some o → slice_get rows at ≡ Some o
  was at o less is =
      ap (λ xs. slice_get xs at) here.are
      ∙ front_same here.front (after_notice lists went.0 one ++ here.back) (one ∷ here.back) at o (let n = here.length_is in omega (arith, n, less)) (ap (λ xs. slice_get xs at) (sym now) ∙ is)

  stays : (at : ℕ) (o : ObservedValue) → at < place → slice_get rows at ≡ Some o → slice_get new at ≡ Some o
  stays at o less is =
      ap (λ xs. slice_get xs at) now
      ∙ front_same here.front (one ∷ here.back) (after_notice lists went.0 one ++ here.back) at o (let n = here.length_is in omega (arith, n, less)) (ap (λ xs. slice_get xs at) (sym here.are) ∙ is)

  pub at_place : is_gone lists one ≡ false → NoneIsDue lists among place (place + 1) new
  at_place left at o low less is within =
      let same : at ≡ place = omega (arith, low, less) in
      let stay = cond-false (is_gone lists one) [] (notified went.0 (list_for lists one.observer) one ∷ []) left in
      let rows_now = now ∙ ap (λ (xs : List ObservedValue). here.front ++ (xs ++ here.back)) stay in
      let o_is = behind_front here.front here.back (notified went.0 (list_for lists one.observer) one) o place here.length_is (ap (λ xs. slice_get xs place) (sym rows_now) ∙ subst (λ k. slice_get new k ≡ Some o) same is) in
      ap (is_due lists) o_is ∙ notified_isnt_due lists went.0 one

  quiet_on : NoneIsDue lists among 0 from rows → NoneIsDue lists among from place rows → NoneIsDue lists among 0 next new
  quiet_on quiet first = by_gone (is_gone lists one) refl
    where
      before : NoneIsDue lists among 0 place new
      before at o low less is within = quiet_both lists among rows from place quiet first at o low less (was at o less is) within

      by_gone : (b : Bool) → is_gone lists one ≡ b → NoneIsDue lists among 0 next new
      by_gone true gone = subst (λ n. NoneIsDue lists among 0 n new) (sym (went.2 ∙ cond-true (is_gone lists one) place (place + 1) gone)) before
      by_gone false left =
          subst (λ n. NoneIsDue lists among 0 n new) (sym (went.2 ∙ cond-false (is_gone lists one) place (place + 1) left))
          (quiet_both lists among new place (place + 1) before (at_place left))

  not_before : place ≤ next
  not_before = by_gone (is_gone lists one) refl
    where
      by_gone : (b : Bool) → is_gone lists one ≡ b → place ≤ next
      by_gone true gone = let to = went.2 ∙ cond-true (is_gone lists one) place (place + 1) gone in omega (arith, to)
      by_gone false left = let to = went.2 ∙ cond-false (is_gone lists one) place (place + 1) left in omega (arith, to)

  owed_on : IsOneOwed lists from rows → IsOneOwed lists next new
  owed_on owed =
      let less = owed.2 in
      let n = not_before in
      (owed.0, owed.1, omega (arith, less, later, n), stays owed.0 owed.1 (omega (arith, less, later)) owed.3, owed.4)

-- ---- the one at a place was notified, or passed over

abbrev pub Went : Lists → List ObservedValue → ℕ → ObservedValue → List ObservedValue → ℕ → Option (List ℕ) → Type 0
Went lists rows place one new next made = MatchOption made ((new ≡ rows) × (next ≡ place + 1)) (λ bytes. IsNotified lists rows place one new next)

pub went_so : (lists : Lists) (bodies : Bodies) (rows : List ObservedValue) (contacts : List PeerContact) (place : ℕ) (one : ObservedValue) (made : Option (List ℕ)) (sends : List OwnedOut)
    (new : List ObservedValue) (left : List PeerContact) (next : ℕ) → OneNotified lists bodies rows contacts place one made sends new left next → Went lists rows place one new next made
went_so lists bodies rows contacts place one made sends new left next (missing unmade none same still on) = subst (Went lists rows place one new next) (sym unmade) (same, on)
went_so lists bodies rows contacts place one made sends new left next (sent bytes written id has is became counted on) = subst (Went lists rows place one new next) (sym written) (id, became, on)

module _ (lists : Lists) (among : DueAmong) (rows : List ObservedValue) (from place : ℕ) (one : ObservedValue) (there : slice_get rows place ≡ Some one) (later : from ≤ place)
    (due : is_due lists one ≡ true) (new : List ObservedValue) (next : ℕ) where
  pub quiet_then : (made : Option (List ℕ)) (none passed : Bool) → is_some made ≡ not none → Went lists rows place one new next made → (passed ≡ false → NoneIsDue lists among 0 from rows) → NoneIsDue lists among from place rows
      → (passed || none) ≡ false → NoneIsDue lists among 0 next new
  quiet_then None false passed is went quiet first neither = absurd (false≢true is)
  quiet_then None true false is went quiet first neither = absurd (false≢true (sym neither))
  quiet_then None true true is went quiet first neither = absurd (false≢true (sym neither))
  quiet_then (Some bytes) none true is went quiet first neither = absurd (false≢true (sym neither))
  quiet_then (Some bytes) none false is went quiet first neither = quiet_on lists among rows from place one there later new next went (quiet refl) first

  pub owed_then : (made : Option (List ℕ)) (none passed : Bool) → is_some made ≡ not none → Went lists rows place one new next made → (passed ≡ true → IsOneOwed lists from rows)
      → (passed || none) ≡ true → IsOneOwed lists next new
  owed_then None none passed is went owed either =
      let to = went.1 in
      (place, one, omega (arith, to), ap (λ xs. slice_get xs place) went.0 ∙ there, due)
  owed_then (Some bytes) none true is went owed either = owed_on lists among rows from place one there later new next went (owed refl)
  owed_then (Some bytes) true false is went owed either = absurd (false≢true (sym is))
  owed_then (Some bytes) false false is went owed either = absurd (false≢true either)

-- ---- the others go on being notified

notified_behind : (lists : Lists) (among : DueAmong) (id : ℕ) (o : ObservedValue) (rest : List ObservedValue) → AreNotified lists among rest → AreNotified lists among (after_notice lists id o ++ rest)
notified_behind lists among id o rest are = by_gone (is_gone lists o) refl
  where
    by_gone : (b : Bool) → is_gone lists o ≡ b → AreNotified lists among (after_notice lists id o ++ rest)
    by_gone true gone =
        subst (λ xs. AreNotified lists among (xs ++ rest)) (sym (cond-true (is_gone lists o) [] (notified id (list_for lists o.observer) o ∷ []) gone)) are
    by_gone false left =
        subst (λ xs. AreNotified lists among (xs ++ rest)) (sym (cond-false (is_gone lists o) [] (notified id (list_for lists o.observer) o ∷ []) left))
        (λ out. notified_isnt_due lists id o, are)

pub notified_still : (lists : Lists) (bodies : Bodies) (among : DueAmong) (os : List ObservedValue) (contacts : List PeerContact) (sends : List OwnedOut) (new : List ObservedValue) (left : List PeerContact)
    → Notifies lists bodies os contacts sends new left → AreNotified lists among os → AreNotified lists among new
notified_still lists bodies among [] contacts sends new left is are = subst (AreNotified lists among) (sym is.1) tt
notified_still lists bodies among (o ∷ os) contacts sends new left (inl (rest, new_is, later)) are =
    subst (AreNotified lists among) (sym new_is) (are.0, notified_still lists bodies among os contacts sends rest left later are.1)
notified_still lists bodies among (o ∷ os) contacts sends new left (inr (id, behind, rest, due, has, sends_are, new_is, later)) are =
    subst (AreNotified lists among) (sym new_is)
    (notified_behind lists among id o rest (notified_still lists bodies among os (numbered o.observer.peer contacts) behind rest left later are.1))

-- in the end
pub known_behind : (lists : Lists) (among : DueAmong) (new : List ObservedValue) (from : ℕ) (passed : Bool) (behind : DueAmong) → behind ≡ (if passed then Anybody else Nobody) → AreNotified lists among new
    → (passed ≡ false → NoneIsDue lists among 0 from new) → NoneIsDue lists among from (length new) new → (passed ≡ true → IsOneOwed lists from new) → IsKnown lists behind new
known_behind lists among new from true behind is are quiet rest owed = let one = owed refl in inr (is, (one.0, one.1, one.3, one.4))
known_behind lists among new from false behind is are quiet rest owed =
    inl (is, none_due lists among new (quiet_both lists among new from (length new) (quiet refl) rest) are)
