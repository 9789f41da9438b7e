-- Where no memory is refused, each observer that is due is notified, but for those whose peer was never heard.
use Rattle.std.proofs.Common.{◌≡◌, ℕ, ◌+◌, ◌<◌, ◌≤◌, zero, suc, Bool, true, false, List, [], ◌∷◌, length, Option, Some, None, refl, sym, ap, ◌∙◌, arith}
use Rattle.std.specs.Prelude.{slice_get, nat_lt}
use Rattle.std.proofs.lemmas.Bool.{cond-true, cond-false, ltb-true, ltb-false, false≢true}
use Rattle.dots_lists.specs.declared.memory.NoMemory.{NoMemory}
use Rattle.coap_observe.specs.declared.due_among.DueAmong.{DueAmong}
use Rattle.coap_observe.specs.DueAmong.{includes_one, AreNotified}
use Rattle.coap_observe.specs.Seen.{Lists}
use Rattle.coap_observe.specs.Observed.{ObservedValue, is_due}
use Rattle.coap_observe.specs.Observing.{NoneIsDue}
use Rattle.session_core.specs.declared.contact.PeerContact.{PeerContact}
use Rattle.session_core.specs.Contacts.{number_of}
use Rattle.session_core.specs.Notifying.{is_gone, OnlyUnheardAreDue, IsExcused}
use Rattle.session_core.proofs.Quiet.{was, at_place, Went}

pub excuse : (contacts : List PeerContact) (peer : ℕ) (made : Option (List ℕ)) (refused : Option NoMemory) → refused ≡ None → made ≡ None → IsExcused contacts peer made refused
    → number_of peer contacts ≡ None
excuse contacts peer None None none unmade excused = excused
excuse contacts peer None (Some fault) none unmade excused = absurd (cc)
excuse contacts peer (Some bytes) refused none unmade excused = absurd (cc)

-- ---- up to a place

-- from a place on, up to another, those of these that are due have a peer that was never heard
abbrev pub OnlyUnheard : Lists → DueAmong → List PeerContact → ℕ → ℕ → List ObservedValue → Type 0
OnlyUnheard lists among contacts from to observed =
    (place : ℕ) (o : ObservedValue) → from ≤ place → place < to → slice_get observed place ≡ Some o → includes_one among o ≡ true → is_due lists o ≡ true
    → number_of o.observer.peer contacts ≡ None

pub only_first : (lists : Lists) (among : DueAmong) (contacts : List PeerContact) (rows : List ObservedValue) → OnlyUnheard lists among contacts 0 0 rows
only_first lists among contacts rows place o from to there within due = absurd (omega (arith, to))

some_is : (x y : ObservedValue) → Some x ≡ Some y → x ≡ y
some_is x y e = cc

module _ (lists : Lists) (among : DueAmong) (rows : List ObservedValue) (from place : ℕ) (one : ObservedValue) (there : slice_get rows place ≡ Some one) (later : from ≤ place)
    (new : List ObservedValue) (next : ℕ) (contacts left : List PeerContact) where
  -- in front of the one at the place
  in_front : OnlyUnheard lists among contacts 0 from rows → NoneIsDue lists among from place rows → OnlyUnheard lists among contacts 0 place rows
  in_front only none at o first less is within due = by_test (nat_lt at from) refl
    where
      by_test : (b : Bool) → nat_lt at from ≡ b → number_of o.observer.peer contacts ≡ None
      by_test true lt = only at o first (ltb-true at from lt) is within due
      by_test false ge = absurd (false≢true (sym (none at o (ltb-false at from ge) less is within) ∙ due))

  pub only_then : (made : Option (List ℕ)) → Went lists rows place one new next made → (made ≡ None → number_of one.observer.peer contacts ≡ None)
      → ((peer : ℕ) → number_of peer contacts ≡ None → number_of peer left ≡ None)
      → OnlyUnheard lists among contacts 0 from rows → NoneIsDue lists among from place rows → OnlyUnheard lists among left 0 next new
  only_then None went excused still only none at o first less is within due = still o.observer.peer (by_test (nat_lt at place) refl)
    where
      there_too : slice_get rows at ≡ Some o
      there_too = ap (λ xs. slice_get xs at) (sym went.0) ∙ is

      by_test : (b : Bool) → nat_lt at place ≡ b → number_of o.observer.peer contacts ≡ None
      by_test true lt = in_front only none at o first (ltb-true at place lt) there_too within due
      by_test false ge =
          let to = went.1 in
          let low = ltb-false at place ge in
          let same : at ≡ place = omega (arith, to, low, less) in
          let it_is : o ≡ one = some_is o one (sym there_too ∙ ap (slice_get rows) same ∙ there) in
          ap (λ (x : ObservedValue). number_of x.observer.peer contacts) it_is ∙ excused refl
  only_then (Some bytes) went excused still only none at o first less is within due = by_test (nat_lt at place) refl
    where
      by_gone : (b : Bool) → is_gone lists one ≡ b → place ≤ at → number_of o.observer.peer left ≡ None
      by_gone true gone low = let to = went.2 ∙ cond-true (is_gone lists one) place (place + 1) gone in absurd (omega (arith, to, low, less))
      by_gone false stays low =
          let to = went.2 ∙ cond-false (is_gone lists one) place (place + 1) stays in
          absurd (false≢true (sym (at_place lists among rows from place one there later new next went stays at o low (omega (arith, to, less)) is within) ∙ due))

      by_test : (b : Bool) → nat_lt at place ≡ b → number_of o.observer.peer left ≡ None
      by_test true lt =
          let up = ltb-true at place lt in
          still o.observer.peer (in_front only none at o first up (was lists among rows from place one there later new next went at o up is) within due)
      by_test false ge = by_gone (is_gone lists one) refl (ltb-false at place ge)

-- ---- in the end

stands_within : (rows : List ObservedValue) (place : ℕ) (o : ObservedValue) → slice_get rows place ≡ Some o → place < length rows
stands_within [] place o there = absurd (cc)
stands_within (x ∷ xs) zero o there = omega arith
stands_within (x ∷ xs) (suc place) o there = let less = stands_within xs place o there in omega (arith, less)

notified_at : (lists : Lists) (among : DueAmong) (rows : List ObservedValue) (place : ℕ) (o : ObservedValue) → AreNotified lists among rows → slice_get rows place ≡ Some o → includes_one among o ≡ false
    → is_due lists o ≡ false
notified_at lists among [] place o are there out = absurd (cc)
notified_at lists among (x ∷ xs) zero o are there out =
    let same : o ≡ x = some_is o x (sym there) in ap (is_due lists) same ∙ are.0 (ap (includes_one among) (sym same) ∙ out)
notified_at lists among (x ∷ xs) (suc place) o are there out = notified_at lists among xs place o are.1 there out

pub only_behind : (lists : Lists) (among : DueAmong) (contacts : List PeerContact) (rows : List ObservedValue) (from : ℕ) → AreNotified lists among rows → OnlyUnheard lists among contacts 0 from rows
    → NoneIsDue lists among from (length rows) rows → OnlyUnheardAreDue lists contacts rows
only_behind lists among contacts rows from are only none place o there due = by_includes (includes_one among o) refl
  where
    by_place : (b : Bool) → nat_lt place from ≡ b → includes_one among o ≡ true → number_of o.observer.peer contacts ≡ None
    by_place true lt within = only place o (omega arith) (ltb-true place from lt) there within due
    by_place false ge within = absurd (false≢true (sym (none place o (ltb-false place from ge) (stands_within rows place o there) there within) ∙ due))

    by_includes : (b : Bool) → includes_one among o ≡ b → number_of o.observer.peer contacts ≡ None
    by_includes true within = by_place (nat_lt place from) refl within
    by_includes false out = absurd (false≢true (sym (notified_at lists among rows place o are there out) ∙ due))
