-- A mitigation is live by its status exactly where it is by the places of the entries.
use Rattle.std.proofs.Common.{◌≡◌, ℕ, ◌+◌, ◌-◌, ◌<◌, inl, inr, Bool, true, false, List, [], ◌∷◌, drop, Some, zero, suc, refl, sym, ap, ◌∙◌, zero-add, arith}
use Rattle.std.specs.Prelude.{slice_get}
use Rattle.std.proofs.lemmas.Bool.{false≢true, both_ways, and_parts, and_from, or_cases, or_left, ltb-true, lt-ltb, cases_order}
use Rattle.std.proofs.lemmas.Option.{same_Some}
use Rattle.dots_history.specs.declared.entry.Entry.{Entry}
use Rattle.dots_history.specs.declared.status.Status.{Status}
use Rattle.dots_history.specs.declared.status.Status.TheVariants.{Ended, Open, Withdrawn}
use Rattle.dots_history.specs.Entries.{ends, withdraws, runs}
use Rattle.dots_history.specs.Histories.{status, live}
use Rattle.dots_history.specs.Places.{Stands, Terminating, Live}
use Rattle.dots_history.proofs.Fates.{NoneIs, HasFirst, Fate, fate_of}

slice_get-drop : (n : ℕ) (xs : List Entry) (k : ℕ) → slice_get (drop n xs) k ≡ slice_get xs (n + k)
slice_get-drop zero xs k = ap (slice_get xs) (sym (zero-add k))
slice_get-drop (suc n) [] k = refl
slice_get-drop (suc n) (x ∷ xs) k =
    let same : suc (n + k) ≡ suc n + k = omega arith in
    slice_get-drop n xs k ∙ ap (slice_get (x ∷ xs)) same

-- the place k of what comes after place i
pub after_place : (i : ℕ) (xs : List Entry) (k : ℕ) (e : Entry) → slice_get (drop (suc i) xs) k ≡ Some e → slice_get xs (suc i + k) ≡ Some e
after_place i xs k e found = sym (slice_get-drop (suc i) xs k) ∙ found

-- a place j beyond i, among what comes after place i
pub to_after : (i : ℕ) (xs : List Entry) (j : ℕ) (e : Entry) → i < j → slice_get xs j ≡ Some e → slice_get (drop (suc i) xs) (j - suc i) ≡ Some e
to_after i xs j e less found =
    let same : suc i + (j - suc i) ≡ j = omega (arith, less) in
    slice_get-drop (suc i) xs (j - suc i) ∙ ap (slice_get xs) same ∙ found

pub none_beyond : (test : Entry → Bool) (i : ℕ) (xs : List Entry) → NoneIs test (drop (suc i) xs)
    → (j : ℕ) (e : Entry) → i < j → slice_get xs j ≡ Some e → test e ≡ false
none_beyond test i xs none j e less found = none (j - suc i) e (to_after i xs j e less found)

live_there : (entries : List Entry) (i t : ℕ) (put : Entry) (s : Status) → slice_get entries i ≡ Some put
    → Fate put (drop (suc i) entries) s → live t put s ≡ true → Live entries i t put
live_there entries i t put Ended there fate is = absurd (false≢true is)
live_there entries i t put Open there fate is =
    elim (or_cases (runs t put) false is) [
      | inl now ↦ inl (record {
        there = there;
        not_ended = none_beyond (ends put) i entries fate.0;
        not_withdrawn = none_beyond (withdraws put) i entries fate.1;
        granted = now;
      })
      | inr never ↦ absurd (false≢true never)
    ]
live_there entries i t put (Withdrawn at) there fate is =
    let taken = fate.1 in
    let parts = and_parts (runs at put) _ is in
    let time : taken.entry.time ≡ at = taken.time in
    let soon : t < at + 120 = ltb-true t (at + 120) parts.1 in
    inr (record {
      there = there;
      not_ended = none_beyond (ends put) i entries fate.0;
      place = suc i + taken.place;
      withdrawal = taken.entry;
      later = omega arith;
      found = after_place i entries taken.place taken.entry taken.found;
      is_withdrawal = taken.passes;
      first = λ j e less before found. taken.first (j - suc i) e (omega (arith, less, before)) (to_after i entries j e less found);
      ran = ap (λ w. runs w put) time ∙ parts.0;
      before = omega (arith, soon, time);
    })

-- one that passes a test can't be among what fails it
not_beyond : (test : Entry → Bool) (i : ℕ) (xs : List Entry)
    → ((j : ℕ) (e : Entry) → i < j → slice_get xs j ≡ Some e → test e ≡ false)
    → (k : ℕ) (e : Entry) → slice_get (drop (suc i) xs) k ≡ Some e → test e ≡ true → ⊥
not_beyond test i xs none k e found is =
    both_ways (test e) (none (suc i + k) e (omega arith) (after_place i xs k e found)) is

stands_is_live : (entries : List Entry) (i t : ℕ) (put : Entry) (s : Status) → Stands entries i t put → Fate put (drop (suc i) entries) s → live t put s ≡ true
stands_is_live entries i t put Ended st fate = absurd (not_beyond (ends put) i entries st.not_ended fate.place fate.entry fate.found fate.passes)
stands_is_live entries i t put Open st fate = or_left (runs t put) false st.granted
stands_is_live entries i t put (Withdrawn at) st fate =
    let taken = fate.1 in absurd (not_beyond (withdraws put) i entries st.not_withdrawn taken.place taken.entry taken.found taken.passes)

-- the first withdrawal is one
same_time : (entries : List Entry) (i t at : ℕ) (put : Entry) → (te : Terminating entries i t put) → HasFirst (withdraws put) (drop (suc i) entries) at
    → te.withdrawal.time ≡ at
same_time entries i t at put te taken =
    let found : slice_get entries (suc i + taken.place) ≡ Some taken.entry = after_place i entries taken.place taken.entry taken.found in
    let beyond : i < te.place = te.later in
    elim (cases_order (suc i + taken.place) te.place) [
      | inl same ↦
          ap (λ (e : Entry). e.time) (same_Some te.withdrawal taken.entry (sym te.found ∙ ap (slice_get entries) (sym same) ∙ found)) ∙ taken.time
      | inr (inl less) ↦
          absurd (both_ways (withdraws put taken.entry) (te.first (suc i + taken.place) taken.entry (omega arith) less found) taken.passes)
      | inr (inr more) ↦
          absurd (both_ways
          (withdraws put te.withdrawal)
          (taken.first (te.place - suc i) te.withdrawal (omega (arith, more, beyond)) (to_after i entries te.place te.withdrawal beyond te.found))
          te.is_withdrawal)
    ]

terminating_is_live : (entries : List Entry) (i t : ℕ) (put : Entry) (s : Status) → Terminating entries i t put → Fate put (drop (suc i) entries) s → live t put s ≡ true
terminating_is_live entries i t put Ended te fate = absurd (not_beyond (ends put) i entries te.not_ended fate.place fate.entry fate.found fate.passes)
terminating_is_live entries i t put Open te fate =
    absurd (both_ways
    (withdraws put te.withdrawal)
    (fate.1 (te.place - suc i) te.withdrawal (to_after i entries te.place te.withdrawal te.later te.found))
    te.is_withdrawal)
terminating_is_live entries i t put (Withdrawn at) te fate =
    let time : te.withdrawal.time ≡ at = same_time entries i t at put te fate.1 in
    let soon : t < te.withdrawal.time + 120 = te.before in
    and_from _ _ (ap (λ w. runs w put) (sym time) ∙ te.ran) (lt-ltb t (at + 120) (omega (arith, soon, time)))

pub live_at_place : (entries : List Entry) (i t : ℕ) (put : Entry) → slice_get entries i ≡ Some put
    → live t put (status put Open (drop (suc i) entries)) ≡ true → Live entries i t put
live_at_place entries i t put there is =
    live_there entries i t put (status put Open (drop (suc i) entries)) there (fate_of put (drop (suc i) entries)) is

pub place_is_live : (entries : List Entry) (i t : ℕ) (put : Entry) → Live entries i t put → live t put (status put Open (drop (suc i) entries)) ≡ true
place_is_live entries i t put (inl st) =
    stands_is_live entries i t put (status put Open (drop (suc i) entries)) st (fate_of put (drop (suc i) entries))
place_is_live entries i t put (inr te) =
    terminating_is_live entries i t put (status put Open (drop (suc i) entries)) te (fate_of put (drop (suc i) entries))
