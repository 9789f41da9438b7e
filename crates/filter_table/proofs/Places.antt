-- Rows whose places are numbered anew, one after the other.
use Rattle.std.proofs.Common.{◌≡◌, ℕ, ◌+◌, ◌<◌, ◌≤◌, cond, ◌==◌, List, [], ◌∷◌, map, length, get_or, take, length-take-le, zero, suc, refl, ap, ◌∙◌, arith}
use Rattle.std.specs.List.{count_by, AllByRecursion}
use Rattle.std.proofs.lemmas.List.Sums.{sum_by-cons}
use Rattle.filter_table.specs.TableRows.{PlacedScrub, number_after, renumbered_from, renumbered, place_of_scrub, scrub_at_place}
use Rattle.filter_table.specs.Slots.{HasEachSlot}

after_at_most : (last number place : ℕ) → number_after last number place ≤ number + 1
after_at_most last number place = grind arith

after_same : (place : ℕ) → number_after place 0 place ≡ 0
after_same place = grind arith

-- each place is below the number of rows
all_below : {A : Type 0} → (place_of : A → ℕ) (at : ℕ → A → A) → ((n : ℕ) (x : A) → place_of (at n x) ≡ n) → (bound last number : ℕ) (xs : List A)
    → number + length xs < bound → AllByRecursion (λ x. place_of x < bound) (renumbered_from place_of at last number xs)
all_below place_of at put bound last number [] less = tt
all_below place_of at put bound last number (x ∷ xs) less =
    let here : number_after last number (place_of x) ≤ number + 1 = after_at_most last number (place_of x) in (
      omega (arith, less, here, put (number_after last number (place_of x)) x),
      all_below place_of at put bound (place_of x) (number_after last number (place_of x)) xs (omega (arith, less, here)),
    )

pub places_below : {A : Type 0} → (place_of : A → ℕ) (at : ℕ → A → A) → ((n : ℕ) (x : A) → place_of (at n x) ≡ n) → (xs : List A) (bound : ℕ) → length xs ≤ bound
    → AllByRecursion (λ x. place_of x < bound) (renumbered place_of at xs)
places_below place_of at put [] bound most = tt
places_below place_of at put (x ∷ xs) bound most =
    let here : number_after (place_of x) 0 (place_of x) ≡ 0 = after_same (place_of x) in (
      omega (arith, most, here, put (number_after (place_of x) 0 (place_of x)) x),
      all_below place_of at put bound (place_of x) (number_after (place_of x) 0 (place_of x)) xs (omega (arith, most, here)),
    )

-- ---- slots stay

counted_from : (s last number : ℕ) (placed : List PlacedScrub)
    → count_by (λ (x : PlacedScrub). x.slot == s) (renumbered_from place_of_scrub scrub_at_place last number placed) ≡ count_by (λ (x : PlacedScrub). x.slot == s) placed
counted_from s last number [] = refl
counted_from s last number (x ∷ placed) =
    let n = number_after last number x.place in
    let rest = renumbered_from place_of_scrub scrub_at_place x.place n placed in
    omega (arith, counted_from s x.place n placed, sum_by-cons (λ (y : PlacedScrub). cond (y.slot == s) 1 0) (scrub_at_place n x) rest, sum_by-cons (λ (y : PlacedScrub). cond (y.slot == s) 1 0) x placed)

length_from : {A : Type 0} → (place_of : A → ℕ) (at : ℕ → A → A) (last number : ℕ) (xs : List A) → length (renumbered_from place_of at last number xs) ≡ length xs
length_from place_of at last number [] = refl
length_from place_of at last number (x ∷ xs) = ap suc (length_from place_of at (place_of x) (number_after last number (place_of x)) xs)

pub length-renumbered : {A : Type 0} → (place_of : A → ℕ) (at : ℕ → A → A) (xs : List A) → length (renumbered place_of at xs) ≡ length xs
length-renumbered place_of at [] = refl
length-renumbered place_of at (x ∷ xs) = length_from place_of at (place_of x) 0 (x ∷ xs)

counted : (s : ℕ) (placed : List PlacedScrub) → count_by (λ (x : PlacedScrub). x.slot == s) (renumbered place_of_scrub scrub_at_place placed) ≡ count_by (λ (x : PlacedScrub). x.slot == s) placed
counted s [] = refl
counted s (x ∷ placed) = counted_from s x.place 0 (x ∷ placed)

pub slots_renumbered : (room : ℕ) (free : List ℕ) (placed later : List PlacedScrub) → later ≡ renumbered place_of_scrub scrub_at_place placed
    → HasEachSlot room free placed → HasEachSlot room free later
slots_renumbered room free placed later rows has = record {
  once = λ s. omega (arith, has.once s, counted s placed, ap (count_by (λ (x : PlacedScrub). x.slot == s)) rows);
  number = omega (arith, has.number, ap length rows, length-renumbered place_of_scrub scrub_at_place placed);
}
