-- What stands at the first place that passes a test, and what is left without it.
use Rattle.std.proofs.Common.{◌≡◌, ℕ, suc, sym, nat_lt, get_or, ◌+◌, ◌<◌, ◌≤◌, Bool, true, false, not, List, [], ◌∷◌, ◌++◌, length, Option, Some, None, refl, ap, ◌∙◌, cond, arith}
use Rattle.std.specs.Prelude.{find, slice_get}
use Rattle.std.specs.List.{remove, position, position_or_len}
use Rattle.std.specs.Set.{remove_key}
use Rattle.std.proofs.lemmas.List.Folds.{find_at}
use Rattle.std.proofs.lemmas.Option.{slice_get-get_or}
use Rattle.std.proofs.lemmas.Bool.{ltb-true, ltb-false}

behind : {X : Type 0} (x : X) (xs : List X) (n : ℕ) → remove (x ∷ xs) (1 + n) ≡ x ∷ remove xs n
behind x xs n = let next : 1 + n ≡ suc n = omega arith in ap (remove (x ∷ xs)) next

first_removed : {X : Type 0} (p : X → Bool) (xs : List X) → position_or_len p xs < length xs → remove xs (position_or_len p xs) ≡ remove_key p xs
first_removed p [] h = absurd (omega (arith, h))
first_removed p (x ∷ xs) h =
    elim (p x) as (λ v. cond (not v) (1 + position_or_len p xs) 0 < suc (length xs) → remove (x ∷ xs) (cond (not v) (1 + position_or_len p xs) 0) ≡ cond v xs (x ∷ remove_key p xs)) [
      | true ↦ λ within. refl
      | false ↦ λ within. behind x xs (position_or_len p xs) ∙ ap (λ others. x ∷ others) (first_removed p xs (omega (arith, within)))
    ] h

none_removed : {X : Type 0} (p : X → Bool) (xs : List X) → length xs ≤ position_or_len p xs → remove_key p xs ≡ xs
none_removed p [] h = refl
none_removed p (x ∷ xs) h =
    elim (p x) as (λ v. suc (length xs) ≤ cond (not v) (1 + position_or_len p xs) 0 → cond v xs (x ∷ remove_key p xs) ≡ x ∷ xs) [
      | true ↦ λ beyond. absurd (omega (arith, beyond))
      | false ↦ λ beyond. ap (λ others. x ∷ others) (none_removed p xs (omega (arith, beyond)))
    ] h

none_found : {X : Type 0} (p : X → Bool) (xs : List X) → length xs ≤ position_or_len p xs → find p xs ≡ None
none_found p [] h = refl
none_found p (x ∷ xs) h =
    elim (p x) as (λ v. suc (length xs) ≤ cond (not v) (1 + position_or_len p xs) 0 → cond v (Some x) (find p xs) ≡ None) [
      | true ↦ λ beyond. absurd (omega (arith, beyond))
      | false ↦ λ beyond. none_found p xs (omega (arith, beyond))
    ] h

-- a place that was found
placed : {X : Type 0} (p : X → Bool) (xs : List X) (i : ℕ) → Some i ≡ position p xs → (position_or_len p xs < length xs) × (i ≡ position_or_len p xs)
placed p xs i =
    elim (nat_lt (position_or_len p xs) (length xs)) as (λ v. nat_lt (position_or_len p xs) (length xs) ≡ v → Some i ≡ cond v (Some (position_or_len p xs)) None → (position_or_len p xs < length xs) × (i ≡ position_or_len p xs)) [
      | true ↦ λ within is. (ltb-true _ _ within, cc)
      | false ↦ λ beyond is. absurd cc
    ] refl

-- and none
not_placed : {X : Type 0} (p : X → Bool) (xs : List X) → None ≡ position p xs → length xs ≤ position_or_len p xs
not_placed p xs =
    elim (nat_lt (position_or_len p xs) (length xs)) as (λ v. nat_lt (position_or_len p xs) (length xs) ≡ v → None ≡ cond v (Some (position_or_len p xs)) None → length xs ≤ position_or_len p xs) [
      | true ↦ λ within is. absurd cc
      | false ↦ λ beyond is. ltb-false _ _ beyond
    ] refl

pub taken_found : {X : Type 0} (p : X → Bool) (xs : List X) (i : ℕ) (x : X) → Some i ≡ position p xs → x ≡ get_or xs i x → Some x ≡ find p xs
taken_found p xs i x is at =
    let place = placed p xs i is in
    let there : i < length xs = omega (arith, place.0, place.1) in
    ap (λ y. Some y) at ∙ sym (slice_get-get_or xs i x there) ∙ ap (slice_get xs) place.1 ∙ sym (find_at p xs)

pub taken_rest : {X : Type 0} (p : X → Bool) (xs : List X) (i : ℕ) → Some i ≡ position p xs → remove xs i ≡ remove_key p xs
taken_rest p xs i is = let place = placed p xs i is in ap (remove xs) place.1 ∙ first_removed p xs place.0

pub missing_found : {X : Type 0} (p : X → Bool) (xs : List X) → None ≡ position p xs → None ≡ find p xs
missing_found p xs is = sym (none_found p xs (not_placed p xs is))

pub missing_rest : {X : Type 0} (p : X → Bool) (xs : List X) → None ≡ position p xs → xs ≡ remove_key p xs
missing_rest p xs is = sym (none_removed p xs (not_placed p xs is))
