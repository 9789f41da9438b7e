-- What stands at a place of a list, and behind it.
use Rattle.std.proofs.Common.{◌≡◌, ℕ, zero, suc, ◌+◌, ◌<◌, ◌≤◌, List, [], ◌∷◌, ◌++◌, length, take, drop, get_or, drop-cons, add-one, Option, Some, None, refl, sym, ap, ◌∙◌, arith}
use Rattle.std.specs.Prelude.{slice_get}
use Rattle.coap_exchange.proofs.Firsts.{one_there}

pub drop_more : {A : Type 0} (xs : List A) (i : ℕ) (x : A) → i < length xs → x ≡ get_or xs i x → drop i xs ≡ x ∷ drop (i + 1) xs
drop_more xs i x less is = drop-cons xs i x less ∙ ap (λ y. y ∷ drop (suc i) xs) (sym is) ∙ ap (λ k. x ∷ drop k xs) (sym (add-one i))

-- what stands at a place, where there is something, is the front of what is left
abbrev pub at_front : {A : Type 0} → Option A → List A → List A
at_front None rest = []
at_front (Some x) rest = x ∷ rest

pub drop_front : {A : Type 0} (xs : List A) (i : ℕ) → drop i xs ≡ at_front (slice_get xs i) (drop (suc i) xs)
drop_front [] zero = refl
drop_front [] (suc i) = refl
drop_front (x ∷ xs) zero = refl
drop_front (x ∷ xs) (suc i) = drop_front xs i

take_one : {A : Type 0} (xs : List A) (i : ℕ) (x : A) → slice_get xs i ≡ Some x → take (suc i) xs ≡ take i xs ++ x ∷ []
take_one [] i x there = cc there
take_one (y ∷ xs) zero x there = ap (λ z. z ∷ []) (one_there y x there)
take_one (y ∷ xs) (suc i) x there = ap (λ zs. y ∷ zs) (take_one xs i x there)

pub take_more : {A : Type 0} (xs : List A) (i : ℕ) (x : A) → slice_get xs i ≡ Some x → take (i + 1) xs ≡ take i xs ++ x ∷ []
take_more xs i x there = ap (λ k. take k xs) (add-one i) ∙ take_one xs i x there

pub none_past : {A : Type 0} (xs : List A) (i : ℕ) → slice_get xs i ≡ None → length xs ≤ i
none_past [] i none = omega arith
none_past (x ∷ xs) zero none = cc none
none_past (x ∷ xs) (suc i) none = let less = none_past xs i none in omega (arith, less)
