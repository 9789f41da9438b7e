-- Tests of lists, by what is seen of the elements.
use Rattle.std.proofs.Common.{◌≡◌, Bool, ◌||◌, List, [], ◌∷◌, ◌++◌, map, refl, ap}
use Rattle.std.specs.List.{list_any}

pub any-map : {A B : Type 0} (test : B → Bool) (view : A → B) (xs : List A) → list_any test (map view xs) ≡ list_any (λ x. test (view x)) xs
any-map test view [] = refl
any-map test view (x ∷ xs) = ap (λ b. test (view x) || b) (any-map test view xs)

pub map-push : {A B : Type 0} (view : A → B) (xs : List A) (x : A) → map view (xs ++ x ∷ []) ≡ map view xs ++ view x ∷ []
map-push view [] x = refl
map-push view (y ∷ xs) x = ap (λ later. view y ∷ later) (map-push view xs x)
