-- What was read of two files, and of three.
use Rattle.std.proofs.Common.{◌≡◌, ℕ, List, Option, Some, None, take, subst}
use Rattle.std.specs.Prelude.{IfSome}

-- what holds of what was read holds of the fronts of what was there, where that is told
pub of_fronts : (P : List ℕ → List ℕ → Type 0) (most : ℕ) (left named : Option (List ℕ)) (content text : List ℕ) → IfSome left (λ file. content ≡ take most file)
    → IfSome named (λ file. text ≡ take most file) → P content text → IfSome left (λ file. IfSome named (λ host. P (take most file) (take most host)))
of_fronts P most None named content text is are holds = tt
of_fronts P most (Some file) None content text is are holds = tt
of_fronts P most (Some file) (Some host) content text is are holds = subst (λ front. P front (take most host)) is (subst (λ front. P content front) are holds)

pub of_three : (P : List ℕ → List ℕ → List ℕ → Type 0) (most : ℕ) (one two three : Option (List ℕ)) (first second third : List ℕ) → IfSome one (λ file. first ≡ take most file)
    → IfSome two (λ file. second ≡ take most file) → IfSome three (λ file. third ≡ take most file) → P first second third
    → IfSome one (λ x. IfSome two (λ y. IfSome three (λ z. P (take most x) (take most y) (take most z))))
of_three P most None two three first second third is are too holds = tt
of_three P most (Some x) two three first second third is are too holds =
    of_fronts (P (take most x)) most two three second third are too (subst (λ front. P front second third) is holds)
