-- A slot in its place keeps a list rising.
use Rattle.std.proofs.Common.{◌≡◌, ℕ, ◌<◌, ◌≤◌, cond, List, [], ◌∷◌, arith}
use Rattle.std.specs.Prelude.{nat_lt, ◌==◌}
use Rattle.std.proofs.lemmas.Bool.{cond_both, ltb-true, ltb-false, eqb-false}
use Rattle.dots_history.specs.Slots.{Rises, placed}

-- what stands before a rising list is below its first
abbrev Below : ℕ → List ℕ → Type 0
Below x [] = Unit {0}
Below x (y ∷ ys) = x < y

rises_cons : (x : ℕ) (ys : List ℕ) → Below x ys → Rises ys → Rises (x ∷ ys)
rises_cons x [] below rises = record {}
rises_cons x (y ∷ ys) below rises = (below, rises)

rises_tail : (x : ℕ) (ys : List ℕ) → Rises (x ∷ ys) → Rises ys
rises_tail x [] rises = record {}
rises_tail x (y ∷ ys) rises = rises.1

below_placed : (x slot : ℕ) (ys : List ℕ) → x < slot → Rises (x ∷ ys) → Below x (placed slot ys)
below_placed x slot [] less rises = less
below_placed x slot (y ∷ ys) less rises =
    cond_both
    (nat_lt y slot)
    (y ∷ placed slot ys)
    (cond (y == slot) (y ∷ ys) (slot ∷ y ∷ ys))
    (Below x)
    (λ is. rises.0)
    (λ out. cond_both (y == slot) (y ∷ ys) (slot ∷ y ∷ ys) (Below x) (λ same. rises.0) (λ other. less))

pub rises_placed : (slot : ℕ) (xs : List ℕ) → Rises xs → Rises (placed slot xs)
rises_placed slot [] rises = record {}
rises_placed slot (x ∷ xs) rises =
    cond_both
    (nat_lt x slot)
    (x ∷ placed slot xs)
    (cond (x == slot) (x ∷ xs) (slot ∷ x ∷ xs))
    Rises
    (λ is. rises_cons x (placed slot xs) (below_placed x slot xs (ltb-true x slot is) rises) (rises_placed slot xs (rises_tail x xs rises)))
    (λ out.
    cond_both
    (x == slot)
    (x ∷ xs)
    (slot ∷ x ∷ xs)
    Rises
    (λ same. rises)
    (λ other.
    let above : slot ≤ x = ltb-false x slot out in
    let apart = eqb-false x slot other in
    (strictly above apart, rises)))
  where
    strictly : slot ≤ x → (x ≡ slot → ⊥) → slot < x
    strictly above apart = omega (arith, above, apart)
