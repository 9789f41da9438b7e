-- Slots put into their places one after the other.
use Rattle.std.proofs.Common.{◌≡◌, ℕ, ◌+◌, ◌<◌, ◌≤◌, cond, List, [], ◌∷◌, ◌++◌, length, drop, get_or, refl, sym, ap, ◌∙◌, inl, inr, le_refl, arith}
use Rattle.std.specs.Prelude.{nat_lt, ◌==◌}
use Rattle.std.proofs.lemmas.Bool.{cases_order, cond_both, cond-true, cond-false, lt-ltb, le-ltb, eq-eqb, ne_eqb}
use Rattle.std.proofs.lemmas.List.{drop_more}
use Rattle.dots_history.specs.Slots.{placed}
use Rattle.dots_history.specs.KeptPlaces.{union}

-- ---- one slot

placed_behind : (slot x : ℕ) (xs : List ℕ) → x < slot → placed slot (x ∷ xs) ≡ x ∷ placed slot xs
placed_behind slot x xs less =
    cond-true (nat_lt x slot) (x ∷ placed slot xs) (cond (x == slot) (x ∷ xs) (slot ∷ x ∷ xs)) (lt-ltb x slot less)

placed_there : (slot x : ℕ) (xs : List ℕ) → x ≡ slot → placed slot (x ∷ xs) ≡ x ∷ xs
placed_there slot x xs same =
    cond-false (nat_lt x slot) (x ∷ placed slot xs) (cond (x == slot) (x ∷ xs) (slot ∷ x ∷ xs)) (le-ltb x slot (omega (arith, same)))
    ∙ cond-true (x == slot) (x ∷ xs) (slot ∷ x ∷ xs) (eq-eqb x slot same)

placed_before : (slot x : ℕ) (xs : List ℕ) → slot < x → placed slot (x ∷ xs) ≡ slot ∷ x ∷ xs
placed_before slot x xs less =
    cond-false (nat_lt x slot) (x ∷ placed slot xs) (cond (x == slot) (x ∷ xs) (slot ∷ x ∷ xs)) (le-ltb x slot (omega (arith, less)))
    ∙ cond-false (x == slot) (x ∷ xs) (slot ∷ x ∷ xs) (ne_eqb x slot (λ same. omega (arith, less, same)))

placed_longer : (slot : ℕ) (xs : List ℕ) → length xs ≤ length (placed slot xs)
placed_longer slot [] = omega arith
placed_longer slot (x ∷ xs) =
    let rest = placed_longer slot xs in
    cond_both
    (nat_lt x slot)
    (x ∷ placed slot xs)
    (cond (x == slot) (x ∷ xs) (slot ∷ x ∷ xs))
    (λ zs. length (x ∷ xs) ≤ length zs)
    (λ is. omega (arith, rest))
    (λ out. cond_both (x == slot) (x ∷ xs) (slot ∷ x ∷ xs) (λ zs. length (x ∷ xs) ≤ length zs) (λ same. omega arith) (λ other. omega arith))

-- ---- two slots

-- the lower one comes before what the higher one and all others stand in
lower_first : (a b x : ℕ) (xs : List ℕ) → a < b → a < x → placed a (placed b (x ∷ xs)) ≡ a ∷ placed b (x ∷ xs)
lower_first a b x xs less also =
    cond_both
    (nat_lt x b)
    (x ∷ placed b xs)
    (cond (x == b) (x ∷ xs) (b ∷ x ∷ xs))
    (λ zs. placed a zs ≡ a ∷ zs)
    (λ is. placed_before a x (placed b xs) also)
    (λ out.
    cond_both
    (x == b)
    (x ∷ xs)
    (b ∷ x ∷ xs)
    (λ zs. placed a zs ≡ a ∷ zs)
    (λ same. placed_before a x xs also)
    (λ other. placed_before a b (x ∷ xs) less))

swap_lower : (a b : ℕ) (xs : List ℕ) → a < b → placed a (placed b xs) ≡ placed b (placed a xs)
swap_lower a b [] less = placed_before a b [] less ∙ sym (placed_behind b a [] less)
swap_lower a b (x ∷ xs) less =
    let rest = swap_lower a b xs less in
    elim (cases_order x a) [
      | inl same ↦
          let below : x < b = omega (arith, same, less) in
          ap (placed a) (placed_behind b x xs below)
          ∙ placed_there a x (placed b xs) same
          ∙ sym (ap (placed b) (placed_there a x xs same) ∙ placed_behind b x xs below)
      | inr order ↦
          elim order [
            | inl before ↦
                let below : x < b = omega (arith, before, less) in
                ap (placed a) (placed_behind b x xs below)
                ∙ placed_behind a x (placed b xs) before
                ∙ ap (λ zs. x ∷ zs) rest
                ∙ sym (ap (placed b) (placed_behind a x xs before) ∙ placed_behind b x (placed a xs) below)
            | inr after ↦
                lower_first a b x xs less after
                ∙ sym (ap (placed b) (placed_before a x xs after) ∙ placed_behind b a (x ∷ xs) less)
          ]
    ]

placed_swap : (a b : ℕ) (xs : List ℕ) → placed a (placed b xs) ≡ placed b (placed a xs)
placed_swap a b xs =
    elim (cases_order a b) [
      | inl same ↦ ap (λ s. placed a (placed s xs)) (sym same) ∙ ap (λ s. placed s (placed a xs)) same
      | inr order ↦ elim order [ inl less ↦ swap_lower a b xs less | inr more ↦ sym (swap_lower b a xs more) ]
    ]

-- ---- many slots

pub union_placed : (slot : ℕ) (xs ys : List ℕ) → union xs (placed slot ys) ≡ placed slot (union xs ys)
union_placed slot [] ys = refl
union_placed slot (x ∷ xs) ys = ap (placed x) (union_placed slot xs ys) ∙ placed_swap x slot (union xs ys)

pub union_swap : (xs more ys : List ℕ) → union xs (union more ys) ≡ union more (union xs ys)
union_swap [] more ys = refl
union_swap (x ∷ xs) more ys = ap (placed x) (union_swap xs more ys) ∙ sym (union_placed x more (union xs ys))

pub union_append : (xs more ys : List ℕ) → union (xs ++ more) ys ≡ union xs (union more ys)
union_append [] more ys = refl
union_append (x ∷ xs) more ys = ap (placed x) (union_append xs more ys)

pub union_longer : (xs ys : List ℕ) → length ys ≤ length (union xs ys)
union_longer [] ys = le_refl (length ys)
union_longer (x ∷ xs) ys = let rest = union_longer xs ys in let one = placed_longer x (union xs ys) in omega (arith, rest, one)

-- what is left of a list at a place
pub drop_next : {A : Type 0} (xs : List A) (i : ℕ) (x : A) → i < length xs → x ≡ get_or xs i x → drop i xs ≡ x ∷ drop (i + 1) xs
drop_next xs i x less is = drop_more xs i x less ∙ ap (λ y. y ∷ drop (i + 1) xs) (sym is)
