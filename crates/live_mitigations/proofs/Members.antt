-- Which slots are in a list.
use Rattle.std.proofs.Common.{◌≡◌, ℕ, ◌<◌, ◌≤◌, Bool, true, false, cond, ◌||◌, List, [], ◌∷◌, ◌++◌, refl, sym, ap, ◌∙◌, inl, inr, arith}
use Rattle.std.specs.Prelude.{nat_lt, ◌==◌}
use Rattle.std.specs.List.{list_any}
use Rattle.std.proofs.lemmas.Bool.{cases_order, cond_both, false≢true, ne_eqb, eq-eqb, eqb-true}
use Rattle.dots_history.specs.Slots.{Rises, placed}
use Rattle.dots_history.proofs.Placing.{rises_placed}
use Rattle.dots_history.specs.KeptPlaces.{union}

abbrev pub has : ℕ → List ℕ → Bool
has slot slots = list_any (λ other. other == slot) slots

swap_either : (a b c : Bool) → (a || (b || c)) ≡ (b || (a || c))
swap_either true true c = refl
swap_either true false c = refl
swap_either false b c = refl

regroup : (a b c : Bool) → (a || (b || c)) ≡ ((a || b) || c)
regroup true b c = refl
regroup false b c = refl

once : (a b : Bool) → (a || b) ≡ (a || (a || b))
once true b = refl
once false b = refl

-- any test that tells equal ones alike
any_placed : (test : ℕ → Bool) (x : ℕ) (xs : List ℕ) → list_any test (placed x xs) ≡ (test x || list_any test xs)
any_placed test x [] = refl
any_placed test x (y ∷ ys) =
    cond_both
    (nat_lt y x)
    (y ∷ placed x ys)
    (cond (y == x) (y ∷ ys) (x ∷ y ∷ ys))
    (λ zs. list_any test zs ≡ (test x || (test y || list_any test ys)))
    (λ less. ap (λ b. test y || b) (any_placed test x ys) ∙ swap_either (test y) (test x) (list_any test ys))
    (λ more.
    cond_both
    (y == x)
    (y ∷ ys)
    (x ∷ y ∷ ys)
    (λ zs. list_any test zs ≡ (test x || (test y || list_any test ys)))
    (λ same.
    let is : y ≡ x = eqb-true y x same in
    ap (λ z. test z || list_any test ys) is ∙ once (test x) (list_any test ys) ∙ ap (λ z. test x || (test z || list_any test ys)) (sym is))
    (λ other. refl))

pub any_union : (test : ℕ → Bool) (xs ys : List ℕ) → list_any test (union xs ys) ≡ (list_any test xs || list_any test ys)
any_union test [] ys = refl
any_union test (x ∷ xs) ys =
    any_placed test x (union xs ys) ∙ ap (λ b. test x || b) (any_union test xs ys) ∙ regroup (test x) (list_any test xs) (list_any test ys)

pub any_append : (test : ℕ → Bool) (xs ys : List ℕ) → list_any test (xs ++ ys) ≡ (list_any test xs || list_any test ys)
any_append test [] ys = refl
any_append test (x ∷ xs) ys = ap (λ b. test x || b) (any_append test xs ys) ∙ regroup (test x) (list_any test xs) (list_any test ys)

pub rises_union : (xs ys : List ℕ) → Rises ys → Rises (union xs ys)
rises_union [] ys rises = rises
rises_union (x ∷ xs) ys rises = rises_placed x (union xs ys) (rises_union xs ys rises)

-- ---- rising lists with the same slots are one
tail_of : (x : ℕ) (xs : List ℕ) → Rises (x ∷ xs) → Rises xs
tail_of x [] rises = record {}
tail_of x (y ∷ ys) rises = rises.1

-- what is no greater than what stands before a rising list isn't in it
above : (s x : ℕ) (xs : List ℕ) → Rises (x ∷ xs) → s ≤ x → has s xs ≡ false
above s x [] rises low = refl
above s x (y ∷ ys) rises low =
    let first = rises.0 in
    ap (λ b. b || has s ys) (ne_eqb y s (λ same. omega (arith, same, first, low))) ∙ above s y ys rises.1 (omega (arith, first, low))

has_first : (x : ℕ) (xs : List ℕ) → has x (x ∷ xs) ≡ true
has_first x xs = ap (λ b. b || has x xs) (eq-eqb x x refl)

-- of two that have the same, the first of the one isn't below the first of the other
not_below : (x y : ℕ) (xs ys : List ℕ) → Rises (y ∷ ys) → has x (x ∷ xs) ≡ has x (y ∷ ys) → x < y → ⊥
not_below x y xs ys rises same less =
    false≢true
    (sym (ap (λ b. b || has x ys) (ne_eqb y x (λ is. omega (arith, is, less))) ∙ above x y ys rises (omega (arith, less)))
    ∙ (sym same ∙ has_first x xs))

pub one_rising : (xs ys : List ℕ) → Rises xs → Rises ys → ((s : ℕ) → has s xs ≡ has s ys) → xs ≡ ys
one_rising [] [] rises also same = refl
one_rising [] (y ∷ ys) rises also same = absurd (false≢true (same y ∙ has_first y ys))
one_rising (x ∷ xs) [] rises also same = absurd (false≢true (sym (same x) ∙ has_first x xs))
one_rising (x ∷ xs) (y ∷ ys) rises also same =
    elim (cases_order x y) [
      | inl is ↦
          ap (λ z. z ∷ xs) is
          ∙ ap (λ zs. y ∷ zs)
          (one_rising xs ys (tail_of x xs rises) (tail_of y ys also) (tails is))
      | inr order ↦
          elim order [
            | inl less ↦ absurd (not_below x y xs ys also (same x) less)
            | inr more ↦ absurd (not_below y x ys xs rises (sym (same y)) more)
          ]
    ]
  where
    tails : x ≡ y → (s : ℕ) → has s xs ≡ has s ys
    tails is s =
        elim (cases_order s x) [
          | inl at ↦ above s x xs rises (omega (arith, at)) ∙ sym (above s y ys also (omega (arith, at, is)))
          | inr order ↦
              elim order [
                | inl less ↦ above s x xs rises (omega (arith, less)) ∙ sym (above s y ys also (omega (arith, less, is)))
                | inr more ↦
                    sym (ap (λ b. b || has s xs) (ne_eqb x s (λ at. omega (arith, at, more))))
                    ∙ same s
                    ∙ ap (λ b. b || has s ys) (ne_eqb y s (λ at. omega (arith, at, more, is)))
              ]
        ]

pub union_same : (xs ys items : List ℕ) → Rises items → ((s : ℕ) → has s xs ≡ has s ys) → union xs items ≡ union ys items
union_same xs ys items rises same =
    one_rising (union xs items) (union ys items) (rises_union xs items rises) (rises_union ys items rises)
    (λ s. any_union (λ other. other == s) xs items ∙ ap (λ b. b || has s items) (same s) ∙ sym (any_union (λ other. other == s) ys items))
