-- Prefixes that are marked by bits.
use Rattle.std.proofs.Common.{◌≡◌, ℕ, suc, ◌+◌, ◌*◌, ◌/◌, ◌%◌, ◌<◌, Bool, true, false, cond, if◌then◌else◌, List, [], ◌∷◌, ◌++◌, map, filter, length, drop, get_or, refl, sym, ap, ◌∙◌, drop-cons, add-one, append_assoc, arith}
use Rattle.std.specs.Prelude.{◌==◌}
use Rattle.std.proofs.lemmas.Bool.{cond-true, cond-false, eq-eqb}
use Rattle.ip_scope.specs.Prefix.{PrefixValue}
use Rattle.conflict_rules.specs.ByOverlap.{bits}
use Rattle.conflict_rules.specs.Marking.{marked}

first_set : (p : PrefixValue) (ps : List PrefixValue) (n : ℕ) → marked (p ∷ ps) (1 + 2 * n) ≡ p ∷ marked ps n
first_set p ps n =
    let odd : (1 + 2 * n) % 2 ≡ 1 = omega arith in
    let half : (1 + 2 * n) / 2 ≡ n = omega arith in
    cond-true
    ((1 + 2 * n) % 2 == 1)
    (p ∷ marked ps ((1 + 2 * n) / 2))
    (marked ps ((1 + 2 * n) / 2))
    (eq-eqb ((1 + 2 * n) % 2) 1 odd)
    ∙ ap (λ m. p ∷ marked ps m) half

first_clear : (p : PrefixValue) (ps : List PrefixValue) (n : ℕ) → marked (p ∷ ps) (0 + 2 * n) ≡ marked ps n
first_clear p ps n =
    let even : (0 + 2 * n) % 2 ≡ 0 = omega arith in
    let half : (0 + 2 * n) / 2 ≡ n = omega arith in
    cond-false
    ((0 + 2 * n) % 2 == 1)
    (p ∷ marked ps ((0 + 2 * n) / 2))
    (marked ps ((0 + 2 * n) / 2))
    (ap (λ m. m == 1) even)
    ∙ ap (marked ps) half

-- the bits of a test mark those that pass it
pub marked_bits : (test : PrefixValue → Bool) (ps : List PrefixValue) → marked ps (bits (map test ps)) ≡ filter test ps
marked_bits test [] = refl
marked_bits test (p ∷ ps) =
    let n : ℕ = bits (map test ps) in
    let go : marked ps n ≡ filter test ps = marked_bits test ps in
    elim (test p) as (λ b. marked (p ∷ ps) ((if b then 1 else 0) + 2 * n) ≡ cond b (p ∷ filter test ps) (filter test ps)) [
      | true ↦ first_set p ps n ∙ ap (λ qs. p ∷ qs) go
      | false ↦ first_clear p ps n ∙ go
    ]

-- ---- one prefix more
front_of : (x : PrefixValue) (xs : List PrefixValue) (i : ℕ) → i < length xs → x ≡ get_or xs i x → drop i xs ≡ x ∷ drop (i + 1) xs
front_of x xs i below is =
    drop-cons xs i x below
    ∙ ap (λ y. y ∷ drop (suc i) xs) (sym is)
    ∙ ap (λ n. x ∷ drop n xs) (sym (add-one i))

pub one_marked : (x : PrefixValue) (xs kept : List PrefixValue) (i left : ℕ) (all : List PrefixValue) → i < length xs → x ≡ get_or xs i x
    → left % 2 ≡ 1 → kept ++ marked (drop i xs) left ≡ all → (kept ++ x ∷ []) ++ marked (drop (i + 1) xs) (left / 2) ≡ all
one_marked x xs kept i left all below is set so_far =
    let rest : List PrefixValue = marked (drop (i + 1) xs) (left / 2) in
    append_assoc kept (x ∷ []) rest
    ∙ ap
    (λ ps. kept ++ ps)
    (sym (ap (λ ys. marked ys left) (front_of x xs i below is) ∙ cond-true (left % 2 == 1) (x ∷ rest) rest (eq-eqb (left % 2) 1 set)))
    ∙ so_far

pub one_passed : (x : PrefixValue) (xs kept : List PrefixValue) (i left : ℕ) (all : List PrefixValue) → i < length xs → x ≡ get_or xs i x
    → (left % 2 == 1) ≡ false → kept ++ marked (drop i xs) left ≡ all → kept ++ marked (drop (i + 1) xs) (left / 2) ≡ all
one_passed x xs kept i left all below is clear so_far =
    let rest : List PrefixValue = marked (drop (i + 1) xs) (left / 2) in
    ap
    (λ ps. kept ++ ps)
    (sym (ap (λ ys. marked ys left) (front_of x xs i below is) ∙ cond-false (left % 2 == 1) (x ∷ rest) rest clear))
    ∙ so_far
