-- The number of some bits, put together from its parts.
use Rattle.std.proofs.Common.{◌≡◌, ℕ, suc, ◌+◌, ◌*◌, ◌^◌, ◌<◌, ◌≤◌, Bool, true, false, List, [], ◌∷◌, ◌++◌, length, refl, sym, ap, ◌∙◌, arith, if◌then◌else◌, pow-suc, mul-add, mul_assoc, mul_left_comm, mul_comm, map, drop, get_or, drop-cons, add-one, add-suc}
use Rattle.std.proofs.lemmas.List.{length-map, map-append}
use Rattle.std.proofs.lemmas.Nat.{shl_below, pow-add}
use Rattle.std.proofs.Math.Nat.{pow-le-pow_right}
use Rattle.conflict_rules.specs.ByOverlap.{bits}

power_more : (k : ℕ) → 2 ^ suc k ≡ 2 * 2 ^ k
power_more k = omega (arith, pow-suc 2 k)

pub bits_below : (bs : List Bool) → bits bs < 2 ^ length bs
bits_below [] = omega arith
bits_below (true ∷ bs) = omega (arith, power_more (length bs), bits_below bs)
bits_below (false ∷ bs) = omega (arith, power_more (length bs), bits_below bs)

pub bits_append : (xs ys : List Bool) → bits (xs ++ ys) ≡ bits xs + 2 ^ length xs * bits ys
bits_append [] ys = omega arith
bits_append (true ∷ xs) ys =
    let e : 2 ^ suc (length xs) * bits ys ≡ 2 * (2 ^ length xs * bits ys) = ap (λ w. w * bits ys) (power_more (length xs)) ∙ mul_assoc 2 (2 ^ length xs) (bits ys) in
    omega (arith, e, bits_append xs ys)
bits_append (false ∷ xs) ys =
    let e : 2 ^ suc (length xs) * bits ys ≡ 2 * (2 ^ length xs * bits ys) = ap (λ w. w * bits ys) (power_more (length xs)) ∙ mul_assoc 2 (2 ^ length xs) (bits ys) in
    omega (arith, e, bits_append xs ys)

-- a bit and those behind it, from its place on
placed : (place one rest : ℕ) → 2 ^ place * (one + 2 * rest) ≡ 2 ^ place * one + 2 ^ suc place * rest
placed place one rest =
    mul-add (2 ^ place) one (2 * rest)
    ∙ ap (λ w. 2 ^ place * one + w) (mul_left_comm (2 ^ place) 2 rest ∙ sym (mul_assoc 2 (2 ^ place) rest) ∙ ap (λ w. w * rest) (sym (power_more place)))

-- one bit more
pub bit_more : {A : Type 0} (test : A → Bool) (x : A) (xs : List A) (place index marks mark all : ℕ)
    → index < length xs → x ≡ get_or xs index x → mark ≡ 2 ^ (place + index) * (if test x then 1 else 0)
    → marks + 2 ^ (place + index) * bits (map test (drop index xs)) ≡ all
    → marks + mark + 2 ^ (place + (index + 1)) * bits (map test (drop (index + 1) xs)) ≡ all
bit_more test x xs place index marks mark all below is marked so_far =
    let rest : List _ = drop (suc index) xs in
    let front : drop index xs ≡ x ∷ rest = drop-cons xs index x below ∙ ap (λ y. y ∷ rest) (sym is) in
    let now : marks + 2 ^ (place + index) * ((if test x then 1 else 0) + 2 * bits (map test rest)) ≡ all = ap (λ ys. marks + 2 ^ (place + index) * bits (map test ys)) (sym front) ∙ so_far in
    let split : 2 ^ (place + index) * ((if test x then 1 else 0) + 2 * bits (map test rest)) ≡ 2 ^ (place + index) * (if test x then 1 else 0) + 2 ^ suc (place + index) * bits (map test rest) = placed (place + index) (if test x then 1 else 0) (bits (map test rest)) in
    let later : 2 ^ (place + (index + 1)) * bits (map test (drop (index + 1) xs)) ≡ 2 ^ suc (place + index) * bits (map test rest) = rw (add-one, add-suc) refl in
    omega (arith, now, split, later, marked)

-- what is marked from a place on fits below the last place
pub bits_fit : (place : ℕ) (bs : List Bool) → place + length bs ≤ 128 → 2 ^ place * bits bs < 2 ^ 128
bits_fit place bs room =
    let below : bits bs * 2 ^ place < 2 ^ (length bs + place) = shl_below (bits bs) (length bs) place (bits_below bs) in
    let within : 2 ^ (length bs + place) ≤ 2 ^ 128 = pow-le-pow_right {n = 2} (omega arith) (let m : length bs + place ≤ 128 = omega (arith, room) in m) in
    omega (arith, below, within, mul_comm (2 ^ place) (bits bs))

-- the bits of a list behind those of another
pub bits_behind : {A : Type 0} (test : A → Bool) (xs ys : List A) → bits (map test (xs ++ ys)) ≡ bits (map test xs) + 2 ^ length xs * bits (map test ys)
bits_behind test xs ys =
    rw (map-append test xs ys, bits_append (map test xs) (map test ys), length-map xs test) refl

-- a part more
pub part_more : {A : Type 0} (test : A → Bool) (xs ys : List A) (place marks mark all : ℕ)
    → mark ≡ 2 ^ place * bits (map test xs)
    → marks + 2 ^ place * bits (map test (xs ++ ys)) ≡ all
    → marks + mark + 2 ^ (place + length xs) * bits (map test ys) ≡ all
part_more test xs ys place marks mark all marked so_far =
    let now : marks + 2 ^ place * (bits (map test xs) + 2 ^ length xs * bits (map test ys)) ≡ all = ap (λ n. marks + 2 ^ place * n) (sym (bits_behind test xs ys)) ∙ so_far in
    let split : 2 ^ place * (bits (map test xs) + 2 ^ length xs * bits (map test ys)) ≡ 2 ^ place * bits (map test xs) + 2 ^ (place + length xs) * bits (map test ys)
    = mul-add (2 ^ place) (bits (map test xs)) (2 ^ length xs * bits (map test ys))
    ∙ ap (λ n. 2 ^ place * bits (map test xs) + n) (sym (mul_assoc (2 ^ place) (2 ^ length xs) (bits (map test ys))) ∙ ap (λ n. n * bits (map test ys)) (sym (pow-add 2 place (length xs)))) in
    omega (arith, now, split, marked)
