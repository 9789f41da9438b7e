-- The bits of a number, by their places.
use Rattle.std.proofs.Common.{◌≡◌, ℕ, zero, suc, ◌+◌, ◌*◌, ◌/◌, ◌%◌, ◌^◌, ◌<◌, ◌≤◌, Bool, true, false, List, [], ◌∷◌, length, map, Option, Some, None, slice_get, if◌then◌else◌, sym, ap, ◌∙◌, arith}
use Rattle.std.proofs.lemmas.Nat.{shr-shr, div_below, pow_pos}
use Rattle.std.proofs.lemmas.List.{length-map}
use Rattle.std.proofs.Math.Nat.{pow-le-pow_right}
use Rattle.ip_scope.specs.Prefix.{PrefixValue}
use Rattle.dots_history.specs.declared.put.Target.{Target}
use Rattle.conflict_rules.specs.declared.live.Live.{Live}
use Rattle.conflict_rules.specs.ByOverlap.{bits, meeting, meets_another, resolved}
use Rattle.conflict_rules.proofs.Bits.{bits_below}

abbrev one : Bool → ℕ
one b = if b then 1 else 0

half : (b : Bool) (rest : ℕ) → (one b + 2 * rest) / 2 ≡ rest
half true rest = omega arith
half false rest = omega arith

lowest : (b : Bool) (rest : ℕ) → (one b + 2 * rest) / 1 % 2 ≡ one b
lowest true rest = omega arith
lowest false rest = omega arith

deeper : (b : Bool) (rest i : ℕ) → (one b + 2 * rest) / 2 ^ suc i ≡ rest / 2 ^ i
deeper b rest i =
    let e : suc i ≡ 1 + i = omega arith in
    ap (λ k. (one b + 2 * rest) / 2 ^ k) e ∙ sym (shr-shr (one b + 2 * rest) 1 i) ∙ ap (λ n. n / 2 ^ i) (half b rest)

abbrev marked_at : {A : Type 0} → (A → Bool) → Option A → ℕ
marked_at test None = 0
marked_at test (Some x) = one (test x)

-- bit i is that of the place i
bit_at : {A : Type 0} (test : A → Bool) (xs : List A) (i : ℕ) → bits (map test xs) / 2 ^ i % 2 ≡ marked_at test (slice_get xs i)
bit_at test [] i = let none : 0 / 2 ^ i < 1 = div_below 0 (2 ^ i) 1 (pow_pos i) (omega (arith, pow_pos i)) in omega (arith, none)
bit_at test (y ∷ ys) zero = lowest (test y) (bits (map test ys))
bit_at test (y ∷ ys) (suc i) = ap (λ n. n % 2) (deeper (test y) (bits (map test ys)) i) ∙ bit_at test ys i

pub place_marked : (live : List Live) (cuid : List ℕ) (targets : List Target) (i : ℕ) (prefix : PrefixValue) → slice_get (resolved targets) i ≡ Some prefix
    → meeting live cuid targets / 2 ^ i % 2 ≡ (if meets_another live cuid prefix then 1 else 0)
place_marked live cuid targets i prefix there =
    bit_at (meets_another live cuid) (resolved targets) i ∙ ap (marked_at (meets_another live cuid)) there

pub none_beyond : (live : List Live) (cuid : List ℕ) (targets : List Target) (i : ℕ) → length (resolved targets) ≤ i
    → meeting live cuid targets / 2 ^ i ≡ 0
none_beyond live cuid targets i past =
    let bs : List Bool = map (meets_another live cuid) (resolved targets) in
    let few : length bs ≤ i = rw (length-map (resolved targets) (meets_another live cuid)) past in
    let within : 2 ^ length bs ≤ 2 ^ i = pow-le-pow_right {n = 2} (omega arith) few in
    let below : bits bs / 2 ^ i < 1 = div_below (bits bs) (2 ^ i) 1 (pow_pos i) (omega (arith, bits_below bs, within)) in
    omega (arith, below)
