-- How large the number of kept entries can be.
use Rattle.std.proofs.Common.{ℕ, ◌*◌, ◌≤◌, arith}
use Rattle.std.proofs.Math.Nat.{mul-le-mul_right}

pub of_gateways_most : (one other : ℕ) → one ≤ 4 → other ≤ 17 → one * other ≤ 68
of_gateways_most one other low less = omega (arith, mul-le-mul_right other low, less)

pub product_of_small : (one other : ℕ) → one ≤ 64 → other ≤ 400 → one * other ≤ 25600
product_of_small one other low less = omega (arith, mul-le-mul_right other low, less)
