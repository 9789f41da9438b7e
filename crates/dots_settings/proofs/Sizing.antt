-- How large the number of entries that are kept of a domain can be.
use Rattle.std.proofs.Common.{ℕ, ◌*◌, ◌≤◌, arith}
use Rattle.std.proofs.Math.Nat.{mul-le-mul_right}

pub of_clients_most : (one other : ℕ) → one ≤ 8 → other ≤ 24 → one * other ≤ 192
of_clients_most one other low less = omega (arith, mul-le-mul_right other low, less)
