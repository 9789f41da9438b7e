-- The numbers that draws leave.
use Rattle.std.proofs.Common.{◌≡◌, ℕ, ◌+◌, ◌*◌, ◌%◌}
use Rattle.std.proofs.Math.Nat.{mod-add-mod}
use Rattle.dots_load.specs.Draws.{next}

-- it makes no difference where the product wraps
pub wrapped : (x : ℕ) → (x * 6364136223846793005 % 18446744073709551616 + 1442695040888963407) % 18446744073709551616 ≡ next x
unfolding next
wrapped x = mod-add-mod (x * 6364136223846793005) 18446744073709551616 1442695040888963407
