-- Ranges of port numbers (RFC 8783, section 4.2.2; RFC 9132, section 4.4.1).
use Rattle.std.specs.Prelude.{ℕ}

-- the ports from the lower to the upper, both among them
pub record Ports : Type 0 where
  pub lower : ℕ
  pub upper : ℕ
