-- Writing into a buffer.
use Rattle.std.specs.Prelude.{◌≡◌, ℕ, ◌+◌, ◌≤◌, List, ◌++◌, length, take, drop}

-- the buffer with these bytes from a place on, as it was before and behind them
abbrev pub put_at : ℕ → List ℕ → List ℕ → List ℕ
put_at at bytes buffer = take at buffer ++ bytes ++ drop (at + length bytes) buffer

-- the bytes were written at a place where there is room, and end at another
pub record IsPut (at : ℕ) (bytes old new : List ℕ) (behind : ℕ) : Type 0 where
  pub place : behind ≡ at + length bytes
  pub room : behind ≤ length old
  pub written : new ≡ put_at at bytes old
