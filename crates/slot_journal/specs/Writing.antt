-- What a function writes behind other bytes, in no public contract.
use Rattle.std.specs.Prelude.{◌≡◌, ℕ, ◌+◌, ◌≤◌, List, ◌++◌, length}

-- These bytes, at most so many, stand behind the old ones where the longest record has room for both.
pub record Writes (most : ℕ) (bytes old new : List ℕ) : Type 0 where
  pub short : length bytes ≤ most
  pub written : length old + length bytes ≤ 7649 → new ≡ old ++ bytes
