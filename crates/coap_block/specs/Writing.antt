-- What contracts see of a room.
use Rattle.std.specs.Prelude.{ℕ, List}

-- the bytes that were written, and the most that there can be
pub record Written : Type 0 where
  pub filled : List ℕ
  pub most : ℕ
