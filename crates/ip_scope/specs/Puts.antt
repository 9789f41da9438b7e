-- Text that is put into a buffer.
use Rattle.std.specs.Prelude.{◌≡◌, ℕ, ◌+◌, List, ◌++◌, length, take, drop}

-- The text stands in the buffer from one place to another. What stood before it and after it stays.
pub record Puts (old new : List ℕ) (from to : ℕ) (text : List ℕ) : Type 0 where
  pub end : to ≡ from + length text
  pub front : take to new ≡ take from old ++ text
  pub rest : drop to new ≡ drop to old
