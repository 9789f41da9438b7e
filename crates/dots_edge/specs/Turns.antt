-- Whose turn it is.
use Rattle.std.specs.Prelude.{ℕ, if◌then◌else◌, nat_lt}

-- the place that has the turn among so many: behind the last one it is the first again
abbrev pub whose_turn : ℕ → ℕ → ℕ
whose_turn turn count = if nat_lt turn count then turn else 0
