-- The draws of a generated run: a linear congruential generator modulo 2^64, of whose numbers each draw gives the high 32 bits.
use Rattle.std.specs.Prelude.{ℕ, zero, suc, ◌+◌, ◌*◌, ◌/◌, ◌%◌, ◌^◌}

-- the number behind a number
unfoldable pub next : ℕ → ℕ
next x = (x * 6364136223846793005 + 1442695040888963407) % 2 ^ 64

-- the number after so many draws from a seed
abbrev pub number_after : ℕ → ℕ → ℕ
number_after seed zero = seed
number_after seed (suc draws) = next (number_after seed draws)

-- what is drawn where the number becomes this one
unfoldable pub high : ℕ → ℕ
high x = x / 2 ^ 32

-- the draw from a seed behind so many others
abbrev pub draw : ℕ → ℕ → ℕ
draw seed before = high (number_after seed (suc before))
