-- The first numbers of a client that begins at a second since 1970.
use Rattle.std.specs.Prelude.{ℕ, ◌+◌, ◌*◌, ◌%◌, ◌^◌}

-- the second itself, until 2072
abbrev pub mid_at : ℕ → ℕ
mid_at second = second % 3221225471

-- 65,536 numbers for each second, of which the first has 64 times the second as its Message ID
abbrev pub number_at : ℕ → ℕ
number_at second = second * 65536 + second % 1024 * 64

-- the Message ID of the request behind so many others
abbrev pub message_id : ℕ → ℕ → ℕ
message_id second behind = (number_at second + behind) % 2 ^ 16
