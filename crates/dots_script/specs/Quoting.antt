-- How a field is quoted, so that each of its bytes can be seen.
use Rattle.std.specs.Prelude.{ℕ, ◌+◌, ◌/◌, ◌%◌, ◌==◌, ◌&&◌, ◌||◌, nat_le, nat_lt, if◌then◌else◌, List, [], ◌∷◌, ◌++◌, length, take, flat_map, codes}

-- one hexadecimal digit
abbrev pub hex_digit : ℕ → ℕ
hex_digit n = if nat_lt n 10 then 48 + n else 87 + n

-- A byte: a visible ASCII character and a space are themselves, but for `"` and `\`, before which a `\` stands. Any other byte
-- is `\x` and two hexadecimal digits.
abbrev pub escaped : ℕ → List ℕ
escaped byte =
    if byte == 34 || byte == 92 then 92 ∷ byte ∷ []
    else if nat_le 32 byte && nat_le byte 126 then byte ∷ []
    else 92 ∷ 120 ∷ hex_digit (byte / 16) ∷ hex_digit (byte % 16) ∷ []

-- the bytes in quotation marks
abbrev pub in_quotes : List ℕ → List ℕ
in_quotes bytes = 34 ∷ (flat_map escaped bytes ++ 34 ∷ [])

-- the same, where there are more than 128 bytes of the first 128 alone, with dots behind
abbrev pub quoted : List ℕ → List ℕ
quoted bytes = if nat_le (length bytes) 128 then in_quotes bytes else in_quotes (take 128 bytes) ++ codes "..."
