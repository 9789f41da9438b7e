-- The head of an item: its major type and its argument (RFC 8949, section 3), as short as it can be (section 4.2.1).
use Rattle.std.specs.Prelude.{ℕ, ◌+◌, ◌*◌, ◌^◌, nat_lt, if◌then◌else◌, List, [], ◌∷◌}
use Rattle.std.specs.Int.{w16, w32, w64, to_be_bytes}

-- The additional information: an argument below 24 itself, else 24, 25, 26 or 27 where it follows in 1, 2, 4 or 8 bytes.
unfoldable pub information : ℕ → ℕ
information n =
    if nat_lt n 24 then n else if nat_lt n (2 ^ 8) then 24 else if nat_lt n (2 ^ 16) then 25 else if nat_lt n (2 ^ 32) then 26 else 27

-- the bytes of the argument that follow the initial byte
unfoldable pub following : ℕ → List ℕ
following n =
    if nat_lt n 24 then [] else if nat_lt n (2 ^ 8) then n ∷ [] else if nat_lt n (2 ^ 16) then to_be_bytes w16 n
    else if nat_lt n (2 ^ 32) then to_be_bytes w32 n else to_be_bytes w64 n

-- The initial byte has the major type in its high 3 bits and the additional information in its low 5.
unfoldable pub head : ℕ → ℕ → List ℕ
head major n = (32 * major + information n) ∷ following n
