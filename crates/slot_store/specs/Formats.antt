-- The two formats of the records of a journal, as bytes. Which entry a record is of, the records of entries say.
use Rattle.std.specs.Prelude.{ℕ, ◌+◌, ◌*◌, ◌==◌, nat_le, if◌then◌else◌, List, [], ◌∷◌, ◌++◌, length, take, drop, slice_index_or}
use Rattle.sha2.specs.Sha256.{sha256}
use Rattle.slot_store.specs.declared.format.Format.{Format}
use Rattle.slot_store.specs.declared.format.Format.TheVariants.{One, Two}

-- the byte of the header that says a half's format
abbrev pub format_byte : Format → ℕ
format_byte One = 0
format_byte Two = 2

-- The seal of bytes: the first eight bytes of their SHA-256 (FIPS 180-4).
unfoldable pub seal : List ℕ → List ℕ
seal bytes = take 8 (sha256 bytes)

-- A record of the second format is a body and its seal.
abbrev pub sealed : List ℕ → List ℕ
sealed body = body ++ seal body

-- Where the number of the change stands in a record: behind a time of eight bytes, a peer of four, a domain of two, a cuid with its length in
-- a byte, a message's key of three, and a reply with its length in two.
abbrev pub change_place : List ℕ → ℕ
change_place bytes =
    slice_index_or bytes 14 0 + 20
    + 256 * slice_index_or bytes (slice_index_or bytes 14 0 + 18) 0
    + slice_index_or bytes (slice_index_or bytes 14 0 + 19) 0

-- The body in the second format of a record of the first whose change has this number at this place. A mitigation (1) gets its trigger value
-- behind its other fields, and one that waits (13) is 1 and that value is 0; any other change is spelled alike.
abbrev pub triggered_at : ℕ → ℕ → List ℕ → List ℕ
triggered_at at number bytes =
    if number == 1 then bytes ++ 1 ∷ []
    else (if number == 13 then take at bytes ++ 1 ∷ drop (at + 1) bytes ++ 0 ∷ [] else bytes)

unfoldable pub triggered : List ℕ → List ℕ
triggered bytes = triggered_at (change_place bytes) (slice_index_or bytes (change_place bytes) 0) bytes

-- A record of the first format becomes this record of the second. No record is longer than 8,180 bytes; longer bytes stay.
unfoldable pub upgraded : List ℕ → List ℕ
upgraded bytes = if nat_le (length bytes) 8180 then sealed (triggered bytes) else bytes

-- what a compaction writes of a record of this format: one of the second
abbrev pub rewritten : Format → List ℕ → List ℕ
rewritten One bytes = upgraded bytes
rewritten Two bytes = bytes
