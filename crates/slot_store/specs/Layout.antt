-- Where a journal lies on a disk: a header, and behind it two halves of as many slots, one record to a slot. The layout is this server's own.
use Rattle.std.specs.Prelude.{◌≡◌, ◌≢◌, ℕ, ◌+◌, ◌*◌, ◌%◌, ◌<◌, ◌≤◌, ◌⊎◌, List, [], ◌∷◌, ◌++◌, length, slice_index_or, codes}
use Rattle.std.specs.Int.{w32, to_be_bytes}
use Rattle.dots_host.specs.Media.{byte_of, bytes_at}
use Rattle.slot_store.specs.declared.format.Format.{Format}
use Rattle.slot_store.specs.declared.format.Format.TheVariants.{Two}
use Rattle.slot_store.specs.Formats.{format_byte}

-- the place of a slot: its gate, two bytes of length, and the record
abbrev pub place_of : ℕ → ℕ → ℕ → ℕ
place_of slots half slot = 8192 * (1 + half * slots + slot)

-- how many bytes the journal needs
abbrev pub needed_of : ℕ → ℕ
needed_of slots = 8192 * (1 + 2 * slots)

-- the first bytes of the header: the open gate, the name of the format, its version, the number of slots of a half, and the digest of the settings
abbrev pub header_of : ℕ → List ℕ → List ℕ
header_of slots digest = 165 ∷ codes "DOTSJNL" ++ 1 ∷ 0 ∷ 0 ∷ 0 ∷ [] ++ to_be_bytes w32 slots ++ digest

-- The bytes begin with the header. Behind its first bytes stand the selector, whose lowest bit names the half in use, two bytes for the formats
-- of the two halves, and zeros.
abbrev pub IsHeader : ℕ → List ℕ → (ℕ → ℕ) → Type 0
IsHeader slots digest image = (place : ℕ) → place < 64 → (place < 48 ⊎ 51 ≤ place) → image place ≡ byte_of (header_of slots digest) place

-- the place of the byte that says a half's format
abbrev pub format_place : ℕ → ℕ
format_place half = 49 + half

-- the header says that the records of the half in use are of this format
abbrev pub HasFormat : Format → (ℕ → ℕ) → Type 0
HasFormat format image = image (format_place (image 48 % 2)) ≡ format_byte format

-- a slot with an open gate, and this record in it
pub record IsSlot (image : ℕ → ℕ) (at : ℕ) (filled : List ℕ) : Type 0 where
  pub gate : image at ≡ 165
  pub fits : length filled ≤ 8189
  pub size : 256 * image (at + 1) + image (at + 2) ≡ length filled
  pub bytes : bytes_at image (at + 3) (length filled) ≡ filled

-- a half holds these records, in its first slots, and the gate of no other slot is open
pub record IsHalf (slots half : ℕ) (image : ℕ → ℕ) (records : List (List ℕ)) : Type 0 where
  pub fits : length records ≤ slots
  pub filled : (slot : ℕ) → slot < length records → IsSlot image (place_of slots half slot) (slice_index_or records slot [])
  pub closed : (slot : ℕ) → length records ≤ slot → slot < slots → image (place_of slots half slot) ≢ 165

-- a formatted disk, whose half in use holds these records, of this format
pub record IsJournal (slots : ℕ) (digest : List ℕ) (format : Format) (image : ℕ → ℕ) (records : List (List ℕ)) : Type 0 where
  pub header : IsHeader slots digest image
  pub format_there : HasFormat format image
  pub half : IsHalf slots (image 48 % 2) image records

-- a disk that isn't formatted, and holds no record
pub record IsBlank (slots : ℕ) (image : ℕ → ℕ) (records : List (List ℕ)) : Type 0 where
  pub gate : image 0 ≢ 165
  pub gates : (half slot : ℕ) → half < 2 → slot < slots → image (place_of slots half slot) ≡ 0
  pub none : records ≡ []

-- The records that an image of a disk holds, and their format, under settings with this number of slots and this digest. A disk that isn't
-- formatted counts as one of the second format, since that is what formatting makes of it.
abbrev pub HasRecords : ℕ → List ℕ → Format → (ℕ → ℕ) → List (List ℕ) → Type 0
HasRecords slots digest format image records = (IsBlank slots image records × (format ≡ Two)) ⊎ IsJournal slots digest format image records

-- from the place on the image is zero
abbrev pub IsZeroFrom : ℕ → (ℕ → ℕ) → Type 0
IsZeroFrom from image = (place : ℕ) → from ≤ place → image place ≡ 0
