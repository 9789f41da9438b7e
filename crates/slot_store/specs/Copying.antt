-- A half that is copied to the other.
use Rattle.std.specs.Prelude.{◌≡◌, ℕ, ◌+◌, ◌*◌, ◌<◌, ◌≤◌, ◌⊎◌, ◌==◌, ◌%◌, ◌-◌, if◌then◌else◌, List, [], length, map, slice_index, slice_index_or}
use Rattle.slot_store.specs.declared.format.Format.{Format}
use Rattle.slot_store.specs.declared.format.Format.TheVariants.{Two}
use Rattle.slot_store.specs.Formats.{format_byte, rewritten}
use Rattle.slot_store.specs.Layout.{place_of, format_place, IsSlot}

-- elsewhere than in a range all is as before
abbrev pub Elsewhere : (ℕ → ℕ) → ℕ → ℕ → (ℕ → ℕ) → Type 0
Elsewhere seen at count image = (place : ℕ) → (place < at ⊎ at + count ≤ place) → image place ≡ seen place

-- but in the slots of the half, and in the byte that says its format, all is as before
abbrev pub BesideHalf : ℕ → ℕ → (ℕ → ℕ) → (ℕ → ℕ) → Type 0
BesideHalf slots half seen image =
    (place : ℕ) → (place < format_place half ⊎ format_place half + 1 ≤ place) → (place < place_of slots half 0 ⊎ place_of slots half slots ≤ place) → image place ≡ seen place

-- how long the record of the slot at the place says that it is
abbrev pub len_of : (ℕ → ℕ) → ℕ → ℕ
len_of seen at = 256 * seen (at + 1) + seen (at + 2)

-- The bytes of a slot, from a place on: the record of the slot that the list names there, in the second format, and a closed gate behind the list.
pub record IsCopy (slots half : ℕ) (format : Format) (keep : List ℕ) (seen : ℕ → ℕ) (slot : ℕ) (bytes : ℕ → ℕ) (at : ℕ) : Type 0 where
  pub kept : slot < length keep → (filled : List ℕ) → IsSlot seen (place_of slots half (slice_index keep slot)) filled → IsSlot bytes at (rewritten format filled)
  pub closed : length keep ≤ slot → bytes at ≡ 0

-- so many bytes of a slot are at least its gate, and of a kept slot all that belongs to its record
pub record IsEnough (keep : List ℕ) (slot : ℕ) (bytes : ℕ → ℕ) (size : ℕ) : Type 0 where
  pub some : 0 < size
  pub fits : size ≤ 8192
  pub all : slot < length keep → (offset : ℕ) → offset < 8192 → offset < 3 + len_of bytes 0 → offset < size

-- slots that there are
abbrev pub AreSlots : ℕ → List ℕ → Type 0
AreSlots slots keep = (index : ℕ) → index < length keep → slice_index keep index < slots

-- the records of the slots of a list
abbrev pub kept_of : List (List ℕ) → List ℕ → List (List ℕ)
kept_of records keep = map (λ slot. slice_index_or records slot []) keep

-- the selector with its lowest bit changed
abbrev pub other_selector : ℕ → ℕ
other_selector selector = if selector % 2 == 0 then selector + 1 else selector - 1

-- the other half holds the kept slots in the second format, which the header says of it, and elsewhere all is as before
pub record HalfIsCopied (slots half : ℕ) (format : Format) (keep : List ℕ) (seen image : ℕ → ℕ) : Type 0 where
  pub elsewhere : BesideHalf slots (1 - half) seen image
  pub copies : (slot : ℕ) → slot < slots → IsCopy slots half format keep seen slot image (place_of slots (1 - half) slot)
  pub format_there : image (format_place (1 - half)) ≡ format_byte Two

-- the selector is this byte, and elsewhere all is as before
pub record IsSelected (seen : ℕ → ℕ) (selector : ℕ) (image : ℕ → ℕ) : Type 0 where
  pub elsewhere : Elsewhere seen 48 1 image
  pub here : image 48 ≡ selector

-- While the half is moved: it is being copied, or it was copied and the selector may be any byte.
abbrev pub IsMoving : ℕ → ℕ → Format → List ℕ → (ℕ → ℕ) → (ℕ → ℕ) → Type 0
IsMoving slots half format keep seen image = BesideHalf slots (1 - half) seen image ⊎ ((copied : ℕ → ℕ) × HalfIsCopied slots half format keep seen copied × Elsewhere copied 48 1 image)

-- it was copied, and then the selector was changed
abbrev pub IsMoved : ℕ → ℕ → Format → List ℕ → (ℕ → ℕ) → ℕ → (ℕ → ℕ) → Type 0
IsMoved slots half format keep seen selector image = (copied : ℕ → ℕ) × HalfIsCopied slots half format keep seen copied × IsSelected copied selector image
