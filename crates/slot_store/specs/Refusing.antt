-- Why a disk is refused: the first byte of its header that isn't this format's, or other settings.
use Rattle.std.specs.Prelude.{◌≡◌, ◌≢◌, ℕ, ◌+◌, ◌%◌, ◌<◌, ◌≤◌, ◌⊎◌, List, [], length, slice_index, Result, Err, ⊤}
use Rattle.dots_host.specs.Causes.{Rose}
use Rattle.dots_host.specs.Media.{byte_of}
use Rattle.slot_store.specs.declared.format.Format.{Format}
use Rattle.slot_store.specs.declared.format.Format.TheVariants.{Two}
use Rattle.slot_store.specs.declared.fault.OpenFault.{OpenFault}
use Rattle.slot_store.specs.declared.fault.OpenFault.TheVariants as fault
use Rattle.slot_store.specs.Layout.{header_of, place_of, format_place, needed_of, IsHeader, HasFormat, IsBlank, IsJournal}

-- the header's bytes stand from the one place up to the other
abbrev pub Fits : ℕ → List ℕ → (ℕ → ℕ) → ℕ → ℕ → Type 0
Fits slots digest image from to = (place : ℕ) → from ≤ place → place < to → image place ≡ byte_of (header_of slots digest) place

-- the first place of a range at which another byte than the header's stands
pub record FirstWrong (slots : ℕ) (digest : List ℕ) (image : ℕ → ℕ) (from to at : ℕ) : Type 0 where
  pub low : from ≤ at
  pub high : at < to
  pub before : Fits slots digest image from at
  pub wrong : image at ≢ byte_of (header_of slots digest) at

-- The byte for the half in use says a format of records, whichever. That of the other half isn't looked at.
abbrev pub HasSomeFormat : (ℕ → ℕ) → Type 0
HasSomeFormat image = (format : Format) × HasFormat format image

-- the byte for the half in use says no format of records, and this is its place
pub record HasNoFormat (image : ℕ → ℕ) (at : ℕ) : Type 0 where
  pub here : at ≡ format_place (image 48 % 2)
  pub none : (format : Format) → HasFormat format image → ⊥

-- the journal's name and its version stand there, a format of records, and the zeros at the end
pub record IsForm (slots : ℕ) (digest : List ℕ) (image : ℕ → ℕ) : Type 0 where
  pub front : Fits slots digest image 1 12
  pub records : HasSomeFormat image
  pub rest : Fits slots digest image 51 64

-- The header is no journal's of these settings, at this place. Its name and version are tested first, then the format of the half in use, then
-- the zeros, then the digest, and at last the number of slots.
pub data IsOtherHeader (slots : ℕ) (digest : List ℕ) (image : ℕ → ℕ) (at : ℕ) : Type 0 where
  front : FirstWrong slots digest image 1 12 at → IsOtherHeader slots digest image at
  format : Fits slots digest image 1 12 → HasNoFormat image at → IsOtherHeader slots digest image at
  rest : Fits slots digest image 1 12 → HasSomeFormat image → FirstWrong slots digest image 51 64 at → IsOtherHeader slots digest image at
  size : IsForm slots digest image → Fits slots digest image 16 48 → FirstWrong slots digest image 12 16 at → IsOtherHeader slots digest image at

-- the header is that of other settings, whose digest stands there
pub record IsOfOthers (slots : ℕ) (digest : List ℕ) (image : ℕ → ℕ) (stored : List ℕ) : Type 0 where
  pub form : IsForm slots digest image
  pub long : length stored ≡ 32
  pub digest_there : (place : ℕ) → place < 32 → slice_index stored place ≡ image (16 + place)
  pub wrong : (place : ℕ) × FirstWrong slots digest image 16 48 place

-- why a header is refused
abbrev pub RefusesHeader : ℕ → List ℕ → (ℕ → ℕ) → OpenFault → Type 0
RefusesHeader slots digest image (fault.NotOurs at) = IsOtherHeader slots digest image at
RefusesHeader slots digest image (fault.SettingsChanged stored) = IsOfOthers slots digest image stored
RefusesHeader slots digest image (fault.TooSmall needed found) = ⊥
RefusesHeader slots digest image fault.DiskFault = ⊥
RefusesHeader slots digest image fault.NoMemory = ⊥

-- the first gate of a disk without a header that isn't zero
pub record IsStrayGate (slots : ℕ) (image : ℕ → ℕ) (at : ℕ) : Type 0 where
  pub slot : (half slot : ℕ) × (half < 2) × (slot < slots) × (at ≡ place_of slots half slot)
  pub wrong : image at ≢ 0
  pub before : (half slot : ℕ) → half < 2 → slot < slots → place_of slots half slot < at → image (place_of slots half slot) ≡ 0

-- why a disk without a header is refused
abbrev pub RefusesGates : ℕ → (ℕ → ℕ) → OpenFault → Type 0
RefusesGates slots seen (fault.NotOurs at) = IsStrayGate slots seen at
RefusesGates slots seen (fault.SettingsChanged stored) = ⊥
RefusesGates slots seen (fault.TooSmall needed found) = ⊥
RefusesGates slots seen fault.DiskFault = ⊤
RefusesGates slots seen fault.NoMemory = ⊥

-- a fault of the disk comes where its count rose, and else the count stays
abbrev pub Caused : {A : Type 0} → ℕ → ℕ → Result A OpenFault → Type 0
Caused before now (Err fault.DiskFault) = Rose before now
Caused before now _ = now ≡ before

-- why a disk that is large enough is refused, by what a read gives
abbrev pub RefusesDisk : ℕ → List ℕ → (ℕ → ℕ) → OpenFault → Type 0
RefusesDisk slots digest seen (fault.NotOurs at) = ((seen 0 ≢ 165) × IsStrayGate slots seen at) ⊎ ((seen 0 ≡ 165) × IsOtherHeader slots digest seen at)
RefusesDisk slots digest seen (fault.SettingsChanged stored) = (seen 0 ≡ 165) × IsOfOthers slots digest seen stored
RefusesDisk slots digest seen (fault.TooSmall needed found) = ⊥
RefusesDisk slots digest seen fault.DiskFault = ⊤
RefusesDisk slots digest seen fault.NoMemory = ⊥

-- A disk that was opened: as it was, with the header of a journal of these settings; or formatted where it was blank, in the second format.
pub record IsOpen (slots : ℕ) (digest : List ℕ) (seen : ℕ → ℕ) (selector : ℕ) (format : Format) (image : ℕ → ℕ) : Type 0 where
  pub selector_there : image 48 ≡ selector
  pub format_there : HasFormat format image
  pub cases : (IsHeader slots digest seen × (image ≡ seen)) ⊎ (IsBlank slots seen [] × IsJournal slots digest Two image [])

-- why a store isn't opened: the disk is too small, or what a read gives is refused; memory and calls of the disk aside
abbrev pub Refuses : ℕ → List ℕ → ℕ → (ℕ → ℕ) → OpenFault → Type 0
Refuses slots digest extent seen (fault.TooSmall needed found) = (needed ≡ needed_of slots) × (found ≡ extent) × (found < needed)
Refuses slots digest extent seen fault.NoMemory = ⊤
Refuses slots digest extent seen fault.DiskFault = ⊤
Refuses slots digest extent seen (fault.NotOurs at) = RefusesDisk slots digest seen (fault.NotOurs at)
Refuses slots digest extent seen (fault.SettingsChanged stored) = RefusesDisk slots digest seen (fault.SettingsChanged stored)

-- Why a disk is too small, whatever it tells of its content: its size is always told, and so many slots need more bytes.
abbrev pub IsSmallBy : ℕ → ℕ → OpenFault → Type 0
IsSmallBy slots extent (fault.TooSmall needed found) = (needed ≡ needed_of slots) × (found ≡ extent) × (found < needed)
IsSmallBy slots extent _ = ⊤

-- the disk isn't refused for its size
abbrev pub IsNoSize : OpenFault → Type 0
IsNoSize (fault.TooSmall needed found) = ⊥
IsNoSize _ = ⊤

-- the first slots of the half, as many as that, have an open gate, and the next slot, if there is one, has none
pub record IsCount (slots half : ℕ) (seen : ℕ → ℕ) (count : ℕ) : Type 0 where
  pub fits : count ≤ slots
  pub gates : (slot : ℕ) → slot < count → seen (place_of slots half slot) ≡ 165
  pub next : count < slots → seen (place_of slots half count) ≢ 165
