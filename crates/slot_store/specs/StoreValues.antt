-- What a journal in memory knows of its disk.
use Rattle.std.specs.Prelude.{◌≡◌, ℕ, ◌+◌, ◌*◌, ◌/◌, ◌%◌, ◌<◌, ◌≤◌, ◌⊎◌, List, ◌∷◌, length, take, drop, Option, Some, None}
use Rattle.dots_host.specs.Media.{bytes_at}
use Rattle.slot_store.specs.declared.format.Format.{Format}
use Rattle.slot_store.specs.Layout.{IsJournal, HasRecords}
use Rattle.slot_store.specs.Refusing.{IsOpen, IsCount}

-- The number of slots of a half, the selector, how many slots of the half in use hold a record, and the format of its records.
pub record JournalValue : Type 0 where
  pub slots : ℕ
  pub selector : ℕ
  pub used : ℕ
  pub format : Format

-- the journal represents these records on this disk
pub record RepresentsRecords (store : JournalValue) (digest : List ℕ) (records : List (List ℕ)) (image : ℕ → ℕ) : Type 0 where
  pub journal : IsJournal store.slots digest store.format image records
  pub used : store.used ≡ length records
  pub selector : image 48 ≡ store.selector

-- What the store knows of a disk that was opened, whatever the disk held: how many slots of the half in use have an open gate before the first that has none.
pub record IsKnown (store : JournalValue) (digest : List ℕ) (seen image : ℕ → ℕ) : Type 0 where
  pub opened : IsOpen store.slots digest seen store.selector store.format image
  pub count : IsCount store.slots (store.selector % 2) image store.used

-- one list of records of one format, or another of another
abbrev pub HasEither : ℕ → List ℕ → Format → List (List ℕ) → Format → List (List ℕ) → (ℕ → ℕ) → Type 0
HasEither slots digest format first other second image = HasRecords slots digest format image first ⊎ HasRecords slots digest other image second

-- a record with its length in two bytes before it
abbrev pub sized : List ℕ → List ℕ
sized bytes = length bytes / 256 ∷ length bytes % 256 ∷ bytes

-- What was read of the slot at the place into the room: a record of this length, behind its gate and two bytes of length, or none where it would be longer than a slot.
abbrev pub IsFound : (ℕ → ℕ) → ℕ → List ℕ → Option ℕ → Type 0
IsFound seen at room None = 8189 < 256 * seen (at + 1) + seen (at + 2)
IsFound seen at room (Some len) = (256 * seen (at + 1) + seen (at + 2) ≡ len) × (len ≤ 8189) × (take len (drop 3 room) ≡ bytes_at seen (at + 3) len)
