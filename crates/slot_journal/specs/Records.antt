-- Which bytes are the record of an entry in a format, and at which place no record of that format can go on.
use Rattle.std.specs.Prelude.{◌≡◌, ℕ, ◌+◌, ◌<◌, List, ◌++◌, length, take, IsTrue}
use Rattle.slot_store.specs.declared.format.Format.{Format}
use Rattle.dots_history.specs.declared.entry.Entry.{Entry}
use Rattle.dots_history.specs.Bounds.{within_bounds}
use Rattle.slot_journal.specs.Values.{IsEntry}
use Rattle.slot_journal.specs.Layout.{record_bytes}

-- The bytes are the record of the entry, which is within bounds.
pub record IsRecord (format : Format) (bytes : List ℕ) (entry : Entry) : Type 0 where
  -- what the types of its fields say
  pub typed : IsEntry entry
  pub within : IsTrue (within_bounds entry)
  pub is : bytes ≡ record_bytes format entry

-- They are the record of some entry.
abbrev pub IsSomeRecord : Format → List ℕ → Type 0
IsSomeRecord format bytes = (entry : Entry) × IsRecord format bytes entry

-- A record begins with them.
abbrev pub BeginsRecord : Format → List ℕ → Type 0
BeginsRecord format front = (more : List ℕ) × IsSomeRecord format (front ++ more)

-- The place at which no record can go on: the bytes before it begin a record, and
pub data IsBroken (format : Format) (bytes : List ℕ) (at : ℕ) : Type 0 where
  -- with the byte there they begin none; or
  byte : at < length bytes → BeginsRecord format (take at bytes) → ¬ (BeginsRecord format (take (at + 1) bytes)) → IsBroken format bytes at
  -- no byte is there, and they are none yet.
  end : at ≡ length bytes → BeginsRecord format bytes → ¬ (IsSomeRecord format bytes) → IsBroken format bytes at
