-- What a disk holds and what a crash may leave of it.
use Rattle.std.specs.Prelude.{◌≡◌, ℕ, ◌+◌, ◌-◌, ◌<◌, ◌≤◌, nat_lt, if◌then◌else◌, true, false, ◌⊎◌, List, [], ◌∷◌, ◌++◌, length, map, ⊤}
use Rattle.std.specs.List.{range_with_len, slice_index_or}
use Rattle.dots_host.specs.declared.act.Act.{Act}
use Rattle.dots_host.specs.declared.act.Act.TheVariants as act

-- A disk at one moment: the byte that a read gives at each place, and the ranges that were written since the last sync, each by its first place and its length.
pub record Medium : Type 0 where
  pub seen : ℕ → ℕ
  pub pending : List (ℕ × ℕ)

-- the place lies in none of the ranges
abbrev pub Outside : List (ℕ × ℕ) → ℕ → Type 0
Outside [] place = ⊤
Outside (range ∷ ranges) place = (place < range.0 ⊎ range.0 + range.1 ≤ place) × Outside ranges place

-- A crash may leave these bytes: any at all in the ranges that were written since the last sync, and elsewhere those that a read gives.
abbrev pub IsImage : Medium → (ℕ → ℕ) → Type 0
IsImage medium image = (place : ℕ) → Outside medium.pending place → image place ≡ medium.seen place

-- the bytes from a place on, as many as that
abbrev pub bytes_at : (ℕ → ℕ) → ℕ → ℕ → List ℕ
bytes_at bytes at count = map bytes (range_with_len at count)

-- the bytes of a list, and zeros after them
abbrev pub byte_of : List ℕ → ℕ → ℕ
byte_of bytes place = slice_index_or bytes place 0

-- with these bytes from the place on
abbrev pub overwritten : (ℕ → ℕ) → ℕ → List ℕ → ℕ → ℕ
overwritten bytes at written place = if nat_lt place at then bytes place else slice_index_or written (place - at) (bytes place)

-- the bytes were written, and no sync came yet
abbrev pub written : Medium → ℕ → List ℕ → Medium
written medium at bytes = record { seen = overwritten medium.seen at bytes; pending = (at, length bytes) ∷ medium.pending }

-- Some of as many bytes may have been written from the place on: a read may give any there.
pub record IsTorn (at count : ℕ) (old new : Medium) : Type 0 where
  pub pending : new.pending ≡ (at, count) ∷ old.pending
  pub kept : (place : ℕ) → (place < at ⊎ at + count ≤ place) → new.seen place ≡ old.seen place

-- all that a read gives stays after a crash
abbrev pub settled : Medium → Medium
settled medium = record { seen = medium.seen; pending = [] }

-- the disk after a call of its host
abbrev pub after : Medium → Act → Medium
after medium (act.Wrote at bytes true) = written medium at bytes
after medium (act.Wrote at bytes false) = record { seen = medium.seen; pending = (at, length bytes) ∷ medium.pending }
after medium (act.Synced true) = settled medium
after medium _ = medium

-- The disk at each moment so far, a moment being the number of calls that were made on its host before: those that are past, and now.
-- A crash in the middle of a call leaves an image of the disk before it, or of that after it.
pub record Media : Type 0 where
  pub past : List Medium
  pub now : Medium

abbrev pub all_media : Media → List Medium
all_media media = media.past ++ media.now ∷ []

-- one moment more
abbrev pub next_media : Media → Medium → Media
next_media media medium = record { past = all_media media; now = medium }

-- a disk that holds the bytes of a list and then zeros, before any call
abbrev pub blank : List ℕ → Media
blank base = record { past = []; now = record { seen = byte_of base; pending = [] } }

-- the disk over these calls
abbrev pub grown : Media → List Act → Media
grown media [] = media
grown media (act ∷ acts) = grown (next_media media (after media.now act)) acts
