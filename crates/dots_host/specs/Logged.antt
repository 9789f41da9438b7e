-- What contracts see of a disk in memory whose calls stand in a log that exists in proofs alone.
use Rattle.std.specs.Prelude.{◌≡◌, ℕ, List, [], ◌∷◌, ◌++◌, Option, Some}
use Rattle.dots_host.specs.declared.act.Act.{Act}
use Rattle.dots_host.specs.Acts.{Timed, wire_acts}
use Rattle.dots_host.specs.Media.{Media, blank, grown}
use Rattle.dots_host.specs.Becoming.{KeepsMedia}
use Rattle.dots_host.specs.Stored.{AreOfDisk}

-- its size, the calls of its host so far, and how often a call of the disk failed
pub record Logged : Type 0 where
  pub extent : ℕ
  pub acts : List Act
  pub faults : ℕ

-- the disk at each moment: it began as zeros
abbrev pub media_since : List Act → Media
media_since acts = grown (blank []) acts

-- a disk of zeros before any call
abbrev pub zeros : ℕ → Logged
zeros extent = record { extent = extent; acts = []; faults = 0 }

-- one call more
abbrev pub with_call : Logged → Act → Logged
with_call disk call = record disk { acts = disk.acts ++ call ∷ [] }

-- the acts of the wire among the calls
abbrev pub acts_told : Logged → Option (List Timed)
acts_told disk = Some (wire_acts 0 disk.acts)

-- Calls of the disk came.
pub record AddsCalls (old new : Logged) : Type 0 where
  pub more : List Act
  pub grown : new.acts ≡ old.acts ++ more
  pub disk : AreOfDisk more

-- Calls of the wire alone came: what the disk holds and what is pending are as before.
pub record KeepsLogged (old new : Logged) : Type 0 where
  pub media : KeepsMedia (Some (media_since old.acts)) (Some (media_since new.acts))
  pub extent : new.extent ≡ old.extent
  pub faults : new.faults ≡ old.faults
