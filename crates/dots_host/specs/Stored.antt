-- What contracts see of a memory disk.
use Rattle.std.specs.Prelude.{◌≡◌, ◌<◌, ℕ, Bool, true, false, List, [], ◌∷◌, ◌++◌, Some, ⊤}
use Rattle.dots_host.specs.declared.act.Act.{Act}
use Rattle.dots_host.specs.declared.act.Act.TheVariants as act
use Rattle.dots_host.specs.Media.{Media, blank, grown}
use Rattle.dots_host.specs.Becoming.{KeepsMedia}

-- Its size, the bytes that it held at the start, the calls of its host so far, whether that is all of them and for how many more there is room, and how often a call of the disk failed.
pub record Stored : Type 0 where
  pub extent : ℕ
  pub base : List ℕ
  pub acts : List Act
  pub whole : Bool
  pub room : ℕ
  pub faults : ℕ

-- the disk at each moment
abbrev pub media_of : Stored → Media
media_of stored = grown (blank stored.base) stored.acts

-- a call of the wire beside the disk
abbrev pub IsOfWire : Act → Type 0
IsOfWire (act.Took event at) = ⊤
IsOfWire (act.Gave out done) = ⊤
IsOfWire _ = ⊥

-- a call of the disk
abbrev pub IsOfDisk : Act → Type 0
IsOfDisk (act.Took event at) = ⊥
IsOfDisk (act.Gave out done) = ⊥
IsOfDisk _ = ⊤

abbrev pub AreOfDisk : List Act → Type 0
AreOfDisk [] = ⊤
AreOfDisk (call ∷ calls) = IsOfDisk call × AreOfDisk calls

-- Calls of the disk came, and what was not told stays untold.
pub record GoesOn (old new : Stored) : Type 0 where
  pub more : List Act
  pub grown : new.acts ≡ old.acts ++ more
  pub disk : AreOfDisk more
  pub whole : new.whole ≡ true → old.whole ≡ true

-- Calls of the wire alone came: what the disk holds and what is pending are as before.
pub record KeepsDisk (old new : Stored) : Type 0 where
  pub media : KeepsMedia (Some (media_of old)) (Some (media_of new))
  pub extent : new.extent ≡ old.extent
  pub faults : new.faults ≡ old.faults

-- a call of the host was recorded
pub record Records (old new : Stored) (call : Act) : Type 0 where
  pub acts : new.acts ≡ old.acts ++ call ∷ []
  pub whole : new.whole ≡ old.whole
  pub base : new.base ≡ old.base
  pub extent : new.extent ≡ old.extent

-- a call of the host that could not be recorded: nothing changed, and the acts are no longer told
pub record Forgets (old new : Stored) : Type 0 where
  pub acts : new.acts ≡ old.acts
  pub whole : new.whole ≡ false
  pub base : new.base ≡ old.base
  pub extent : new.extent ≡ old.extent

-- there is room for one more call, and nothing else changed
pub record MakesRoom (old new : Stored) : Type 0 where
  pub acts : new.acts ≡ old.acts
  pub whole : new.whole ≡ old.whole
  pub base : new.base ≡ old.base
  pub extent : new.extent ≡ old.extent
  pub room : 0 < new.room
