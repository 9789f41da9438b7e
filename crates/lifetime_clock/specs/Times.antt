-- The times at which keys are due: a finite map from keys to times, and its room.
use Rattle.std.specs.Prelude.{◌≡◌, ◌≢◌, ℕ, ◌+◌, ◌<◌, ◌≤◌, ◌==◌, ◌⊎◌, if◌then◌else◌, List, [], ◌∷◌, length, Option, Some, None, IsSome, is_some}

-- keys with their times, in an order that means nothing, and how many keys there may be
pub record Times : Type 0 where
  pub room : ℕ
  pub entries : List (ℕ × ℕ)

-- the time beside a key, if the key is there
abbrev pub look_up : List (ℕ × ℕ) → ℕ → Option ℕ
look_up [] key = None
look_up (entry ∷ entries) key = if entry.0 == key then Some entry.1 else look_up entries key

abbrev pub time_of : Times → ℕ → Option ℕ
time_of times key = look_up times.entries key

-- how many keys are there
abbrev pub count : Times → ℕ
count times = length times.entries

-- no key stands twice
abbrev pub KeysDiffer : List (ℕ × ℕ) → Type 0
KeysDiffer [] = Unit {0}
KeysDiffer (entry ∷ entries) = (look_up entries entry.0 ≡ None) × KeysDiffer entries

-- each key has one time, and there are at most as many as the room
pub record IsMap (times : Times) : Type 0 where
  pub keys : KeysDiffer times.entries
  pub fits : count times ≤ times.room

-- the key is there, or there is room for one more
abbrev pub HasRoomFor : Times → ℕ → Type 0
HasRoomFor times key = IsSome (time_of times key) ⊎ (count times < times.room)

-- the key has this time now, or isn't there; each other key has what it had, and the room stays
pub record Updates (old new : Times) (key : ℕ) (time : Option ℕ) : Type 0 where
  pub changed : time_of new key ≡ time
  pub others : (other : ℕ) → other ≢ key → time_of new other ≡ time_of old other
  pub counted : count new + (if is_some (time_of old key) then 1 else 0) ≡ count old + (if is_some time then 1 else 0)
  pub room : new.room ≡ old.room

-- the time of each key is later than now
abbrev pub NothingIsDue : Times → ℕ → Type 0
NothingIsDue times now = (key time : ℕ) → time_of times key ≡ Some time → now < time

-- the key has a time that isn't later than now, and no key has an earlier one
pub record IsNextDue (times : Times) (now key : ℕ) : Type 0 where
  pub time : ℕ
  pub found : time_of times key ≡ Some time
  pub due : time ≤ now
  pub least : (other later : ℕ) → time_of times other ≡ Some later → time ≤ later

-- each key of the first is one of the second
abbrev pub HasItsKeysIn : Times → Times → Type 0
HasItsKeysIn times other = (key : ℕ) → IsSome (time_of times key) → IsSome (time_of other key)
