-- What contracts see of a memory host, and what it says of its own calls.
use Rattle.std.specs.Prelude.{◌≡◌, ℕ, true, List, [], ◌∷◌, ◌++◌}
use Rattle.dots_host.specs.declared.event.Event.{Event}
use Rattle.dots_host.specs.declared.act.Act.{Act}
use Rattle.dots_host.specs.Memory.{Coming, Hands}
use Rattle.dots_host.specs.declared.calls.Calls.{Calls}
use Rattle.dots_host.specs.Stored.{Stored, GoesOn}

-- the events to come, the disk, the calls, and how often the wire failed
pub record Hosted : Type 0 where
  pub coming : List Coming
  pub disk : Stored
  pub calls : Calls
  pub faults : ℕ

-- the event comes after all others, with the time beside it
abbrev pub with_event : Hosted → Event → ℕ → Hosted
with_event host event at = record host { coming = host.coming ++ (record { event = event; at = at }) ∷ [] }

-- Where each call so far was recorded, those that were added handed out the events that were to come, in order.
abbrev pub HandsOut : Hosted → Hosted → Type 0
HandsOut old new = new.disk.whole ≡ true → (old.disk.whole ≡ true) × (more : List Act) × (new.disk.acts ≡ old.disk.acts ++ more) × Hands old.coming more new.coming

-- Calls of the disk alone came: the events to come and the faults of the wire are as before.
pub record KeepsWire (old new : Hosted) : Type 0 where
  pub disk : GoesOn old.disk new.disk
  pub coming : new.coming ≡ old.coming
  pub faults : new.faults ≡ old.faults
