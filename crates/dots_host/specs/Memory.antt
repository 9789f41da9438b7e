-- What contracts see of the memory forms.
use Rattle.std.specs.Prelude.{◌≡◌, ℕ, nat_le, Bool, true, false, List, [], ◌∷◌, length, drop, Option, Some, None}
use Rattle.dots_host.specs.declared.calls.Calls.{Calls}
use Rattle.dots_host.specs.declared.event.Event.{Event}
use Rattle.dots_host.specs.declared.event.Event.TheVariants as event
use Rattle.dots_host.specs.declared.act.Act.{Act}
use Rattle.dots_host.specs.declared.act.Act.TheVariants as act
use Rattle.dots_host.specs.Acts.{Timed, WireAct, took, wire_acts}

-- a source over bytes: what it has left, its calls, and how often a read failed
pub record Reading : Type 0 where
  pub left : List ℕ
  pub calls : Calls
  pub faults : ℕ

-- a sink over bytes: what it holds, its calls, and how often a write failed
pub record Writing : Type 0 where
  pub written : List ℕ
  pub calls : Calls
  pub faults : ℕ

-- an event that will be handed in, and the time beside it
pub record Coming : Type 0 where
  pub event : Event
  pub at : ℕ

-- the calls recorded so far, whether that is all of them, and for how many more there is room
pub record Taped : Type 0 where
  pub acts : List Act
  pub whole : Bool
  pub room : ℕ

-- what a tape tells of a wire: its acts, where it has recorded each call
abbrev pub told : Bool → List Act → Option (List Timed)
told true acts = Some (wire_acts 0 acts)
told false acts = None

-- the event has no more bytes than the room that a wire is given, and isn't a failure
abbrev pub is_given : Event → Bool
is_given (event.Datagram from bytes) = nat_le (length bytes) 4096
is_given (event.Piece conn bytes) = nat_le (length bytes) 4096
is_given event.Failed = false
is_given _ = true

-- the next event, or End at time 0 where there is none
abbrev pub first_coming : List Coming → Coming
first_coming [] = record { event = event.End; at = 0 }
first_coming (coming ∷ later) = coming

-- the act of handing it in
abbrev pub first_taken : List Coming → WireAct
first_taken coming = took (first_coming coming).event (first_coming coming).at

-- A call hands out the first of the events that were to come, and leaves the others. A call that failed, and one that takes no event, leaves all.
abbrev pub HandsOne : List Coming → Act → List Coming → Type 0
HandsOne coming (act.Took event.Failed at) later = later ≡ coming
HandsOne coming (act.Took event at) later = (first_coming coming ≡ record { event = event; at = at }) × (later ≡ drop 1 coming)
HandsOne coming _ later = later ≡ coming

-- the calls, one after the other
abbrev pub Hands : List Coming → List Act → List Coming → Type 0
Hands coming [] later = later ≡ coming
Hands coming (call ∷ calls) later = (between : List Coming) × HandsOne coming call between × Hands between calls later
