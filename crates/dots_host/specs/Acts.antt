-- What a wire did: the events it handed in and the sends it was handed, each with the moment of its call.
use Rattle.std.specs.Prelude.{◌≡◌, ℕ, ◌+◌, ◌≤◌, Bool, true, false, List, [], ◌∷◌, ◌++◌, take, Option, Some, None, ⊤}
use Rattle.dots_host.specs.declared.event.Event.{Event}
use Rattle.dots_host.specs.declared.event.Event.TheVariants as event
use Rattle.dots_host.specs.declared.event.What.{What}
use Rattle.dots_host.specs.declared.event.What.TheVariants as what
use Rattle.dots_host.specs.declared.event.Got.{Got}
use Rattle.dots_host.specs.declared.out.Out.{Out}
use Rattle.dots_host.specs.declared.out.Out.TheVariants as out
use Rattle.dots_host.specs.declared.out.OwnedOut.{OwnedOut}
use Rattle.dots_host.specs.declared.out.OwnedOut.TheVariants as owned
use Rattle.dots_host.specs.declared.out.Sent.{Sent}
use Rattle.dots_host.specs.declared.out.Sent.TheVariants as sent
use Rattle.dots_host.specs.declared.act.Act.{Act}
use Rattle.dots_host.specs.declared.act.Act.TheVariants as act

-- an act of a wire: it handed in an event, with the time beside it; or it was handed a send, and did it or lost it
pub data WireAct : Type 0 where
  took : Event → ℕ → WireAct
  gave : OwnedOut → Bool → WireAct

-- an act, and the moment of its call: how many calls had been made on the host before
pub record Timed : Type 0 where
  pub moment : ℕ
  pub act : WireAct

-- the event that a call handed in, its bytes standing at the front of the room
abbrev pub event_of : What → List ℕ → Event
event_of (what.Datagram from len) room = event.Datagram from (take len room)
event_of (what.Opened conn from) room = event.Opened conn from
event_of (what.Piece conn len) room = event.Piece conn (take len room)
event_of (what.Closed conn) room = event.Closed conn
event_of what.Tick room = event.Tick
event_of what.Restart room = event.Restart
event_of what.End room = event.End
event_of what.Failed room = event.Failed

-- no more bytes than that came
abbrev pub IsWithin : What → ℕ → Type 0
IsWithin (what.Datagram from len) most = len ≤ most
IsWithin (what.Piece conn len) most = len ≤ most
IsWithin _ most = ⊤

-- where the wire failed, this holds
abbrev pub OnFailed : What → Type 0 → Type 0
OnFailed what.Failed P = P
OnFailed _ P = ⊤

-- where an event came, this holds
abbrev pub OnEvent : What → Type 0 → Type 0
OnEvent what.Failed P = ⊤
OnEvent _ P = P

-- a send with its bytes
abbrev pub owned_of : Out → OwnedOut
owned_of (out.To peer bytes) = owned.To peer bytes.now
owned_of (out.Conn conn bytes) = owned.Conn conn bytes.now
owned_of (out.Close conn) = owned.Close conn

abbrev pub is_done : Sent → Bool
is_done sent.Done = true
is_done sent.Lost = false

-- the act of a call of next, and that of a call of send
abbrev pub taken : Got → List ℕ → WireAct
taken got room = took (event_of got.what room) got.at

abbrev pub given : Out → Sent → WireAct
given out sent = gave (owned_of out) (is_done sent)

-- Where the acts are told after a call, they were told before it and this act was added, at the moment of the call. A wire that stops telling never tells again.
abbrev pub Adds : Option (List Timed) → ℕ → Option (List Timed) → ℕ → WireAct → Type 0
Adds old before None now done = ⊤
Adds None before (Some new) now done = ⊥
Adds (Some old) before (Some new) now done = (new ≡ old ++ (record { moment = before; act = done }) ∷ []) × (now ≡ before + 1)

-- the acts of the wire among the calls of a host, the first of them made at the given moment
abbrev pub wire_acts : ℕ → List Act → List Timed
wire_acts moment [] = []
wire_acts moment (act.Took event at ∷ acts) = (record { moment = moment; act = took event at }) ∷ wire_acts (moment + 1) acts
wire_acts moment (act.Gave out done ∷ acts) = (record { moment = moment; act = gave out done }) ∷ wire_acts (moment + 1) acts
wire_acts moment (_ ∷ acts) = wire_acts (moment + 1) acts
