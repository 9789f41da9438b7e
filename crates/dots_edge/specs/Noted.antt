-- What a wait tells.
use Rattle.std.specs.Prelude.{◌≡◌, ℕ, ◌<◌, ◌==◌, ◌&&◌, ◌||◌, Bool, List, nat_le, nat_lt, if◌then◌else◌}
use Rattle.std.specs.List.{list_any}
use Rattle.mio.specs.Event.{event_token}
use Rattle.mio.specs.declared.event.event.Event.{Event}
use Rattle.dots_edge.specs.declared.connections.Connections.{Connections}
use Rattle.dots_edge.specs.declared.waiting.Waiting.{Waiting}
use Rattle.dots_edge.specs.declared.waiting.Accepting.{Accepting}
use Rattle.dots_edge.specs.declared.waiting.Accepting.TheVariants as accepting
use Rattle.dots_edge.specs.Places.{at_place, marked}

-- accepting is tried again where it was stuck
abbrev pub accepting_again : Accepting → Accepting
accepting_again accepting.Stuck = accepting.Yes
accepting_again accepting.Yes = accepting.Yes
accepting_again accepting.No = accepting.No

abbrev pub retried : Waiting → Waiting
retried waiting = record waiting { connections = accepting_again waiting.connections }

-- whether it is about the connection at the place
abbrev pub is_about : ℕ → Event → Bool
is_about place event = (event_token event).0 == place

-- whether it is about a socket for datagrams, of which there are four behind the 128 places
abbrev pub is_signal : Event → Bool
is_signal event = nat_le 128 (event_token event).0 && nat_lt (event_token event).0 132

-- whether it is about a socket for connections, which are behind these
abbrev pub is_http : Event → Bool
is_http event = nat_le 132 (event_token event).0

-- what may wait at the sockets after a wait that told these, beside what might before
pub record IsNoted (events : List Event) (old new : Waiting) : Type 0 where
  pub datagrams : new.datagrams ≡ (old.datagrams || list_any is_signal events)
  pub connections : new.connections ≡ (if list_any is_http events then accepting.Yes else old.connections)

-- at each connection of which it told something may have come, or its socket may take more
abbrev pub AreMarked : List Event → Connections → Connections → Type 0
AreMarked events old new = (place : ℕ) → place < 128 →
    at_place new place ≡ (if list_any (is_about place) events then marked (at_place old place) else at_place old place)
