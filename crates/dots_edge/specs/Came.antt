-- Where the events come from that the sockets and the clock give.
use Rattle.std.specs.Prelude.{◌≡◌, ℕ, ◌<◌, ◌≤◌, true, List, take, Option, Some, None, IfSome}
use Rattle.dots_host.specs.declared.event.What.{What}
use Rattle.dots_host.specs.declared.event.What.TheVariants as what
use Rattle.dots_edge.specs.declared.answer.Answer.TheVariants as answer
use Rattle.dots_edge.specs.declared.listener.Listener.{Listener}
use Rattle.dots_edge.specs.declared.ends.Ends.{Ends}
use Rattle.dots_edge.specs.Answers.{IsLast}
use Rattle.dots_edge.specs.Datagrams.{GaveLast, signal_at, last_asked, times_asked}
use Rattle.dots_edge.specs.Accepts.{listener_at, last_listener, times_tried}
use Rattle.dots_edge.specs.Gone.{HasComeOn, AreOn}
use Rattle.dots_edge.specs.Passing.{have_passed}

-- the last call of the socket gave a connection
abbrev pub TookLast : Option Listener → Type 0
TookLast None = ⊥
TookLast (Some listener) = IsLast (answer.Went 0) listener.came.answers

-- What an event came from, between the two states. A datagram, with these very bytes, and a connection are what the socket gave that was asked last,
-- and one was asked since. A piece and a close come from a connection. A tick comes a second or more after the last one. Nothing else comes.
abbrev pub HasCome : What → List ℕ → Ends → Ends → Type 0
HasCome (what.Datagram from len) room old new =
    (times_asked old.sockets < times_asked new.sockets) × GaveLast (signal_at new.sockets (last_asked new.sockets)) (take len room)
HasCome (what.Opened conn from) room old new =
    (times_tried old.sockets < times_tried new.sockets) × TookLast (listener_at new.sockets (last_listener new.sockets))
HasCome (what.Piece conn len) room old new = HasComeOn (what.Piece conn len) room old.connections new.connections new.time
HasCome (what.Closed conn) room old new = HasComeOn (what.Closed conn) room old.connections new.connections new.time
HasCome what.Tick room old new = IfSome old.ticks.since (λ since. have_passed 1 since new.time ≡ true)
HasCome what.Restart room old new = ⊥
HasCome what.End room old new = ⊥
HasCome what.Failed room old new = ⊥

-- Nothing was handed in between the two states: no byte came on a connection that is open for the server, and the last tick is as it was.
pub record Passed (old new : Ends) : Type 0 where
  pub connections : AreOn old.connections new.connections
  pub asked : times_asked old.sockets ≤ times_asked new.sockets
  pub tried : times_tried old.sockets ≤ times_tried new.sockets
  pub ticks : IfSome old.ticks.since (λ since. new.ticks.since ≡ Some since)

-- what a host of sockets hands in, where they are open: the end comes exactly where no event is to come any more, and else what they gave
abbrev pub HasComeOf : What → List ℕ → Option ℕ → Option Ends → Option Ends → Type 0
HasComeOf what.End room left old new = left ≡ Some 0
HasComeOf found room left (Some old) (Some new) = HasCome found room old new
HasComeOf found room left _ _ = ⊥
