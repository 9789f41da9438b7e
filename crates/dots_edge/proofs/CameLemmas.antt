-- What comes to the sockets, over several steps.
use Rattle.std.proofs.Common.{◌≡◌, ℕ, Bool, true, false, if◌then◌else◌, List, Option, Some, None, IfSome, ap, subst, arith}
use Rattle.std.specs.declared.time.Duration.{Duration}
use Rattle.dots_host.specs.declared.event.What.{What}
use Rattle.dots_host.specs.declared.event.What.TheVariants as what
use Rattle.dots_edge.specs.declared.ends.Ends.{Ends}
use Rattle.dots_edge.specs.Passing.{have_passed, begun}
use Rattle.dots_edge.specs.Places.{Follows}
use Rattle.dots_edge.specs.Gone.{HasComeOn, AreOn}
use Rattle.dots_edge.specs.Datagrams.{times_asked}
use Rattle.dots_edge.specs.Accepts.{times_tried}
use Rattle.dots_edge.specs.Came.{HasCome, Passed}
use Rattle.dots_edge.proofs.GoneLemmas.{on_then, come_on}

ticks_then : (old between new : Option Duration) → IfSome old (λ last. between ≡ Some last) → IfSome between (λ last. new ≡ Some last) → IfSome old (λ last. new ≡ Some last)
ticks_then None between new a b = tt
ticks_then (Some old) between new a b = subst (λ found. IfSome found (λ last. new ≡ Some last)) a b

due_then : (old between : Option Duration) (now : Duration) → IfSome old (λ last. between ≡ Some last) → IfSome between (λ last. have_passed 1 last now ≡ true) → IfSome old (λ last. have_passed 1 last now ≡ true)
due_then None between now a b = tt
due_then (Some old) between now a b = subst (λ found. IfSome found (λ last. have_passed 1 last now ≡ true)) a b

pub passed_then : (old between new : Ends) → Passed old between → Passed between new → Passed old new
passed_then old between new a b = record {
  connections = on_then old.connections between.connections new.connections a.connections b.connections;
  asked = omega (arith, a.asked, b.asked);
  tried = omega (arith, a.tried, b.tried);
  ticks = ticks_then old.ticks.since between.ticks.since new.ticks.since a.ticks b.ticks;
}

-- what came after nothing was handed in came since
pub came_then : (found : What) (room : List ℕ) (old between new : Ends) → Passed old between → Follows (Some found) between.connections new.connections → HasCome found room between new → HasCome found room old new
came_then (what.Datagram from len) room old between new passed follows has = (omega (arith, passed.asked, has.0), has.1)
came_then (what.Opened conn from) room old between new passed follows has = (omega (arith, passed.tried, has.0), has.1)
came_then (what.Piece conn len) room old between new passed follows has =
    come_on (Some (what.Piece conn len)) room old.connections between.connections new.connections new.time passed.connections follows has
came_then (what.Closed conn) room old between new passed follows has =
    come_on (Some (what.Closed conn)) room old.connections between.connections new.connections new.time passed.connections follows has
came_then what.Tick room old between new passed follows has = due_then old.ticks.since between.ticks.since new.time passed.ticks has
came_then what.Restart room old between new passed follows has = absurd has
came_then what.End room old between new passed follows has = absurd has
came_then what.Failed room old between new passed follows has = absurd has

pub some_come_then : (found : Option What) (room : List ℕ) (old between new : Ends) → Passed old between → Follows found between.connections new.connections
    → IfSome found (λ came. HasCome came room between new) → IfSome found (λ came. HasCome came room old new)
some_come_then None room old between new passed follows has = tt
some_come_then (Some found) room old between new passed follows has = came_then found room old between new passed follows has

-- what connections give is what comes
pub come_of_them : (found : Option What) (room : List ℕ) (old new : Ends) → IfSome found (λ came. HasComeOn came room old.connections new.connections new.time) → IfSome found (λ came. HasCome came room old new)
come_of_them None room old new has = tt
come_of_them (Some (what.Datagram from len)) room old new has = absurd has
come_of_them (Some (what.Opened conn from)) room old new has = absurd has
come_of_them (Some (what.Piece conn len)) room old new has = has
come_of_them (Some (what.Closed conn)) room old new has = has
come_of_them (Some what.Tick) room old new has = absurd has
come_of_them (Some what.Restart) room old new has = absurd has
come_of_them (Some what.End) room old new has = absurd has
come_of_them (Some what.Failed) room old new has = absurd has

-- a look at the clock at which no tick is due leaves the last one
pub ticks_begun : (due : Bool) (old new : Option Duration) (now : Duration) → due ≡ false → new ≡ (if due then Some now else begun old now) → IfSome old (λ last. new ≡ Some last)
ticks_begun true None new now none is = tt
ticks_begun true (Some last) new now none is = cc
ticks_begun false None new now none is = tt
ticks_begun false (Some last) new now none is = is

-- nothing was handed in over the steps of one look: no tick, no end of a stale connection, nothing after a look at the sockets, no datagram
pub passed_steps : (old stale looked asked : Ends) → AreOn old.connections stale.connections → stale.sockets ≡ old.sockets
    → IfSome old.ticks.since (λ last. stale.ticks.since ≡ Some last) → Passed stale looked → Passed looked asked → Passed old asked
passed_steps old stale looked asked on same ticks a b =
    passed_then old stale asked
    (record {
      connections = on;
      asked = omega (arith, ap times_asked same);
      tried = omega (arith, ap times_tried same);
      ticks = ticks;
    })
    (passed_then stale looked asked a b)
