-- What a gateway passes on where it lacks no memory.
use Rattle.std.specs.Prelude.{◌≢◌, ℕ, ◌==◌, Bool, true, false, List, Err}
use Rattle.std.specs.Bool.{MatchBool}
use Rattle.dots_host.specs.declared.event.Event.{Event}
use Rattle.dots_host.specs.declared.event.Event.TheVariants as event
use Rattle.dots_host.specs.declared.out.OwnedOut.{OwnedOut}
use Rattle.dots_gateway.specs.declared.passed.Passed.{Passed}
use Rattle.dots_gateway.specs.declared.passed.Passed.TheVariants as passed
use Rattle.dots_gateway.specs.declared.passed.GatewayFault.{GatewayFault}
use Rattle.dots_gateway.specs.declared.passed.GatewayFault.TheVariants as fault
use Rattle.gateway_agent.specs.Passing.{GatewayState, GoesUp, GoesDown, Passes, state_at}

-- The gateway does with a datagram what its rules say, and want of memory takes the place of nothing.
abbrev pub GoesUpWell : GatewayState → ℕ → List ℕ → List OwnedOut → GatewayState → Type 0
GoesUpWell old peer datagram outs new = (goes : GoesUp old peer datagram outs new) × (goes.said ≢ Err fault.NoMemory)

abbrev pub GoesDownWell : GatewayState → List ℕ → List OwnedOut → GatewayState → Type 0
GoesDownWell old datagram outs new = (goes : GoesDown old datagram outs new) × (goes.said ≢ passed.NoMemory)

abbrev pub PassesWell : GatewayState → Event → ℕ → List OwnedOut → GatewayState → Type 0
PassesWell old (event.Datagram from bytes) at outs new =
    MatchBool (from == old.core.upstream) (GoesDownWell (state_at old at) bytes outs new) (GoesUpWell (state_at old at) from bytes outs new)
PassesWell old came at outs new = Passes old came at outs new

-- the same by whether memory was enough
abbrev pub GoesUpAs : Bool → GatewayState → ℕ → List ℕ → List OwnedOut → GatewayState → Type 0
GoesUpAs true old peer datagram outs new = GoesUpWell old peer datagram outs new
GoesUpAs false old peer datagram outs new = GoesUp old peer datagram outs new

abbrev pub GoesDownAs : Bool → GatewayState → List ℕ → List OwnedOut → GatewayState → Type 0
GoesDownAs true old datagram outs new = GoesDownWell old datagram outs new
GoesDownAs false old datagram outs new = GoesDown old datagram outs new

abbrev pub PassesAs : Bool → GatewayState → Event → ℕ → List OwnedOut → GatewayState → Type 0
PassesAs true old came at outs new = PassesWell old came at outs new
PassesAs false old came at outs new = Passes old came at outs new

-- whether it was for what is said
abbrev pub is_enough : Passed → Bool
is_enough passed.NoMemory = false
is_enough _ = true

-- and for what isn't passed on
abbrev pub is_table_full : GatewayFault → Bool
is_table_full fault.TableFull = true
is_table_full fault.NoMemory = false
