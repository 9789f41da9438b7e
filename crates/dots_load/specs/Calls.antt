-- The same of the calls of a host.
use Rattle.std.specs.Prelude.{Bool, false}
use Rattle.dots_host.specs.declared.event.Event.{Event}
use Rattle.dots_host.specs.declared.out.OwnedOut.{OwnedOut}
use Rattle.dots_host.specs.declared.act.Act.{Act}
use Rattle.dots_host.specs.declared.act.Act.TheVariants as act

-- a send of the kind
abbrev pub gives : (OwnedOut → Bool) → Act → Bool
gives kind (act.Gave out done) = kind out
gives kind _ = false

-- an event of the kind
abbrev pub takes : (Event → Bool) → Act → Bool
takes kind (act.Took event at) = kind event
takes kind _ = false
