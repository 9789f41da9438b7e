-- Sends and acts among the calls of a host.
use Rattle.std.specs.Prelude.{List, [], ◌∷◌, map, true}
use Rattle.dots_host.specs.declared.act.Act.{Act}
use Rattle.dots_host.specs.declared.act.Act.TheVariants as act
use Rattle.dots_host.specs.declared.out.OwnedOut.{OwnedOut}
use Rattle.dots_host.specs.Acts.{WireAct, Timed, wire_acts}

-- what was sent
abbrev pub sent_in : Act → List OwnedOut
sent_in (act.Gave out done) = out ∷ []
sent_in _ = []

-- the call that sends it once more
abbrev pub given_in : Act → List Act
given_in (act.Gave out done) = act.Gave out true ∷ []
given_in _ = []

-- the acts of the wire, without their moments
abbrev pub acts_in : List Act → List WireAct
acts_in calls = map (λ (timed : Timed). timed.act) (wire_acts 0 calls)
