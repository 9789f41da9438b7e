-- How the events of a run stop.
use Rattle.std.specs.Prelude.{◌≡◌, ◌^◌, ℕ, Bool, true, false, List, Result, Ok, Err}
use Rattle.dots_host.specs.declared.event.Event.{Event}
use Rattle.dots_host.specs.declared.event.Event.TheVariants as event
use Rattle.dots_host.specs.declared.out.OwnedOut.{OwnedOut}
use Rattle.dots_host.specs.Acts.{Timed}
use Rattle.dots_host.specs.Runs.{GoOn, EndsBy, events_in}
use Rattle.dots_host.specs.declared.turns.Halt.{Halt}
use Rattle.dots_host.specs.declared.turns.Halt.TheVariants as halt
use Rattle.dots_host.specs.declared.turns.Stop.{Stop}
use Rattle.dots_host.specs.declared.turns.Stop.TheVariants as stop

-- The same steps, but none from a state that is over: no event is taken then.
abbrev pub until : {S : Type 0} → (S → Bool) → (S → Event → ℕ → List (S × OwnedOut) → S → Type 0) → S → Event → ℕ → List (S × OwnedOut) → S → Type 0
until over step old came at owed new = (over old ≡ false) × step old came at owed new

-- End was taken last and no other, or none is among the acts; or a failure of the wire was taken last; or 2^40 events were taken, and
-- none is either
abbrev pub StopsBy : Result Stop Halt → List Timed → Type 0
StopsBy (Ok stop.End) acts = EndsBy event.End acts
StopsBy (Ok stop.Over) acts = GoOn acts
StopsBy (Err halt.NextFailed) acts = EndsBy event.Failed acts
StopsBy (Err halt.TooMany) acts = GoOn acts × (events_in acts ≡ 2 ^ 40)

-- whether it stopped since the agent was over
abbrev pub is_over_by : Result Stop Halt → Bool
is_over_by (Ok stop.Over) = true
is_over_by _ = false
