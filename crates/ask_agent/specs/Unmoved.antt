-- The end and a failure of the wire leave a client as it is.
use Rattle.std.specs.Prelude.{ℕ, []}
use Rattle.std.proofs.Common.{refl}
use Rattle.dots_host.specs.declared.event.Event.TheVariants as event
use Rattle.ask_agent.specs.Asking.{AskState, step}

pub step_ends : (state : AskState) (at : ℕ) → step state event.End at [] state
step_ends state at = ([], refl, (refl, refl))

pub step_fails : (state : AskState) (at : ℕ) → step state event.Failed at [] state
step_fails state at = ([], refl, (refl, refl))
