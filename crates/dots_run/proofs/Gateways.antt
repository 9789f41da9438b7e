-- A host that hands in no restart: none is among what a gateway took.
use Rattle.std.proofs.Common.{inl, inr, List, [], ◌∷◌}
use Rattle.dots_host.specs.declared.event.Event.TheVariants as event
use Rattle.dots_host.specs.Acts.{WireAct, took, gave, Timed}
use Rattle.dots_edge.specs.Edge.{Edge, acts_told}
use Rattle.dots_edge.specs.Edge as edge
use Rattle.dots_edge.specs.Restarts.{IsNoRestart, AreNoRestarts}
use Rattle.gateway_command.specs.Running.{IsRestart, AnyRestart, NeverRestarts}

not_both : (act : WireAct) → IsNoRestart act → IsRestart act → ⊥
not_both (took event.Restart at) never is = never
not_both (took (event.Datagram from bytes) at) never is = is
not_both (took event.End at) never is = is
not_both (took event.Failed at) never is = is
not_both (took (event.Opened conn peer) at) never is = is
not_both (took (event.Piece conn bytes) at) never is = is
not_both (took (event.Closed conn) at) never is = is
not_both (took event.Tick at) never is = is
not_both (gave out done) never is = is

none_came : (acts : List Timed) → AreNoRestarts acts → AnyRestart acts → ⊥
none_came [] never any = any
none_came (timed ∷ acts) never (inl here) = not_both timed.act never.0 here
none_came (timed ∷ acts) never (inr later) = none_came acts never.1 later

pub known_over : (first host : Edge) → edge.NeverRestarts first host → NeverRestarts (acts_told first) (acts_told host)
known_over first host never = (never.0, never.1, none_came never.0 never.2)
