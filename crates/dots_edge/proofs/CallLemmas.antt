-- A host of real sockets over one call more.
use Rattle.std.proofs.Common.{◌≡◌, ℕ, Bool, List, [], ◌∷◌, ◌++◌, Some, ap, ◌∙◌}
use Rattle.dots_host.specs.declared.act.Act.{Act}
use Rattle.dots_host.specs.declared.event.What.{What}
use Rattle.dots_host.specs.declared.event.What.TheVariants as what
use Rattle.dots_host.specs.Acts.{WireAct, took, event_of, wire_acts, Adds}
use Rattle.dots_host.specs.Runs.{Added}
use Rattle.dots_host.specs.Stored.{IsOfDisk}
use Rattle.dots_edge.specs.Restarts.{OnRestart, IsNoRestart, AreNoRestarts}
use Rattle.dots_edge.specs.Edge.{Edge, acts_told, KeepsWire}

-- an event that isn't a restart is none among the acts
pub event_is_none : (came : What) (room : List ℕ) (at : ℕ) → OnRestart came ⊥ → IsNoRestart (took (event_of came room) at)
event_is_none (what.Datagram from len) room at none = tt
event_is_none (what.Opened conn from) room at none = tt
event_is_none (what.Piece conn len) room at none = tt
event_is_none (what.Closed conn) room at none = tt
event_is_none what.Tick room at none = tt
event_is_none what.Restart room at none = absurd none
event_is_none what.End room at none = tt
event_is_none what.Failed room at none = tt

-- one act more is told, and it is no restart
pub restarts_none : (old : Edge) (acts later : List Act) (before now : ℕ) (done : WireAct) → acts ≡ old.calls → Adds (Some (wire_acts 0 acts)) before (Some (wire_acts 0 later)) now done → IsNoRestart done
    → Added (acts_told old) (Some (wire_acts 0 later)) AreNoRestarts
restarts_none old acts later before now done same adds none = (
  (record { moment = before; act = done }) ∷ [],
  adds.0 ∙ ap (λ calls. wire_acts 0 calls ++ (record { moment = before; act = done }) ∷ []) same,
  (none, tt),
)

-- a call of the disk was added, and beside its faults nothing else changed
pub keeps_by_call : (old same new : Edge) (call : Act) → same ≡ old → new ≡ record same { disk = new.disk; calls = new.calls } → new.calls ≡ same.calls ++ call ∷ [] → IsOfDisk call → KeepsWire old new
keeps_by_call old same new call is fields grown of_disk = record {
  more = call ∷ [];
  kept =
      fields
      ∙ ap (λ calls. record same { disk = new.disk; calls = calls }) grown
      ∙ ap (λ (host : Edge). record host { disk = new.disk; calls = host.calls ++ call ∷ [] }) is;
  of_disk = (of_disk, tt);
}

-- what is known of the journal is as before
pub journal_stays : (new : Edge) (journaled lost : Bool) → new.journaled ≡ journaled → new.lost ≡ lost → new ≡ record new { journaled = journaled; lost = lost }
journal_stays new journaled lost is_journaled is_lost =
    ap (λ lost. record new { lost = lost }) is_lost
    ∙ ap (λ journaled. record new { journaled = journaled; lost = lost }) is_journaled
