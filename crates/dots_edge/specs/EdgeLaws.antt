-- What the calls of a host keep goes on from call to call, and what those of its disk leave of what its wire tells.
use Rattle.std.proofs.Common.{◌≡◌, List, [], ◌∷◌, ◌++◌, refl, sym, ap, ◌∙◌, append_assoc, append-nil}
use Rattle.dots_host.specs.Acts.{Timed, wire_acts}
use Rattle.dots_host.specs.Beside.{KeepsActs}
use Rattle.dots_host.specs.StoredLaws.{of_disk_then, same_acts}
use Rattle.dots_edge.specs.Restarts.{AreNoRestarts}
use Rattle.dots_edge.specs.Edge.{Edge, acts_told, NeverRestarts, KeepsWire, KeepsDisk}

pub keeps_wire_same : (host : Edge) → KeepsWire host host
keeps_wire_same host = record { more = []; kept = ap (λ calls. record host { calls = calls }) (sym (append-nil host.calls)); of_disk = tt }

pub keeps_wire_then : (old between new : Edge) → KeepsWire old between → KeepsWire between new → KeepsWire old new
keeps_wire_then old between new a b = record {
  more = a.more ++ b.more;
  kept =
      b.kept
      ∙ ap (λ (host : Edge). record host { disk = new.disk; calls = host.calls ++ b.more }) a.kept
      ∙ ap (λ calls. record old { disk = new.disk; calls = calls }) (append_assoc old.calls a.more b.more);
  of_disk = of_disk_then a.more b.more a.of_disk b.of_disk;
}

pub keeps_disk_same : (host : Edge) → KeepsDisk host host
keeps_disk_same host = record { disk = refl; reserve = refl }

pub keeps_disk_then : (old between new : Edge) → KeepsDisk old between → KeepsDisk between new → KeepsDisk old new
keeps_disk_then old between new a b = record { disk = b.disk ∙ a.disk; reserve = b.reserve ∙ a.reserve }

-- ---- the acts

no_restarts_then : (front back : List Timed) → AreNoRestarts front → AreNoRestarts back → AreNoRestarts (front ++ back)
no_restarts_then [] back a b = b
no_restarts_then (timed ∷ front) back a b = (a.0, no_restarts_then front back a.1 b)

pub never_restarts_same : (host : Edge) → NeverRestarts host host
never_restarts_same host = ([], sym (append-nil (wire_acts 0 host.calls)), tt)

pub never_restarts_then : (old between new : Edge) → NeverRestarts old between → NeverRestarts between new → NeverRestarts old new
never_restarts_then old between new a b = (
  a.0 ++ b.0,
  b.1 ∙ ap (λ acts. acts ++ b.0) a.1 ∙ append_assoc (wire_acts 0 old.calls) a.0 b.0,
  no_restarts_then a.0 b.0 a.2 b.2,
)

-- calls of the disk leave the acts as they were
acts_stay : (old new : Edge) → KeepsWire old new → wire_acts 0 new.calls ≡ wire_acts 0 old.calls
acts_stay old new keeps = ap (λ host. wire_acts 0 host.calls) keeps.kept ∙ same_acts 0 old.calls keeps.more keeps.of_disk

pub keeps_acts_told : (old new : Edge) → KeepsWire old new → KeepsActs (acts_told old) (acts_told new)
keeps_acts_told old new keeps = acts_stay old new keeps

pub disk_restarts_none : (old new : Edge) → KeepsWire old new → NeverRestarts old new
disk_restarts_none old new keeps = ([], acts_stay old new keeps ∙ sym (append-nil (wire_acts 0 old.calls)), tt)
