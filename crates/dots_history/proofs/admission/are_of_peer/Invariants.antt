-- whether all of the rest are so says whether all are
use Rattle.std.proofs.Common.{◌≡◌, ◌||◌, not, drop}
use Rattle.std.specs.Prelude.{◌==◌}
use Rattle.std.specs.List.{list_all}
use Rattle.dots_history.specs.Entries.{same_client}
use Rattle.dots_history.specs.Histories.{Mitigation, mitigations}
use Rattle.dots_history.proofs.admission.are_of_peer.Given as goal

abbrev pub invariant-loop-place : goal.invariant-loop-place
invariant-loop-place l =
    list_all (λ (m : Mitigation). not (same_client m.put l.entry) || (l.entry.peer == m.put.peer)) (mitigations l.entry.time (drop l.place l.before))
    ≡ list_all (λ (m : Mitigation). not (same_client m.put l.entry) || (l.entry.peer == m.put.peer)) (mitigations l.entry.time l.before)
