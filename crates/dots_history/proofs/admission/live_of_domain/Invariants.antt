-- those counted and those of the rest are all
use Rattle.std.proofs.Common.{◌≡◌, ◌+◌, ◌≤◌, drop}
use Rattle.std.specs.Prelude.{◌==◌}
use Rattle.dots_history.specs.Histories.{Mitigation, tally, mitigations}
use Rattle.dots_history.proofs.admission.live_of_domain.Given as goal

abbrev pub invariant-loop-place : goal.invariant-loop-place
invariant-loop-place l =
    (l.count ≤ l.place)
    × (l.count + tally (λ (m : Mitigation). m.put.domain == l.entry.domain) (mitigations l.entry.time (drop l.place l.with)) ≡ tally (λ (m : Mitigation). m.put.domain == l.entry.domain) (mitigations l.entry.time l.with))
