-- those counted and those of the rest are all
use Rattle.std.proofs.Common.{◌≡◌, ◌+◌, ◌≤◌, drop}
use Rattle.std.specs.Prelude.{◌==◌, ◌&&◌}
use Rattle.dots_history.specs.declared.entry.Entry.{Entry}
use Rattle.dots_history.specs.Histories.{tally, held}
use Rattle.dots_history.specs.Capacities.{is_registration}
use Rattle.dots_history.proofs.admission.registrations.Given as goal

abbrev pub invariant-loop-place : goal.invariant-loop-place
invariant-loop-place l =
    (l.count ≤ l.place)
    × (l.count + tally (λ (x : Entry). is_registration x.change && (x.domain == l.entry.domain)) (held (drop l.place l.with)) ≡ tally (λ (x : Entry). is_registration x.change && (x.domain == l.entry.domain)) (held l.with))
