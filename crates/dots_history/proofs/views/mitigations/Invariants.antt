-- those found and those of the rest are all
use Rattle.std.proofs.Common.{◌≡◌, ◌++◌, map, drop}
use Rattle.dots_history.specs.Histories.{mitigations}
use Rattle.dots_history.specs.HandedOut.{mitigation_of}
use Rattle.dots_history.proofs.views.mitigations.Given as goal

abbrev pub invariant-loop-place : goal.invariant-loop-place
invariant-loop-place l = map mitigation_of l.list.items ++ mitigations l.t (drop l.place l.entries) ≡ mitigations l.t l.entries
