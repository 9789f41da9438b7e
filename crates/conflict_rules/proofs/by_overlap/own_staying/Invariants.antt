-- those counted and those of the rest are all
use Rattle.std.proofs.Common.{◌≡◌, ◌+◌, ◌≤◌, drop, map}
use Rattle.conflict_rules.specs.ByOverlap.{own_staying}
use Rattle.conflict_rules.proofs.by_overlap.own_staying.Given as goal

abbrev pub invariant-loop-mitigation : goal.invariant-loop-mitigation
invariant-loop-mitigation g l = record {
  counted : l.number + own_staying (map g.T.Mitigates.live (drop l.mitigation-index l.live)) l.cuid l.request ≡ own_staying (map g.T.Mitigates.live l.live) l.cuid l.request;
  few : l.number ≤ l.mitigation-index;
}
