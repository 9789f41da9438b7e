-- the bits set and those of the rest are all
use Rattle.std.proofs.Common.{◌≡◌, ◌+◌, ◌*◌, ◌^◌, drop, map}
use Rattle.conflict_rules.specs.ByOverlap.{meeting}
use Rattle.dots_history.specs.Bounds.{prefix_count}
use Rattle.conflict_rules.proofs.meeting.meeting.Given as goal

abbrev pub invariant-loop-target : goal.invariant-loop-target
invariant-loop-target g l = record {
  marked : l.meeting + 2 ^ l.place * meeting (map g.T.Mitigates.live l.live) l.cuid (drop l.target-index l.targets) ≡ meeting (map g.T.Mitigates.live l.live) l.cuid l.targets;
  passed : l.place + prefix_count (drop l.target-index l.targets) ≡ prefix_count l.targets;
}
