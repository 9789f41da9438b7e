-- the bits set and those of the rest are all
use Rattle.std.proofs.Common.{◌≡◌, ◌+◌, ◌*◌, ◌^◌, map, drop}
use Rattle.conflict_rules.specs.ByOverlap.{meets_another, bits}
use Rattle.conflict_rules.proofs.meeting.marks.Given as goal

abbrev pub invariant-loop-index : goal.invariant-loop-index
invariant-loop-index g l =
    l.marks + 2 ^ (l.place + l.index) * bits (map (meets_another (map g.T.Mitigates.live l.live) l.cuid) (drop l.index l.prefixes))
    ≡ 2 ^ l.place * bits (map (meets_another (map g.T.Mitigates.live l.live) l.cuid) l.prefixes)
