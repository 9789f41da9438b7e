-- what the rest says, all say
use Rattle.std.proofs.Common.{◌≡◌, drop, map}
use Rattle.conflict_rules.specs.ByOverlap.{meets_another}
use Rattle.conflict_rules.proofs.meeting.meets_another.Given as goal

abbrev pub invariant-loop-mitigation : goal.invariant-loop-mitigation
invariant-loop-mitigation g l =
    meets_another (map g.T.Mitigates.live (drop l.mitigation-index l.live)) l.cuid l.prefix ≡ meets_another (map g.T.Mitigates.live l.live) l.cuid l.prefix
