-- what the rest says, all say
use Rattle.std.proofs.Common.{◌≡◌, drop, map}
use Rattle.conflict_rules.specs.ByOverlap.{is_contested}
use Rattle.conflict_rules.proofs.by_overlap.is_contested.Given as goal

abbrev pub invariant-loop-mitigation : goal.invariant-loop-mitigation
invariant-loop-mitigation g l =
    is_contested (map g.T.Mitigates.live (drop l.mitigation-index l.live)) l.cuid l.request ≡ is_contested (map g.T.Mitigates.live l.live) l.cuid l.request
