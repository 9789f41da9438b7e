-- the greater of the mid found and of those of the rest is the highest of all
use Rattle.std.proofs.Common.{◌≡◌, drop, map}
use Rattle.acl_lists.proofs.Greatest.{greater_of}
use Rattle.conflict_rules.specs.ByOverlap.{highest_mid}
use Rattle.conflict_rules.proofs.by_overlap.highest_mid.Given as goal

abbrev pub invariant-loop-mitigation : goal.invariant-loop-mitigation
invariant-loop-mitigation g l =
    greater_of l.highest (highest_mid (map g.T.Mitigates.live (drop l.mitigation-index l.live)) l.cuid l.request) ≡ highest_mid (map g.T.Mitigates.live l.live) l.cuid l.request
