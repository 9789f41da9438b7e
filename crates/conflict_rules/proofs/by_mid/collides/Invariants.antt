-- what the rest says, all say
use Rattle.std.proofs.Common.{◌≡◌, drop, map}
use Rattle.conflict_rules.specs.ByMid.{collides}
use Rattle.conflict_rules.proofs.by_mid.collides.Given as goal

abbrev pub invariant-loop-mitigation : goal.invariant-loop-mitigation
invariant-loop-mitigation g l =
    collides (map g.T.Mitigates.live (drop l.mitigation-index l.live)) l.peer l.cuid ≡ collides (map g.T.Mitigates.live l.live) l.peer l.cuid
