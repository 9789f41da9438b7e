-- what the rest says, all say
use Rattle.std.proofs.Common.{◌≡◌, drop, map}
use Rattle.conflict_rules.specs.ByMid.{judge_same_mid}
use Rattle.conflict_rules.proofs.by_mid.judge_same_mid.Given as goal

abbrev pub invariant-loop-at : goal.invariant-loop-at
invariant-loop-at g l =
    judge_same_mid l.cuid l.mid l.asked l.trigger l.at (map g.T.Mitigates.live (drop l.at l.live)) ≡ judge_same_mid l.cuid l.mid l.asked l.trigger 0 (map g.T.Mitigates.live l.live)
