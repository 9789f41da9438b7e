use Rattle.std.proofs.Common.{arith}
use Rattle.ip_scope.proofs.Putting.{Puts-then, Puts-as, groups_text-more}
use Rattle.ip_scope.proofs.put.put_groups.Goals as goal

pub loop-group-preserved : goal.loop-group-preserved
loop-group-preserved c =
    let one = Puts-then _ _ _ _ _ _ _ _ c.loop-group.invariant.0 c.put_all-end.ensures in
    let two = Puts-then _ _ _ _ _ _ _ _ one c.put_group-end-in-loop-group.ensures.text in
    (Puts-as _ _ _ _ _ _ (groups_text-more _ _ c.loop-group.group-index c.loop-group-test.true) two, omega arith)
