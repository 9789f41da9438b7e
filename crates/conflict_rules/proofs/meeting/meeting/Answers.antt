use Rattle.std.proofs.Common.{◌+◌, ◌*◌, ◌^◌, ◌≤◌, ◌<◌, length, map, arith}
use Rattle.std.proofs.lemmas.List.{length-map}
use Rattle.conflict_rules.specs.ByOverlap.{meets_another, resolved, bits}
use Rattle.conflict_rules.proofs.Bits.{bits_fit}
use Rattle.conflict_rules.proofs.Resolving.{target_marked, target_passed, resolved_count}
use Rattle.conflict_rules.proofs.meeting.meeting.Goals as goal

pub loop-target-preserved : goal.loop-target-preserved
loop-target-preserved g c = record {
  marked = target_marked (meets_another (map g.T.Mitigates.live c.args.live.now) c.args.cuid.now) c.target-item.result c.args.targets.now c.items-prefixes.result.now
      c.loop-target.place c.loop-target.target-index c.loop-target.meeting c.marks-meeting.result _
      c.loop-target-test.true c.target-item.is c.items-prefixes.ensures c.marks-meeting.ensures c.loop-target.invariant.marked;
  passed = target_passed c.target-item.result c.args.targets.now c.items-prefixes.result.now
      c.loop-target.place c.loop-target.target-index _
      c.loop-target-test.true c.target-item.is c.items-prefixes.ensures c.loop-target.invariant.passed;
}

pub overflow_add-meeting : goal.overflow_add-meeting
overflow_add-meeting g c =
    let all = map (meets_another (map g.T.Mitigates.live c.args.live.now) c.args.cuid.now) (resolved c.args.targets.now) in
    let few : 0 + length all ≤ 128 = rw (length-map (resolved c.args.targets.now) (meets_another (map g.T.Mitigates.live c.args.live.now) c.args.cuid.now), resolved_count c.args.targets.now) (omega (arith, c.requires)) in
    let fit : 2 ^ 0 * bits all < 2 ^ 128 = bits_fit 0 all few in
    let more = (loop-target-preserved g c).marked in
    omega (arith, fit, more)
