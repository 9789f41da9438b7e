use Rattle.std.proofs.Common.{arith, nat_lt, length, ◌/◌, refl}
use Rattle.std.proofs.lemmas.List.Sums.{prefix_len-le-length}
use Rattle.filter_table.proofs.Searching.{halved, last_one}
use Rattle.filter_table.proofs.finding.numbers_below.Goals as goal

pub loop-size-init : goal.loop-size-init
loop-size-init c = record {
  left = omega (arith, c.if-size-eq0.false);
  within = omega arith;
  from = omega arith;
  to = omega (arith, prefix_len-le-length (λ n. nat_lt n c.args.bound) c.args.numbers.now);
}

pub loop-size-preserved : goal.loop-size-preserved
loop-size-preserved c =
    let next = halved c.args.bound c.loop-size.base (c.loop-size.size / 2) c.loop-size.size c.is_less.result (length c.args.numbers.now) c.args.numbers.now c.requires.in_order refl
    c.loop-size-test.true c.loop-size.invariant.within refl c.loop-size.invariant.from c.loop-size.invariant.to c.is_less.ensures in
    record { left = next.left; within = next.within; from = next.from; to = next.to }

pub returns-clause-value : goal.returns-clause-value
returns-clause-value c =
    last_one c.args.bound c.loop-size.base c.loop-size.size c.is_less-2.result c.args.numbers.now c.requires.in_order c.loop-size-test.false
    (omega (arith, c.loop-size.invariant.left, c.loop-size.invariant.within)) c.loop-size.invariant.from c.loop-size.invariant.to c.is_less-2.ensures
