use Rattle.dots_script.proofs.Splits.{split_around, none_in_front}
use Rattle.dots_script.proofs.event_line.split_at_space.Goals as goal

pub returns-then-bytes-at-eq32-clause-some : goal.returns-then-bytes-at-eq32-clause-some
returns-then-bytes-at-eq32-clause-some c =
    let bytes = c.args.bytes.now in
    let at = c.loop-at.at in
    (split_around bytes at 32 c.loop-at-test.true c.if-bytes-at-eq32.true, none_in_front bytes at 32 c.loop-at.invariant)
