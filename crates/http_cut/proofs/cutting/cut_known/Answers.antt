use Rattle.http_cut.proofs.Needs.{waits_now}
use Rattle.http_cut.proofs.cutting.cut_known.Goals as goal

pub returns : goal.returns
returns c = waits_now c.args.buffered.now c.in-Some.size (rw c.in-Some.is at c.requires.known.lacks) c.if-buffered-size.true
