use Rattle.http_cut.proofs.Places.{waits_yet, full_yet}
use Rattle.http_cut.proofs.cutting.cut_headless.Goals as goal

pub returns-then-buffered-lt-GREATEST_HEAD : goal.returns-then-buffered-lt-GREATEST_HEAD
returns-then-buffered-lt-GREATEST_HEAD c = waits_yet c.args.buffered.now c.args.place c.requires.place c.requires.head c.if-buffered-lt-GREATEST_HEAD.true

pub returns : goal.returns
returns c = full_yet c.args.buffered.now c.args.place c.requires.place c.requires.head c.if-buffered-lt-GREATEST_HEAD.false
