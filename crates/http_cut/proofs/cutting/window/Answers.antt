use Rattle.std.proofs.Common.{sym, arith}
use Rattle.std.proofs.lemmas.List.{take_all, length-take-le}
use Rattle.http_cut.proofs.cutting.window.Goals as goal

pub returns-then-buffered-le-GREATEST_HEAD-clause-value : goal.returns-then-buffered-le-GREATEST_HEAD-clause-value
returns-then-buffered-le-GREATEST_HEAD-clause-value c = sym (take_all 8192 c.args.buffered.now c.if-buffered-le-GREATEST_HEAD.true)

pub slice_bounds-result-end : goal.slice_bounds-result-end
slice_bounds-result-end c = sym (length-take-le 8192 c.args.buffered.now (omega (arith, c.if-buffered-le-GREATEST_HEAD.false)))
