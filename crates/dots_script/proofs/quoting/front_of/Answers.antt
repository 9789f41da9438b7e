use Rattle.std.proofs.Common.{length-take, arith}
use Rattle.dots_script.proofs.quoting.front_of.Goals as goal

pub slice_bounds-result-end : goal.slice_bounds-result-end
slice_bounds-result-end c = omega (arith, length-take 128 c.args.field.now, c.requires)
