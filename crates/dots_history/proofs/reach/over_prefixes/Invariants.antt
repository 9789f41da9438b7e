-- the prefixes behind make of what there is now what all of them make of the start
use Rattle.std.proofs.Common.{◌≡◌, drop}
use Rattle.dots_history.specs.Reach.{over_prefixes}
use Rattle.dots_history.proofs.reach.over_prefixes.Given as goal

abbrev pub invariant-loop-prefix : goal.invariant-loop-prefix
invariant-loop-prefix l = over_prefixes (drop l.prefix-index l.prefixes) l.reaches ≡ over_prefixes l.prefixes l.fn.start
