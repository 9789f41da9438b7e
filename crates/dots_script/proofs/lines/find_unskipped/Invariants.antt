use Rattle.std.proofs.Common.{◌≤◌}
use Rattle.dots_script.specs.Lines.{Skips, to_come}
use Rattle.dots_script.proofs.lines.find_unskipped.Given as goal

abbrev pub invariant-skips : goal.invariant-skips
invariant-skips g l = record { passed : Skips (to_come l.fn.block (g.S.Source.left l.fn.source)) (to_come l.block (g.S.Source.left l.source)) l.count; later : g.S.Source.faults l.fn.source ≤ g.S.Source.faults l.source }
