use Rattle.std.proofs.Common.{◌-◌, ◌≤◌, length}
use Rattle.std.specs.Io.KnownBytes.{Keeps}
use Rattle.dots_script.specs.Lines.{HasNoFeed, to_come}
use Rattle.dots_script.proofs.lines.find_line.Given as goal

abbrev pub invariant-reads : goal.invariant-reads
invariant-reads g l = record { seen : l.seen ≤ length l.block; none : HasNoFeed l.seen l.block; kept : Keeps (to_come l.fn.block (g.S.Source.left l.fn.source)) (to_come l.block (g.S.Source.left l.source)); later : g.S.Source.faults l.fn.source ≤ g.S.Source.faults l.source }

abbrev pub decreases-reads : goal.decreases-reads
decreases-reads g l = 8402 - length l.block
