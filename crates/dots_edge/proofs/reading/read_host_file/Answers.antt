use Rattle.std.proofs.Common.{map}
use Rattle.dots_edge.specs.HostLine.{line_value}
use Rattle.dots_edge.proofs.ReadTo.{read_line}
use Rattle.dots_edge.proofs.reading.read_host_file.Goals as goal

pub loop-line-preserved : goal.loop-line-preserved
loop-line-preserved c =
    read_line c.args.file.now c.loop-line.rest.now c.in-Some.line.now c.in-Some.behind.now c.loop-line.number (map line_value c.loop-line.said.items) _ c.loop-line.invariant
    c.in-Some.ensures.lines c.in-Some.ensures.shorter c.in_default-take_line.ensures.ok
