use Rattle.std.proofs.Common.{map}
use Rattle.dots_edge.specs.HostLine.{line_value}
use Rattle.dots_edge.proofs.ReadTo.{added, not_added}
use Rattle.dots_edge.proofs.reading.take_line.Goals as goal

pub returns-in-Some-clause-ok : goal.returns-in-Some-clause-ok
returns-in-Some-clause-ok c =
    added c.args.text.now (line_value c.in-Some.line) c.args.number (map line_value c.args.said.now.items) _ _ c.if-is_skipped.ensures c.in-Some.ensures c.add_line.ensures

pub returns-in-Some-clause-refused : goal.returns-in-Some-clause-refused
returns-in-Some-clause-refused c =
    not_added c.args.text.now (line_value c.in-Some.line) c.args.number (map line_value c.args.said.now.items) _ _ c.if-is_skipped.ensures c.in-Some.ensures c.add_line.ensures
