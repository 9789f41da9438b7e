use Rattle.std.proofs.Common.{[], ◌++◌, take, flat_map}
use Rattle.dots_machine.specs.Report.{ace_lines}
use Rattle.dots_server.specs.Gathering.{sunk, Puts}
use Rattle.dots_server.proofs.report.lists.put_list.Given as goal

abbrev pub invariant-loop-ace : goal.invariant-loop-ace
invariant-loop-ace g l = Puts (sunk g.K.Sink.holds g.K.Sink.faults l.fn.sink) l.fn.report (sunk g.K.Sink.holds g.K.Sink.faults l.sink) l.report
    ([] ++ flat_map (ace_lines l.fn.settings l.fn.row) (take l.ace-index l.ace-items))
