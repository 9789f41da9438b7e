use Rattle.std.proofs.Common.{◌≡◌, List, ℕ, ◌++◌, flat_map}
use Rattle.filter_table.specs.TableRows.{active_rows}
use Rattle.dots_machine.specs.Report.{scrub_line}
use Rattle.dots_server.specs.Gathering.{sunk, Puts}
use Rattle.dots_server.proofs.report.put_scrubs.Given as goal

abbrev pub invariant-loop-row : goal.invariant-loop-row
invariant-loop-row g l = record {
  written : List ℕ;
  whole : flat_map (scrub_line l.fn.settings) (active_rows l.fn.table.scrubs) ≡ written ++ flat_map (scrub_line l.fn.settings) l.row-iterator;
  puts : Puts (sunk g.K.Sink.holds g.K.Sink.faults l.fn.sink) l.fn.report (sunk g.K.Sink.holds g.K.Sink.faults l.sink) l.report written;
}
