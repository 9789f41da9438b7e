use Rattle.std.proofs.Common.{◌≡◌, List, ℕ, ◌++◌, map, flat_map}
use Rattle.acl_lists.specs.declared.rows.AclRow.{AclRow}
use Rattle.filter_table.specs.TableRows.{row_of_acl}
use Rattle.dots_machine.specs.Report.{list_lines}
use Rattle.dots_server.specs.Gathering.{sunk, Puts}
use Rattle.dots_server.specs.Lines.{only_where}
use Rattle.dots_server.proofs.report.lists.put_lists.Given as goal

abbrev pub invariant-loop-row : goal.invariant-loop-row
invariant-loop-row g l = record {
  written : List ℕ;
  whole : flat_map (λ (row : AclRow). only_where row.active (list_lines l.fn.settings row)) (map row_of_acl l.fn.table.acls)
      ≡ written ++ flat_map (λ (row : AclRow). only_where row.active (list_lines l.fn.settings row)) l.row-iterator;
  puts : Puts (sunk g.K.Sink.holds g.K.Sink.faults l.fn.sink) l.fn.report (sunk g.K.Sink.holds g.K.Sink.faults l.sink) l.report written;
}
