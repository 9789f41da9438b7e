use Rattle.std.proofs.Common.{◌++◌, ◌∙◌, sym, ap, map, flat_map, append-nil}
use Rattle.acl_lists.specs.declared.rows.AclRow.{AclRow}
use Rattle.filter_table.specs.TableRows.{row_of_acl}
use Rattle.dots_machine.specs.Report.{list_lines}
use Rattle.dots_server.specs.Lines.{only_where}
use Rattle.dots_server.proofs.Puts.{puts_then, puts_same}
use Rattle.dots_server.proofs.ReportTexts.{one_more, tested}
use Rattle.dots_server.proofs.report.lists.put_lists.Goals as goal

pub loop-row-preserved : goal.loop-row-preserved
loop-row-preserved g c =
    let text = λ (row : AclRow). only_where row.active (list_lines c.args.settings.now row) in record {
      written = c.loop-row.invariant.written ++ text c.in-Some.row.now;
      whole = c.loop-row.invariant.whole ∙ one_more text c.loop-row.invariant.written c.loop-row.row-iterator c.next.new.self c.in-Some.row.now c.in-Some.ensures.steps;
      puts = puts_then _ _ _ _ _ _ _ _ c.loop-row.invariant.puts c.put_active.ensures;
    }

pub returns : goal.returns
returns g c =
    let text = λ (row : AclRow). only_where row.active (list_lines c.args.settings.now row) in
    let written = c.loop-row.invariant.written in
    puts_same _ _ _ _ _ _
    (sym (append-nil written) ∙ ap (λ rows. written ++ flat_map text rows) (sym c.in-None.ensures.steps.0) ∙ sym c.loop-row.invariant.whole
    ∙ tested (list_lines c.args.settings.now) (λ row. row.active) (map row_of_acl c.args.table.now.acls))
    c.loop-row.invariant.puts
