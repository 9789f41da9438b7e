use Rattle.std.proofs.Common.{◌∙◌, ◌++◌, ap, codes, length}
use Rattle.server_figures.specs.Lines.{plain_figure}
use Rattle.filter_table.specs.TableRows.{active_rows}
use Rattle.server_figures.specs.Figures.{rows_lines, gauge}
use Rattle.server_figures.proofs.Chains.{more, figure, on_ok}
use Rattle.server_figures.proofs.rows.add_rows.Goals as goal

pub returns : goal.returns
unfolding rows_lines
returns c =
    on_ok c.add_gauge-2.result (λ last. more c.args.text.now.items c.add_gauge.new.text.items c.add_gauge-2.new.text.items (plain_figure (gauge (codes "dots_mitigation_rows") (codes "Rows of mitigations that filter.")) (length (active_rows c.args.table.now.scrubs))) (plain_figure (gauge (codes "dots_list_rows") (codes "Access lists that are held.")) (length c.args.table.now.acls)) (figure c.args.text.now.items c.add_gauge.new.text.items (gauge (codes "dots_mitigation_rows") (codes "Rows of mitigations that filter.")) c.in_ok-rows.rows (length (active_rows c.args.table.now.scrubs)) c.in_ok-add_gauge.ensures c.in_ok-rows.ensures)
    (figure c.add_gauge.new.text.items c.add_gauge-2.new.text.items (gauge (codes "dots_list_rows") (codes "Access lists that are held.")) c.in_ok-lists.lists (length c.args.table.now.acls) last c.in_ok-lists.ensures)) c.add_gauge-2.ensures
