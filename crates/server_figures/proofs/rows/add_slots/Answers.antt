use Rattle.std.proofs.Common.{◌∙◌, ◌++◌, ap, codes, length}
use Rattle.server_figures.specs.Lines.{plain_figure}
use Rattle.server_figures.specs.Figures.{slots_lines, gauge}
use Rattle.server_figures.proofs.Chains.{more, figure, on_ok}
use Rattle.server_figures.proofs.rows.add_slots.Goals as goal

pub returns : goal.returns
unfolding slots_lines
returns c =
    on_ok c.add_gauge-2.result (λ last. more c.args.text.now.items c.add_gauge.new.text.items c.add_gauge-2.new.text.items (plain_figure (gauge (codes "dots_journal_slots_used") (codes "Slots of the journal in use.")) c.args.ledger.now.journal.used) (plain_figure (gauge (codes "dots_journal_slots") (codes "Slots of the journal in all.")) c.args.ledger.now.journal.slots) (figure c.args.text.now.items c.add_gauge.new.text.items (gauge (codes "dots_journal_slots_used") (codes "Slots of the journal in use.")) c.from.result c.args.ledger.now.journal.used c.in_ok-add_gauge.ensures (c.from.ensures ∙ c.used.ensures.used))
    (figure c.add_gauge.new.text.items c.add_gauge-2.new.text.items (gauge (codes "dots_journal_slots") (codes "Slots of the journal in all.")) c.from-2.result c.args.ledger.now.journal.slots last (c.from-2.ensures ∙ c.slots.ensures))) c.add_gauge-2.ensures
