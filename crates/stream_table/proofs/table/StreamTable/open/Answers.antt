use Rattle.std.proofs.Common.{sym, subst, ap, ◌∙◌}
use Rattle.stream_table.specs.Lines.{with_row, row_opened}
use Rattle.stream_table.specs.Places.{AreApart}
use Rattle.stream_table.proofs.Apart.{apart_opened}
use Rattle.stream_table.proofs.table.StreamTable.open.Goals as goal

pub invariant_of-self : goal.invariant_of-self
invariant_of-self g c =
    subst AreApart (sym (c.open_in.ensures.rows ∙ ap (with_row c.args.peer (row_opened c.args.conn)) c.forget_in.ensures))
    (apart_opened c.args.peer c.args.conn c.self.inside.rows.items c.self.invariant)
