use Rattle.std.proofs.Common.{sym, ap, subst, ◌∙◌}
use Rattle.std.specs.Prelude.{option_map, option_and_then}
use Rattle.stream_table.specs.declared.place.LinePlace.{LinePlace}
use Rattle.stream_table.specs.Lines.{line_of}
use Rattle.stream_table.specs.Places.{AreApart, conn_of, conn_at, line_of_row}
use Rattle.stream_table.proofs.Placing.{nowhere_in, there_is}
use Rattle.stream_table.proofs.Apart.{is_at}
use Rattle.stream_table.proofs.table.StreamTable.place.Goals as goal

pub returns : goal.returns
returns g c =
    ap (line_of c.args.conn) (sym (c.deref-lines-items.ensures.value ∙ c.self.view_is))
    ∙ nowhere_in c.args.conn c.loop-row.row c.deref-lines-items.result.now c.loop-row-test.false c.loop-row.invariant

pub returns-in-Some : goal.returns-in-Some
returns-in-Some g c =
    let place : LinePlace = record { row = c.loop-row.row; seat = c.in-Some.seat } in
    let items = c.deref-lines-items.result.now in
    let there = there_is items c.loop-row.row c.lines-item.result c.loop-row-test.true c.lines-item.is in
    let here = ap (λ row. option_map conn_of (option_and_then (line_of_row c.in-Some.seat) row)) there ∙ c.in-Some.ensures in
    let same = c.deref-lines-items.ensures.value ∙ c.self.view_is in
    is_at c.args.conn place c.args.self.now (subst AreApart c.self.view_is c.self.invariant) (ap (conn_at place) (sym same) ∙ here)
