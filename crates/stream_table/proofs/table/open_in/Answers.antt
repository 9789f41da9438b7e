use Rattle.std.proofs.Common.{sym, ap, ◌∙◌}
use Rattle.std.specs.Prelude.{position}
use Rattle.stream_table.specs.Lines.{is_of, taken_in, row_opened}
use Rattle.stream_table.proofs.Placing.{none_any, found_none, row_nowhere, row_found, placed, answered}
use Rattle.stream_table.proofs.table.open_in.Goals as goal

pub returns-in_default-clause-answer : goal.returns-in_default-clause-answer
returns-in_default-clause-answer g c =
    let test = is_of c.args.peer in
    sym (ap taken_in (found_none test c.args.rows.now.items (none_any test c.args.rows.now.items (ap (position (is_of c.args.peer)) (sym c.as_slice.ensures.value) ∙ sym c.in_default.ensures))))

pub returns-in_default-clause-rows : goal.returns-in_default-clause-rows
returns-in_default-clause-rows g c =
    sym (row_nowhere c.args.peer (row_opened c.args.conn) c.args.rows.now.items (none_any (is_of c.args.peer) c.args.rows.now.items (ap (position (is_of c.args.peer)) (sym c.as_slice.ensures.value) ∙ sym c.in_default.ensures)))

pub returns-then-open_at-clause-answer : goal.returns-then-open_at-clause-answer
returns-then-open_at-clause-answer g c =
    sym (ap taken_in (row_found c.args.peer c.in-Some.at c.args.rows.now.items (ap (position (is_of c.args.peer)) (sym c.as_slice.ensures.value) ∙ sym c.in-Some.ensures)) ∙ answered _ _ c.if-open_at.ensures.answer)

pub returns-then-open_at-clause-rows : goal.returns-then-open_at-clause-rows
returns-then-open_at-clause-rows g c =
    c.open_at.ensures.rows ∙ placed c.args.peer c.in-Some.at (row_opened c.args.conn) c.args.rows.now.items (ap (position (is_of c.args.peer)) (sym c.as_slice.ensures.value) ∙ sym c.in-Some.ensures)

pub returns-clause-answer : goal.returns-clause-answer
returns-clause-answer g c =
    sym (ap taken_in (row_found c.args.peer c.in-Some.at c.args.rows.now.items (ap (position (is_of c.args.peer)) (sym c.as_slice.ensures.value) ∙ sym c.in-Some.ensures)) ∙ answered _ _ c.if-open_at.ensures.answer)

pub returns-clause-rows : goal.returns-clause-rows
returns-clause-rows g c =
    c.open_at.ensures.rows ∙ placed c.args.peer c.in-Some.at (row_opened c.args.conn) c.args.rows.now.items (ap (position (is_of c.args.peer)) (sym c.as_slice.ensures.value) ∙ sym c.in-Some.ensures)
