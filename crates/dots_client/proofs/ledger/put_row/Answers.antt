use Rattle.std.proofs.Common.{ap, sym, ◌∙◌}
use Rattle.std.specs.Prelude.{◌==◌}
use Rattle.std.proofs.lemmas.Bool.{eq-eqb, ne_eqb}
use Rattle.std.proofs.lemmas.List.Quantifiers.{position-Some}
use Rattle.dots_client.specs.declared.granted.Granted.{Granted}
use Rattle.dots_client.proofs.Rows.{not_below, row_over, row_before}
use Rattle.dots_client.proofs.ledger.put_row.Goals as goal

pub returns-then-index-row : goal.returns-then-index-row
returns-then-index-row c =
    let x = c.index.result.now in
    let at = position-Some (not_below c.args.row) c.args.ledger.now.items c.args.place x (sym c.requires.first) in
    row_over c.args.row c.args.ledger.now.items c.args.place x at.0 at.1 at.2
    (ap (λ (g : Granted). g.mid == c.args.row.mid) (sym c.index.ensures) ∙ eq-eqb x.mid c.args.row.mid c.if-index-row.true)

pub returns : goal.returns
returns c =
    let x = c.index.result.now in
    let at = position-Some (not_below c.args.row) c.args.ledger.now.items c.args.place x (sym c.requires.first) in
    c.in-Ok.ensures.items
    ∙ row_before c.args.row c.args.ledger.now.items c.args.place x at.0 at.1 at.2
    (ap (λ (g : Granted). g.mid == c.args.row.mid) (sym c.index.ensures) ∙ ne_eqb x.mid c.args.row.mid c.if-index-row.false)
