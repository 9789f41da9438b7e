use Rattle.std.proofs.Common.{ap, sym, ◌∙◌}
use Rattle.std.specs.Prelude.{position}
use Rattle.coap_exchange.proofs.Firsts.{none_passes}
use Rattle.dots_client.proofs.Rows.{not_below, row_last}
use Rattle.dots_client.proofs.ledger.set_row.Goals as goal

pub returns-in-None : goal.returns-in-None
returns-in-None c =
    let none = ap (position (not_below c.args.row)) (sym c.as_slice.ensures.value) ∙ sym c.place_for.ensures ∙ c.in-None.is in
    c.push_reserved.ensures.items ∙ sym (row_last c.args.row c.args.ledger.now.items (none_passes (not_below c.args.row) c.args.ledger.now.items none))
