use Rattle.std.proofs.Common.{ap, sym, subst, ◌∙◌}
use Rattle.std.specs.Prelude.{option_map}
use Rattle.std.specs.List.{find, list_any}
use Rattle.dots_client.specs.declared.ask.Ask.{Ask}
use Rattle.dots_client.specs.Client.{ClientValue, IsKnown, has_mid, mid_for}
use Rattle.dots_client.proofs.Beside.{any_found}
use Rattle.dots_client.proofs.client.ClientCore.request_for.Goals as goal

pub unreachable-requires : goal.unreachable-requires
unreachable-requires c =
    let between = c.requires.mid ∙ ap (mid_for c.args.self.now) c.in-Refresh.is in
    let known = subst (λ (ask : Ask). IsKnown ask c.args.self.now.ledger) c.in-Refresh.is c.requires.known in
    let there = ap (λ m. list_any (has_mid m) c.args.self.now.ledger) between ∙ known in
    let rows = c.as_slice.ensures.value ∙ ap (λ (k : ClientValue). k.ledger) c.self.view_is in
    let none = ap (find (has_mid c.args.mid)) (sym rows) ∙ sym c.row_of.ensures ∙ ap (option_map (λ row. row.now)) c.in_default.is in
    any_found (has_mid c.args.mid) c.args.self.now.ledger there none
