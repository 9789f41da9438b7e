use Rattle.std.proofs.Common.{[], refl, ap, sym, ◌∙◌}
use Rattle.std.specs.Prelude.{position}
use Rattle.std.proofs.lemmas.List.Quantifiers.{position-Some}
use Rattle.coap_exchange.proofs.Firsts.{there_is, remove_at, first_replaced, none_passes, replaced_none}
use Rattle.dots_client.specs.Client.{has_mid}
use Rattle.dots_client.proofs.ledger.drop_row.Goals as goal

pub returns-in-Some : goal.returns-in-Some
returns-in-Some c =
    let found = ap (position (has_mid c.args.mid)) (sym c.as_slice.ensures.value) ∙ sym c.place_of.ensures ∙ c.in-Some.is in
    let at = position-Some (has_mid c.args.mid) c.args.ledger.now.items c.in-Some.place c.remove-withdrawn.result found in
    c.remove-withdrawn.ensures.items
    ∙ remove_at (λ x. []) c.args.ledger.now.items c.in-Some.place c.remove-withdrawn.result
    (there_is c.args.ledger.now.items c.in-Some.place c.remove-withdrawn.result at.0 c.remove-withdrawn.ensures.value) refl
    ∙ first_replaced (has_mid c.args.mid) (λ x. []) c.args.ledger.now.items c.in-Some.place c.remove-withdrawn.result at.0 at.1 at.2

pub returns-in_default : goal.returns-in_default
returns-in_default c =
    let none = ap (position (has_mid c.args.mid)) (sym c.as_slice.ensures.value) ∙ sym c.place_of.ensures ∙ c.in_default.is in
    sym (replaced_none (has_mid c.args.mid) (λ x. []) c.args.ledger.now.items (none_passes (has_mid c.args.mid) c.args.ledger.now.items none))
