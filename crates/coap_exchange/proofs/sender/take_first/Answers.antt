use Rattle.std.proofs.Common.{◌≡◌, [], refl, ap, sym, ◌∙◌}
use Rattle.std.specs.Prelude.{position}
use Rattle.std.proofs.lemmas.List.Folds.{list_any_at}
use Rattle.std.proofs.lemmas.List.Quantifiers.{position-Some}
use Rattle.coap_exchange.specs.Resending.{has_id}
use Rattle.coap_exchange.proofs.Firsts.{there_is, remove_at, first_replaced, none_passes, replaced_none, none_any}
use Rattle.coap_exchange.proofs.sender.take_first.Goals as goal

pub returns-in-Some-clause-answer : goal.returns-in-Some-clause-answer
returns-in-Some-clause-answer c =
    let found = ap (position (has_id c.args.id)) (sym c.as_slice.ensures.value) ∙ sym c.in-Some.ensures in
    let at = position-Some (has_id c.args.id) c.args.sent.now.items c.in-Some.place c.remove-acknowledged.result found in
    sym (list_any_at (has_id c.args.id) c.args.sent.now.items c.in-Some.place c.remove-acknowledged.result at.0 at.1)

pub returns-in-Some-clause-gone : goal.returns-in-Some-clause-gone
returns-in-Some-clause-gone c =
    let found = ap (position (has_id c.args.id)) (sym c.as_slice.ensures.value) ∙ sym c.in-Some.ensures in
    let at = position-Some (has_id c.args.id) c.args.sent.now.items c.in-Some.place c.remove-acknowledged.result found in
    c.remove-acknowledged.ensures.items
    ∙ remove_at (λ x. []) c.args.sent.now.items c.in-Some.place c.remove-acknowledged.result
    (there_is c.args.sent.now.items c.in-Some.place c.remove-acknowledged.result at.0 c.remove-acknowledged.ensures.value) refl
    ∙ first_replaced (has_id c.args.id) (λ x. []) c.args.sent.now.items c.in-Some.place c.remove-acknowledged.result at.0 at.1 at.2

pub returns-in-None-clause-answer : goal.returns-in-None-clause-answer
returns-in-None-clause-answer c =
    let none = ap (position (has_id c.args.id)) (sym c.as_slice.ensures.value) ∙ sym c.in-None.ensures in
    sym (none_any (has_id c.args.id) c.args.sent.now.items (none_passes (has_id c.args.id) c.args.sent.now.items none))

pub returns-in-None-clause-gone : goal.returns-in-None-clause-gone
returns-in-None-clause-gone c =
    let none = ap (position (has_id c.args.id)) (sym c.as_slice.ensures.value) ∙ sym c.in-None.ensures in
    sym (replaced_none (has_id c.args.id) (λ x. []) c.args.sent.now.items (none_passes (has_id c.args.id) c.args.sent.now.items none))
