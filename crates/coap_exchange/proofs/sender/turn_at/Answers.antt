use Rattle.std.proofs.Common.{◌≡◌, Some, ap, sym, ◌∙◌}
use Rattle.std.proofs.lemmas.Bool.{cond-true, cond-false}
use Rattle.coap_exchange.specs.declared.sender.Turn.TheVariants as turn
use Rattle.coap_exchange.specs.Sent.{may_repeat}
use Rattle.coap_exchange.specs.Resending.{GaveUp}
use Rattle.coap_exchange.proofs.Firsts.{there_is, one_there}
use Rattle.coap_exchange.proofs.Turning.{turned_again, answered_again, turned_up, answered_up, turn_is}
use Rattle.coap_exchange.proofs.sender.turn_at.Goals as goal

pub returns-then-may_repeat-clause-turned : goal.returns-then-may_repeat-clause-turned
returns-then-may_repeat-clause-turned c =
    let first = there_is c.args.sent.now.items c.args.place c.index.result.now c.requires c.index.ensures in
    let second = there_is c.args.sent.now.items c.args.place c.index_mut.result.now c.requires c.index_mut.ensures.value in
    let own = one_there c.index_mut.result.now c.index.result.now (sym second ∙ first) in
    turned_again c.args.sent.now.items c.args.place c.index_mut.result.now c.repeat.new.self second
    (ap may_repeat own ∙ sym c.may_repeat.ensures ∙ c.if-may_repeat.true) c.repeat.ensures

pub returns-then-may_repeat-clause-answer : goal.returns-then-may_repeat-clause-answer
returns-then-may_repeat-clause-answer c =
    let first = there_is c.args.sent.now.items c.args.place c.index.result.now c.requires c.index.ensures in
    let second = there_is c.args.sent.now.items c.args.place c.index_mut.result.now c.requires c.index_mut.ensures.value in
    let own = one_there c.index_mut.result.now c.index.result.now (sym second ∙ first) in
    answered_again c.args.sent.now.items c.args.place c.index_mut.result.now c.repeat.new.self c.requires second
    (ap may_repeat own ∙ sym c.may_repeat.ensures ∙ c.if-may_repeat.true) c.repeat.ensures

pub returns-clause-turned : goal.returns-clause-turned
returns-clause-turned c =
    let first = there_is c.args.sent.now.items c.args.place c.index.result.now c.requires c.index.ensures in
    c.remove-given_up.ensures.items
    ∙ turned_up c.args.sent.now.items c.args.place c.index.result.now first (sym c.may_repeat.ensures ∙ c.if-may_repeat.false)

pub returns-clause-answer : goal.returns-clause-answer
returns-clause-answer c =
    let first = there_is c.args.sent.now.items c.args.place c.index.result.now c.requires c.index.ensures in
    let gone = there_is c.args.sent.now.items c.args.place c.remove-given_up.result c.requires c.remove-given_up.ensures.value in
    let own = one_there c.remove-given_up.result c.index.result.now (sym gone ∙ first) in
    ap (λ id. Some (GaveUp id)) c.id.ensures
    ∙ answered_up c.args.sent.now.items c.args.place c.remove-given_up.result gone
    (ap may_repeat own ∙ sym c.may_repeat.ensures ∙ c.if-may_repeat.false)

pub returns-then-may_repeat-clause-turn : goal.returns-then-may_repeat-clause-turn
returns-then-may_repeat-clause-turn c =
    let first = there_is c.args.sent.now.items c.args.place c.index.result.now c.requires c.index.ensures in
    turn_is c.args.sent.now.items c.args.place c.index.result.now _ first (cond-true (may_repeat c.index.result.now) _ _ (sym c.may_repeat.ensures ∙ c.if-may_repeat.true))

pub returns-clause-turn : goal.returns-clause-turn
returns-clause-turn c =
    let first = there_is c.args.sent.now.items c.args.place c.index.result.now c.requires c.index.ensures in
    let gone = there_is c.args.sent.now.items c.args.place c.remove-given_up.result c.requires c.remove-given_up.ensures.value in
    let own = one_there c.remove-given_up.result c.index.result.now (sym gone ∙ first) in
    turn_is c.args.sent.now.items c.args.place c.remove-given_up.result _ gone
    (
    cond-false (may_repeat c.remove-given_up.result) _ _ (ap may_repeat own ∙ sym c.may_repeat.ensures ∙ c.if-may_repeat.false)
    ∙ ap (λ id. turn.GaveUp c.args.place id) (sym c.id.ensures)
    )
