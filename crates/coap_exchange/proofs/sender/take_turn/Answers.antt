use Rattle.std.proofs.Common.{◌≡◌, [], ap, sym, ◌∙◌}
use Rattle.std.specs.Prelude.{position, option_map}
use Rattle.std.proofs.lemmas.List.Quantifiers.{position-Some}
use Rattle.coap_exchange.specs.Resending.{after_timeout, answer_to_timeout}
use Rattle.coap_exchange.specs.Sent.{SentValue, is_due}
use Rattle.coap_exchange.proofs.Firsts.{first_replaced, first_found, none_passes, replaced_none, found_none}
use Rattle.coap_exchange.proofs.Turning.{none_due, turn_there}
use Rattle.coap_exchange.proofs.sender.take_turn.Goals as goal

-- a message, where one is needed
abbrev any : SentValue
any = record { bytes = []; id = 0; given = 0; timeout = 0; repeats = 0 }

pub returns-in-Some-clause-turned : goal.returns-in-Some-clause-turned
returns-in-Some-clause-turned c =
    let found = ap (position (is_due c.args.now)) (sym c.as_slice.ensures.value) ∙ sym c.in-Some.ensures in
    let at = position-Some (is_due c.args.now) c.args.sent.now.items c.in-Some.place any found in
    c.turn_at.ensures.turned
    ∙ first_replaced (is_due c.args.now) after_timeout c.args.sent.now.items c.in-Some.place any at.0 at.1 at.2

pub returns-in-Some-clause-answer : goal.returns-in-Some-clause-answer
returns-in-Some-clause-answer c =
    let found = ap (position (is_due c.args.now)) (sym c.as_slice.ensures.value) ∙ sym c.in-Some.ensures in
    let at = position-Some (is_due c.args.now) c.args.sent.now.items c.in-Some.place any found in
    c.turn_at.ensures.answer
    ∙ ap (option_map answer_to_timeout) (sym (first_found (is_due c.args.now) c.args.sent.now.items c.in-Some.place any at.0 at.1 at.2))

pub returns-in-None-clause-turned : goal.returns-in-None-clause-turned
returns-in-None-clause-turned c =
    let none = ap (position (is_due c.args.now)) (sym c.as_slice.ensures.value) ∙ sym c.in-None.ensures in
    sym (replaced_none (is_due c.args.now) after_timeout c.args.sent.now.items (none_passes (is_due c.args.now) c.args.sent.now.items none))

pub returns-in-None-clause-answer : goal.returns-in-None-clause-answer
returns-in-None-clause-answer c =
    let none = ap (position (is_due c.args.now)) (sym c.as_slice.ensures.value) ∙ sym c.in-None.ensures in
    sym (ap (option_map answer_to_timeout) (found_none (is_due c.args.now) c.args.sent.now.items (none_passes (is_due c.args.now) c.args.sent.now.items none)))

pub returns-in-Some-clause-turn : goal.returns-in-Some-clause-turn
returns-in-Some-clause-turn c =
    let found = ap (position (is_due c.args.now)) (sym c.as_slice.ensures.value) ∙ sym c.in-Some.ensures in
    let at = position-Some (is_due c.args.now) c.args.sent.now.items c.in-Some.place any found in
    turn_there c.args.now c.args.sent.now.items c.in-Some.place any c.turn_at.result at.0 at.1 at.2 c.turn_at.ensures.turn

pub returns-in-None-clause-turn : goal.returns-in-None-clause-turn
returns-in-None-clause-turn c =
    let none = ap (position (is_due c.args.now)) (sym c.as_slice.ensures.value) ∙ sym c.in-None.ensures in
    none_due c.args.now c.args.sent.now.items (none_passes (is_due c.args.now) c.args.sent.now.items none)
