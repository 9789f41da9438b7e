use Rattle.std.proofs.Common.{◌∙◌, [], ◌∷◌, length, true, None, sym, ap, arith}
use Rattle.std.specs.Prelude.{option_map}
use Rattle.std.specs.List.{list_any, find}
use Rattle.std.proofs.lemmas.Bool.{cond-true, cond-false}
use Rattle.std.proofs.lemmas.List.Quantifiers.{position-Some}
use Rattle.dots_client.specs.declared.request.Request.{Request}
use Rattle.coap_exchange.specs.Firsts.{replace_first}
use Rattle.dots_client.specs.Waiting.{pairs}
use Rattle.dots_client.specs.Client.{is_new, is_unsent, handed, handed_out, bytes_of, repeat_answer, repeat_after}
use Rattle.coap_exchange.proofs.Firsts.{none_passes, replaced_none}
use Rattle.dots_client.proofs.Pairs.{none_new, some_new}
use Rattle.dots_client.proofs.waiting.next_place.Goals as goal

-- a request, where one is needed
abbrev any : Request
any = record { number = 0; mid = 0; scope = None; handed = true }

pub repeat_next-requires : goal.repeat_next-requires
repeat_next-requires c =
    let none = none_passes is_new c.args.requests.now.items (sym c.hand_out.ensures.place ∙ c.in-None.is) in
    record { beside = ap length (c.hand_out.ensures.handed ∙ replaced_none is_new (λ r. handed r ∷ []) c.args.requests.now.items none) ∙ c.requires.beside }

pub returns-in-Some-clause-beside : goal.returns-in-Some-clause-beside
returns-in-Some-clause-beside c =
    let at = position-Some is_new c.args.requests.now.items c.in-Some.place any (sym c.hand_out.ensures.place ∙ c.in-Some.is) in
    let new = some_new c.args.requests.now.items c.args.sender.now.sent c.in-Some.place any c.requires.beside at.0 at.1 at.2 in
    ap length c.hand_out.ensures.handed ∙ new.3 ∙ c.requires.beside

pub returns-in-Some-clause-after : goal.returns-in-Some-clause-after
returns-in-Some-clause-after c =
    let at = position-Some is_new c.args.requests.now.items c.in-Some.place any (sym c.hand_out.ensures.place ∙ c.in-Some.is) in
    let new = some_new c.args.requests.now.items c.args.sender.now.sent c.in-Some.place any c.requires.beside at.0 at.1 at.2 in
    let all = pairs c.args.requests.now.items c.args.sender.now.sent in
    ap (λ rs. pairs rs c.args.sender.now.sent) c.hand_out.ensures.handed ∙ new.2
    ∙ sym (cond-true (list_any is_unsent all) (replace_first is_unsent handed_out all) (repeat_after c.args.now all) new.0)

pub returns-in-Some-clause-answer : goal.returns-in-Some-clause-answer
returns-in-Some-clause-answer c =
    let at = position-Some is_new c.args.requests.now.items c.in-Some.place any (sym c.hand_out.ensures.place ∙ c.in-Some.is) in
    let new = some_new c.args.requests.now.items c.args.sender.now.sent c.in-Some.place any c.requires.beside at.0 at.1 at.2 in
    let all = pairs c.args.requests.now.items c.args.sender.now.sent in
    new.1 ∙ sym (cond-true (list_any is_unsent all) (option_map bytes_of (find is_unsent all)) (repeat_answer c.args.now all) new.0)

pub returns-in-Some-clause-within : goal.returns-in-Some-clause-within
returns-in-Some-clause-within c =
    let at = position-Some is_new c.args.requests.now.items c.in-Some.place any (sym c.hand_out.ensures.place ∙ c.in-Some.is) in
    let below = at.0 in
    let same = c.requires.beside in
    omega (arith, below, same)

pub returns-in-None-clause-after : goal.returns-in-None-clause-after
returns-in-None-clause-after c =
    let none = none_passes is_new c.args.requests.now.items (sym c.hand_out.ensures.place ∙ c.in-None.is) in
    let all = pairs c.args.requests.now.items c.args.sender.now.sent in
    let same = c.hand_out.ensures.handed ∙ replaced_none is_new (λ r. handed r ∷ []) c.args.requests.now.items none in
    c.repeat_next.ensures.after ∙ ap (λ rs. repeat_after c.args.now (pairs rs c.args.sender.now.sent)) same
    ∙ sym (cond-false (list_any is_unsent all) (replace_first is_unsent handed_out all) (repeat_after c.args.now all) (none_new c.args.requests.now.items c.args.sender.now.sent none))

pub returns-in-None-clause-answer : goal.returns-in-None-clause-answer
returns-in-None-clause-answer c =
    let none = none_passes is_new c.args.requests.now.items (sym c.hand_out.ensures.place ∙ c.in-None.is) in
    let all = pairs c.args.requests.now.items c.args.sender.now.sent in
    let same = c.hand_out.ensures.handed ∙ replaced_none is_new (λ r. handed r ∷ []) c.args.requests.now.items none in
    c.repeat_next.ensures.answer ∙ ap (λ rs. repeat_answer c.args.now (pairs rs c.args.sender.now.sent)) same
    ∙ sym (cond-false (list_any is_unsent all) (option_map bytes_of (find is_unsent all)) (repeat_answer c.args.now all) (none_new c.args.requests.now.items c.args.sender.now.sent none))
