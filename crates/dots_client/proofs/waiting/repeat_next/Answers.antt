use Rattle.std.proofs.Common.{◌∙◌, length, Some, sym, ap, subst, arith}
use Rattle.std.specs.List.{remove}
use Rattle.dots_client.specs.Waiting.{pairs}
use Rattle.dots_client.specs.Client.{repeat_answer, repeat_after}
use Rattle.coap_exchange.specs.Resending.{SenderValue, IsTurnIn}
use Rattle.dots_client.proofs.Pairs.{none_turned, none_answer, none_after, bytes_at, again_length, again_within, again_answer, again_after, up_within, up_length, removed_length, up_answer, up_after}
use Rattle.dots_client.proofs.waiting.repeat_next.Goals as goal

pub returns-in-Again-clause-beside : goal.returns-in-Again-clause-beside
returns-in-Again-clause-beside c =
    let first = subst (IsTurnIn c.args.now c.loop-turn.sender.sent) (c.in-Some.is ∙ ap Some c.in-Again.is) c.turn.ensures.answer in
    let sent = ap (λ (s : SenderValue). s.sent) c.turn.ensures.turned in
    c.loop-turn.invariant.beside ∙ sym (ap length sent ∙ again_length c.args.now c.loop-turn.sender.sent c.in-Again.place first)

pub returns-in-Again-clause-after : goal.returns-in-Again-clause-after
returns-in-Again-clause-after c =
    let first = subst (IsTurnIn c.args.now c.loop-turn.sender.sent) (c.in-Some.is ∙ ap Some c.in-Again.is) c.turn.ensures.answer in
    let sent = ap (λ (s : SenderValue). s.sent) c.turn.ensures.turned in
    ap (pairs c.loop-turn.requests.items) sent
    ∙ again_after c.args.now c.loop-turn.requests.items c.loop-turn.sender.sent c.in-Again.place c.loop-turn.invariant.beside first
    ∙ c.loop-turn.invariant.after

pub returns-in-Again-clause-answer : goal.returns-in-Again-clause-answer
returns-in-Again-clause-answer c =
    let first = subst (IsTurnIn c.args.now c.loop-turn.sender.sent) (c.in-Some.is ∙ ap Some c.in-Again.is) c.turn.ensures.answer in
    let sent = ap (λ (s : SenderValue). s.sent) c.turn.ensures.turned in
    ap (λ ss. Some (bytes_at c.in-Again.place ss)) sent
    ∙ again_answer c.args.now c.loop-turn.requests.items c.loop-turn.sender.sent c.in-Again.place c.loop-turn.invariant.beside first
    ∙ c.loop-turn.invariant.answer

pub returns-in-Again-clause-within : goal.returns-in-Again-clause-within
returns-in-Again-clause-within c =
    let first = subst (IsTurnIn c.args.now c.loop-turn.sender.sent) (c.in-Some.is ∙ ap Some c.in-Again.is) c.turn.ensures.answer in
    let size = ap length (ap (λ (s : SenderValue). s.sent) c.turn.ensures.turned) ∙ again_length c.args.now c.loop-turn.sender.sent c.in-Again.place first in
    let below = again_within c.args.now c.loop-turn.sender.sent c.in-Again.place first in
    omega (arith, size, below)

pub give_up-requires : goal.give_up-requires
give_up-requires c =
    let both = subst (IsTurnIn c.args.now c.loop-turn.sender.sent) (c.in-Some.is ∙ ap Some c.in-GaveUp.is) c.turn.ensures.answer in
    let first = both.0 in
    let below = up_within c.args.now c.loop-turn.sender.sent c.in-GaveUp.place first in
    let same = c.loop-turn.invariant.beside in
    omega (arith, below, same)

pub loop-turn-smaller : goal.loop-turn-smaller
loop-turn-smaller c =
    let both = subst (IsTurnIn c.args.now c.loop-turn.sender.sent) (c.in-Some.is ∙ ap Some c.in-GaveUp.is) c.turn.ensures.answer in
    let first = both.0 in
    let size = ap length (ap (λ (s : SenderValue). s.sent) c.turn.ensures.turned) in
    let less = up_length c.args.now c.loop-turn.sender.sent c.in-GaveUp.place first in
    omega (arith, size, less)

pub loop-turn-preserved : goal.loop-turn-preserved
loop-turn-preserved c =
    let both = subst (IsTurnIn c.args.now c.loop-turn.sender.sent) (c.in-Some.is ∙ ap Some c.in-GaveUp.is) c.turn.ensures.answer in
    let first = both.0 in
    let sent = ap (λ (s : SenderValue). s.sent) c.turn.ensures.turned in
    let size = ap length sent in
    let less = up_length c.args.now c.loop-turn.sender.sent c.in-GaveUp.place first in
    let below = up_within c.args.now c.loop-turn.sender.sent c.in-GaveUp.place first in
    let same = c.loop-turn.invariant.beside in
    let fewer = removed_length c.loop-turn.requests.items c.in-GaveUp.place (omega (arith, below, same)) in
    let left = ap length c.give_up.ensures.items in
    record {
      beside = omega (arith, size, less, same, fewer, left);
      after = ap (λ rs. repeat_after c.args.now (pairs rs c.turn.new.self.sent)) c.give_up.ensures.items
          ∙ ap (λ ss. repeat_after c.args.now (pairs (remove c.loop-turn.requests.items c.in-GaveUp.place) ss)) sent
          ∙ up_after c.args.now c.loop-turn.requests.items c.loop-turn.sender.sent c.in-GaveUp.place same first
          ∙ c.loop-turn.invariant.after;
      answer = ap (λ rs. repeat_answer c.args.now (pairs rs c.turn.new.self.sent)) c.give_up.ensures.items
          ∙ ap (λ ss. repeat_answer c.args.now (pairs (remove c.loop-turn.requests.items c.in-GaveUp.place) ss)) sent
          ∙ up_answer c.args.now c.loop-turn.requests.items c.loop-turn.sender.sent c.in-GaveUp.place same first
          ∙ c.loop-turn.invariant.answer;
      capacity = c.give_up.ensures.capacity ∙ c.loop-turn.invariant.capacity;
      room = ap (λ (s : SenderValue). s.room) c.turn.ensures.turned ∙ c.loop-turn.invariant.room;
    }

pub returns-clause-beside : goal.returns-clause-beside
returns-clause-beside c =
    let none = subst (IsTurnIn c.args.now c.loop-turn.sender.sent) c.in_default.is c.turn.ensures.answer in
    c.loop-turn.invariant.beside ∙ sym (ap length (ap (λ (s : SenderValue). s.sent) c.turn.ensures.turned ∙ none_turned c.args.now c.loop-turn.sender.sent none))

pub returns-clause-after : goal.returns-clause-after
returns-clause-after c =
    let none = subst (IsTurnIn c.args.now c.loop-turn.sender.sent) c.in_default.is c.turn.ensures.answer in
    ap (pairs c.loop-turn.requests.items) (ap (λ (s : SenderValue). s.sent) c.turn.ensures.turned ∙ none_turned c.args.now c.loop-turn.sender.sent none)
    ∙ none_after c.args.now c.loop-turn.requests.items c.loop-turn.sender.sent none
    ∙ c.loop-turn.invariant.after

pub returns-clause-answer : goal.returns-clause-answer
returns-clause-answer c =
    let none = subst (IsTurnIn c.args.now c.loop-turn.sender.sent) c.in_default.is c.turn.ensures.answer in
    none_answer c.args.now c.loop-turn.requests.items c.loop-turn.sender.sent none ∙ c.loop-turn.invariant.answer
