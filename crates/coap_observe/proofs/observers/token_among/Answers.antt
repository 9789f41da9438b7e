use Rattle.std.proofs.Common.{◌≡◌, ◌<◌, ◌∷◌, length, get_or, add-one, ap, sym, ◌∙◌, arith}
use Rattle.dots_history.specs.Entries.{option_any}
use Rattle.coap_observe.specs.Chains.{chain_at}
use Rattle.coap_observe.specs.Observed.{is_token}
use Rattle.coap_observe.specs.Rolls.{one_at}
use Rattle.coap_observe.proofs.Walking.{found_here, found_later, found_nowhere}
use Rattle.coap_observe.proofs.observers.token_among.Goals as goal

pub behind-key-requires : goal.behind-key-requires
behind-key-requires c = record { at = c.requires; there = omega (arith, c.loop-place-test.true, c.len-place-end.ensures); before = c.loop-place.invariant.key }

pub returns-then-is_token_at : goal.returns-then-is_token_at
returns-then-is_token_at c =
    let keys = (chain_at c.args.at c.args.chains.now.chains).keys in
    let less : c.loop-place.place < length keys = omega (arith, c.loop-place-test.true, c.len-place-end.ensures) in
    sym (found_here (λ key. option_any (is_token c.args.peer c.args.token.now) (one_at key c.args.roll.now.members)) keys c.loop-place.place c.behind-key.result less c.behind-key.ensures
    (sym c.is_token_at.ensures ∙ c.if-is_token_at.true))
    ∙ c.loop-place.invariant.rest

pub loop-place-preserved : goal.loop-place-preserved
loop-place-preserved c =
    let chain = chain_at c.args.at c.args.chains.now.chains in
    let less : c.loop-place.place < length chain.keys = omega (arith, c.loop-place-test.true, c.len-place-end.ensures) in
    record {
      rest =
          found_later (λ key. option_any (is_token c.args.peer c.args.token.now) (one_at key c.args.roll.now.members)) chain.keys c.loop-place.place c.behind-key.result less c.behind-key.ensures
          (sym c.is_token_at.ensures ∙ c.if-is_token_at.false)
          ∙ c.loop-place.invariant.rest;
      key = c.behind-key.ensures ∙ ap (λ k. get_or (chain.start ∷ chain.keys) k 0) (sym (add-one c.loop-place.place));
    }

pub returns : goal.returns
returns c =
    let keys = (chain_at c.args.at c.args.chains.now.chains).keys in
    let end : c.loop-place.place ≡ length keys = omega (arith, c.loop-place-test.false, c.loop-place.auto.place-end, c.len-place-end.ensures) in
    sym (found_nowhere (λ key. option_any (is_token c.args.peer c.args.token.now) (one_at key c.args.roll.now.members)) keys c.loop-place.place end)
    ∙ c.loop-place.invariant.rest
