-- those counted and those of the rest are all, and the key at hand is the one before the rest
use Rattle.std.proofs.Common.{◌≡◌, ◌+◌, ◌≤◌, ◌∷◌, drop, get_or}
use Rattle.dots_history.specs.Entries.{option_any}
use Rattle.dots_history.specs.Histories.{tally}
use Rattle.coap_observe.specs.Chains.{chain_at}
use Rattle.coap_observe.specs.Observed.{is_of}
use Rattle.coap_observe.specs.Rolls.{one_at}
use Rattle.coap_observe.proofs.observers.count_among.Given as goal

abbrev pub invariant-loop-place : goal.invariant-loop-place
invariant-loop-place l = record {
  few : l.count ≤ l.place;
  rest : l.count + tally (λ key. option_any (is_of l.peer l.domain) (one_at key l.roll.members)) (drop l.place (chain_at l.at l.chains.chains).keys)
      ≡ tally (λ key. option_any (is_of l.peer l.domain) (one_at key l.roll.members)) (chain_at l.at l.chains.chains).keys;
  key : l.key ≡ get_or ((chain_at l.at l.chains.chains).start ∷ (chain_at l.at l.chains.chains).keys) l.place 0;
}
