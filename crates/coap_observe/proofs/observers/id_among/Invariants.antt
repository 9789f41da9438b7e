-- what is found is found among the rest, and the key at hand is the one before them
use Rattle.std.proofs.Common.{◌≡◌, ◌∷◌, drop, get_or}
use Rattle.std.specs.List.{find}
use Rattle.dots_history.specs.Entries.{option_any}
use Rattle.coap_observe.specs.Chains.{chain_at}
use Rattle.coap_observe.specs.Observed.{had_id}
use Rattle.coap_observe.specs.Rolls.{one_at}
use Rattle.coap_observe.proofs.observers.id_among.Given as goal

abbrev pub invariant-loop-place : goal.invariant-loop-place
invariant-loop-place l = record {
  rest : find (λ key. option_any (had_id l.peer l.id) (one_at key l.roll.members)) (drop l.place (chain_at l.at l.chains.chains).keys)
      ≡ find (λ key. option_any (had_id l.peer l.id) (one_at key l.roll.members)) (chain_at l.at l.chains.chains).keys;
  key : l.key ≡ get_or ((chain_at l.at l.chains.chains).start ∷ (chain_at l.at l.chains.chains).keys) l.place 0;
}
