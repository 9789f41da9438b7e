use Rattle.std.proofs.Common.{ap, sym, ◌∙◌}
use Rattle.std.specs.Prelude.{◌==◌}
use Rattle.std.specs.List.{find}
use Rattle.std.proofs.lemmas.Bool.{and_parts}
use Rattle.dots_history.specs.Entries.{option_any}
use Rattle.coap_observe.specs.Observed.{is_of}
use Rattle.coap_observe.specs.Rolls.{one_at}
use Rattle.coap_observe.proofs.Chaining.{chain_within, keys_placed, keys_nowhere}
use Rattle.coap_observe.proofs.Keying.{found_key}
use Rattle.coap_observe.proofs.observers.pair_key.Goals as goal

pub pair_among-requires : goal.pair_among-requires
pair_among-requires c = chain_within c.args.peer c.in-Some.at c.args.chains.now.chains (sym c.in-Some.ensures)

pub returns-in-Some : goal.returns-in-Some
returns-in-Some c =
    let test = is_of c.args.peer c.args.domain in
    let members = c.args.roll.now.members in
    c.pair_among.ensures
    ∙ ap (find (λ key. option_any test (one_at key members))) (keys_placed c.args.peer c.in-Some.at c.args.chains.now.chains (sym c.in-Some.ensures) ∙ c.requires.own c.args.peer)
    ∙ found_key c.args.peer test members c.requires.apart (λ x is. (and_parts (x.observer.peer == c.args.peer) (x.observer.domain == c.args.domain) is).0)

pub returns-in-None : goal.returns-in-None
returns-in-None c =
    let test = is_of c.args.peer c.args.domain in
    let members = c.args.roll.now.members in
    ap (find (λ key. option_any test (one_at key members))) (sym (keys_nowhere c.args.peer c.args.chains.now.chains (sym c.in-None.ensures)) ∙ c.requires.own c.args.peer)
    ∙ found_key c.args.peer test members c.requires.apart (λ x is. (and_parts (x.observer.peer == c.args.peer) (x.observer.domain == c.args.domain) is).0)
