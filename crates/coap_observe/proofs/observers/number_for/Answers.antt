use Rattle.std.proofs.Common.{ap, sym, ◌∙◌}
use Rattle.std.specs.Prelude.{option_map, unwrap_or}
use Rattle.coap_exchange.proofs.Firsts.{found_none}
use Rattle.coap_observe.specs.Observed.{ObservedValue, is_token}
use Rattle.coap_observe.specs.Rolls.{observed_of, first_key}
use Rattle.coap_observe.proofs.Keying.{first_own, none_first}
use Rattle.coap_observe.proofs.observers.number_for.Goals as goal

pub returns-in-Some : goal.returns-in-Some
returns-in-Some c =
    let observer = c.args.observer.now in
    let members = c.args.roll.now.members in
    let found = ap (λ token. first_key (is_token observer.peer token) members) (sym c.bytes.ensures.value) ∙ sym c.in-Some.ensures in
    c.number_at.ensures
    ∙ ap (λ one. unwrap_or (option_map (λ (o : ObservedValue). o.number) one) 1) (first_own (is_token observer.peer observer.token) members c.in-Some.key c.requires.apart found)

pub returns-in-None : goal.returns-in-None
returns-in-None c =
    let observer = c.args.observer.now in
    let members = c.args.roll.now.members in
    let test = is_token observer.peer observer.token in
    let found = ap (λ token. first_key (is_token observer.peer token) members) (sym c.bytes.ensures.value) ∙ sym c.in-None.ensures in
    sym (ap (λ one. unwrap_or (option_map (λ (o : ObservedValue). o.number) one) 1) (found_none test (observed_of members) (none_first test members found)))
