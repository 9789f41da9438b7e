use Rattle.std.proofs.Common.{ap, sym, ◌∙◌}
use Rattle.std.specs.Prelude.{◌==◌}
use Rattle.dots_history.specs.Entries.{option_any}
use Rattle.coap_exchange.proofs.Firsts.{found_none}
use Rattle.coap_observe.specs.Observed.{ObservedValue, is_token}
use Rattle.coap_observe.specs.Rolls.{observed_of, first_key}
use Rattle.coap_observe.proofs.Keying.{first_own, none_first}
use Rattle.coap_observe.proofs.observers.is_at_home.Goals as goal

pub returns-in-Some : goal.returns-in-Some
returns-in-Some c =
    let observer = c.args.observer.now in
    let members = c.args.roll.now.members in
    let found = ap (λ token. first_key (is_token observer.peer token) members) (sym c.bytes.ensures.value) ∙ sym c.in-Some.ensures in
    c.is_domain_at.ensures
    ∙ ap (option_any (λ (o : ObservedValue). o.observer.domain == observer.domain)) (first_own (is_token observer.peer observer.token) members c.in-Some.key c.requires.apart found)

pub returns-in-None : goal.returns-in-None
returns-in-None c =
    let observer = c.args.observer.now in
    let members = c.args.roll.now.members in
    let test = is_token observer.peer observer.token in
    let found = ap (λ token. first_key (is_token observer.peer token) members) (sym c.bytes.ensures.value) ∙ sym c.in-None.ensures in
    sym (ap (option_any (λ (o : ObservedValue). o.observer.domain == observer.domain)) (found_none test (observed_of members) (none_first test members found)))
