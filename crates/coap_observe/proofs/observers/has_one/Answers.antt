use Rattle.std.proofs.Common.{ap, sym, ◌∙◌}
use Rattle.std.specs.Prelude.{is_some, ◌&&◌}
use Rattle.std.specs.List.{list_any}
use Rattle.std.proofs.lemmas.Bool.{eq-eqb}
use Rattle.coap_observe.specs.Observed.{is_of}
use Rattle.coap_observe.specs.Rolls.{observed_of}
use Rattle.coap_observe.proofs.Including.{some_first}
use Rattle.coap_observe.proofs.observers.has_one.Goals as goal

pub returns-then-pair-domain : goal.returns-then-pair-domain
returns-then-pair-domain c =
    let test = is_of c.args.pair.peer c.args.domain in
    let members = c.args.roll.now.members in
    c.is_some.ensures
    ∙ ap is_some c.pair_key.ensures
    ∙ some_first test members
    ∙ ap (λ b. b && list_any test (observed_of members)) (sym (eq-eqb c.args.pair.domain c.args.domain c.if-pair-domain.true))
