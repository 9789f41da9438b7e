use Rattle.std.proofs.Common.{◌<◌, length, ap, sym, ◌∙◌, arith}
use Rattle.std.specs.List.{list_any}
use Rattle.coap_observe.specs.DueAmong.{includes_one}
use Rattle.coap_observe.specs.Rolls.{observed_of}
use Rattle.coap_observe.proofs.Including.{none_of_nobody, some_of_anybody}
use Rattle.coap_observe.proofs.Keying.{length_observed}
use Rattle.coap_observe.proofs.observers.has_any_among.Goals as goal

pub returns-in-Nobody : goal.returns-in-Nobody
returns-in-Nobody c =
    let observed = observed_of c.args.roll.now.members in
    sym (ap (λ among. list_any (includes_one among) observed) c.in-Nobody.is ∙ none_of_nobody observed)

pub returns-in-Anybody : goal.returns-in-Anybody
returns-in-Anybody c =
    let members = c.args.roll.now.members in
    let long = length_observed members in
    let some : 0 < length (observed_of members) = omega (arith, long, c.len.ensures, c.if-len-eq0.false) in
    sym (ap (λ among. list_any (includes_one among) (observed_of members)) c.in-Anybody.is ∙ some_of_anybody (observed_of members) some)
