use Rattle.std.proofs.Common.{ap, ◌∙◌}
use Rattle.std.specs.List.{position}
use Rattle.dots_edge.specs.Returns.{has_token}
use Rattle.dots_edge.proofs.Places.{taken_found, taken_rest, missing_found, missing_rest}
use Rattle.dots_edge.proofs.getters.take_out.Goals as goal

pub returns-in-Some-clause-found : goal.returns-in-Some-clause-found
returns-in-Some-clause-found c = taken_found (has_token c.args.token.now) c.args.getters.now.items c.in-Some.place c.remove.result (c.in-Some.ensures ∙ ap (position (has_token c.args.token.now)) c.as_slice.ensures.value) c.remove.ensures.value

pub returns-in-Some-clause-rest : goal.returns-in-Some-clause-rest
returns-in-Some-clause-rest c = c.remove.ensures.items ∙ taken_rest (has_token c.args.token.now) c.args.getters.now.items c.in-Some.place (c.in-Some.ensures ∙ ap (position (has_token c.args.token.now)) c.as_slice.ensures.value)

pub returns-in-None-clause-found : goal.returns-in-None-clause-found
returns-in-None-clause-found c = missing_found (has_token c.args.token.now) c.args.getters.now.items (c.in-None.ensures ∙ ap (position (has_token c.args.token.now)) c.as_slice.ensures.value)

pub returns-in-None-clause-rest : goal.returns-in-None-clause-rest
returns-in-None-clause-rest c = missing_rest (has_token c.args.token.now) c.args.getters.now.items (c.in-None.ensures ∙ ap (position (has_token c.args.token.now)) c.as_slice.ensures.value)
