use Rattle.std.proofs.Common.{sym, refl, ◌∙◌}
use Rattle.std.proofs.lemmas.Bool.{true≢false}
use Rattle.gateway_command.proofs.Completeness.{outcome_by, other_words, not_hosted, no_two}
use Rattle.gateway_command.proofs.command.run_gateway_command.Goals as goal

-- ---- other words

pub returns-then-not-is_gateway-clause-outcome : goal.returns-then-not-is_gateway-clause-outcome
returns-then-not-is_gateway-clause-outcome g c = other_words _ _ _ (sym c.is_gateway.ensures ∙ c.if-not-is_gateway.true) refl

pub returns-then-not-is_gateway-clause-machine : goal.returns-then-not-is_gateway-clause-machine
returns-then-not-is_gateway-clause-machine g c = λ asks. absurd (true≢false (sym asks ∙ (sym c.is_gateway.ensures ∙ c.if-not-is_gateway.true)))

-- ---- a gateway

pub returns-clause-machine : goal.returns-clause-machine
returns-clause-machine g c =
    λ asks. record { ending = c.gateway_over.result; status_is = c.status.ensures; behaves = c.gateway_over.ensures.machine; idle = c.gateway_over.ensures.uncalled }

pub returns-clause-outcome : goal.returns-clause-outcome
returns-clause-outcome g c =
    rw c.status.ensures (outcome_by _ _ _ c.gateway_over.result (sym c.is_gateway.ensures ∙ c.if-not-is_gateway.false) c.gateway_over.ensures.heard c.gateway_over.ensures.machine)

pub returns-clause-refusal : goal.returns-clause-refusal
returns-clause-refusal g c = λ is. absurd (no_two c.gateway_over.result (rw c.status.ensures at is))

pub returns-clause-unread : goal.returns-clause-unread
returns-clause-unread g c = λ is. absurd (no_two c.gateway_over.result (rw c.status.ensures at is))

pub returns-clause-uncalled : goal.returns-clause-uncalled
returns-clause-uncalled g c = λ low high. c.gateway_over.ensures.uncalled (not_hosted c.gateway_over.result (rw c.status.ensures at low) (rw c.status.ensures at high))
