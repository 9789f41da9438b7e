use Rattle.std.proofs.Common.{subst}
use Rattle.ip_scope.specs.declared.family.Family.{Family}
use Rattle.ip_scope.specs.declared.family.Family.TheVariants.{V4}
use Rattle.ip_scope.specs.PrefixText.{IsAddressText}
use Rattle.dots_edge.proofs.EndpointLemmas.{not_v4}
use Rattle.dots_edge.proofs.endpoint_text.v4_of.Goals as goal

pub returns-in_default : goal.returns-in_default
returns-in_default c = λ number. c.in_default.ensures.none V4 number

pub returns-in-V6 : goal.returns-in-V6
returns-in-V6 c = not_v4 c.args.text.now c.in-Some.address.number (subst (λ (f : Family). IsAddressText c.args.text.now f c.in-Some.address.number) c.in-V6.is c.in-Some.ensures.found)
