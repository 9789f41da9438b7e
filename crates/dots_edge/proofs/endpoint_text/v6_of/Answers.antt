use Rattle.std.proofs.Common.{subst}
use Rattle.ip_scope.specs.declared.family.Family.{Family}
use Rattle.ip_scope.specs.declared.family.Family.TheVariants.{V6}
use Rattle.ip_scope.specs.PrefixText.{IsAddressText}
use Rattle.dots_edge.proofs.EndpointLemmas.{not_v6}
use Rattle.dots_edge.proofs.endpoint_text.v6_of.Goals as goal

pub returns-in_default : goal.returns-in_default
returns-in_default c = λ number. c.in_default.ensures.none V6 number

pub returns-in-V4 : goal.returns-in-V4
returns-in-V4 c = not_v6 c.args.text.now c.in-Some.address.number (subst (λ (f : Family). IsAddressText c.args.text.now f c.in-Some.address.number) c.in-V4.is c.in-Some.ensures.found)
