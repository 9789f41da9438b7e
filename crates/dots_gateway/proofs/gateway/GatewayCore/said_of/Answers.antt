use Rattle.std.proofs.Common.{refl, subst}
use Rattle.dots_gateway.specs.Gateway.{GatewayValue, beating, answering}
use Rattle.dots_gateway.specs.Steps.{YieldsOf}
use Rattle.dots_gateway.proofs.Steps.{yields_then}
use Rattle.dots_gateway.proofs.gateway.GatewayCore.said_of.Goals as goal

pub returns-then-is_beat : goal.returns-then-is_beat
returns-then-is_beat c =
    subst (λ (g : GatewayValue). YieldsOf g c.args.bytes.now c.beat.result) c.self.view_is
    (yields_then _ c.args.bytes.now _ c.beat.result (beating c.in-Ok.message c.in-Ok.ensures.found.0 c.in-Ok.ensures.found.1 (c.if-is_beat.ensures.yes refl) refl) c.beat.ensures)

pub returns : goal.returns
returns c =
    subst (λ (g : GatewayValue). YieldsOf g c.args.bytes.now c.response.result) c.self.view_is
    (yields_then _ c.args.bytes.now _ c.response.result (answering c.in-Ok.message c.in-Ok.ensures.found.0 c.in-Ok.ensures.found.1 (c.if-is_beat.ensures.no refl) refl) c.response.ensures)
