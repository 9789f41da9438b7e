use Rattle.std.proofs.Common.{List, refl, sym, ap, subst, ◌∙◌}
use Rattle.coap_message.specs.Salvage.{salvaged}
use Rattle.dots_keys.specs.Exchanges.{dismissed_unread}
use Rattle.dots_gateway.specs.declared.routes.Route.{Route}
use Rattle.dots_gateway.specs.Exchanges.{ExchangesValue}
use Rattle.dots_gateway.specs.Gateway.{GatewayValue, Ups, UpOrLacks, gateway_at, dismissed_said, unreadable, asking, asked_said}
use Rattle.dots_gateway.specs.Routes.{domain_for}
use Rattle.dots_gateway.proofs.Steps.{up_then, old_leaves, err_ok}
use Rattle.dots_gateway.proofs.gateway.GatewayCore.up.Goals as goal

pub returns-in_default-decode : goal.returns-in_default-decode
returns-in_default-decode c =
    let g : GatewayValue = record { routes = c.self.inside.routes.items; upstream = c.self.inside.upstream; exchanges = c.pass_time.new.self } in
    let domain = ap (λ (rs : List Route). domain_for rs c.self.inside.upstream c.args.from) (sym c.deref.ensures.value) ∙ sym c.in-Some.ensures in
    let ups : Ups g c.args.from c.args.bytes.now (dismissed_said c.args.from (dismissed_unread (salvaged c.args.bytes.now))) = unreadable c.in-Some.domain.now domain (λ m is spelled. err_ok (c.in_default-decode.ensures.only m is spelled)) refl in
    let new : GatewayValue = record { routes = c.self.inside.routes.items; upstream = c.self.inside.upstream; exchanges = c.pass_time.new.self } in
    subst (λ (g : GatewayValue). UpOrLacks (gateway_at c.args.now g) c.args.from c.args.bytes.now c.unread.result new) c.self.view_is
    (subst (λ (e : ExchangesValue). UpOrLacks (record { routes = c.self.inside.routes.items; upstream = c.self.inside.upstream; exchanges = e }) c.args.from c.args.bytes.now c.unread.result new)
    c.pass_time.ensures
    (up_then g c.args.from c.args.bytes.now _ c.unread.result c.pass_time.new.self ups c.unread.ensures.gives (old_leaves g.exchanges c.args.bytes.now c.unread.result c.unread.ensures.old)))

pub returns : goal.returns
returns c =
    let g : GatewayValue = record { routes = c.self.inside.routes.items; upstream = c.self.inside.upstream; exchanges = c.pass_time.new.self } in
    let domain = ap (λ (rs : List Route). domain_for rs c.self.inside.upstream c.args.from) (sym c.deref.ensures.value) ∙ sym c.in-Some.ensures in
    let ups : Ups g c.args.from c.args.bytes.now (asked_said g.exchanges c.args.from c.in-Some.domain.now c.args.bytes.now c.in-Ok.message) = asking c.in-Some.domain.now c.in-Ok.message domain c.in-Ok.ensures.found.0 c.in-Ok.ensures.found.1 refl in
    let new : GatewayValue = record { routes = c.self.inside.routes.items; upstream = c.self.inside.upstream; exchanges = c.ask.new.exchanges } in
    subst (λ (g : GatewayValue). UpOrLacks (gateway_at c.args.now g) c.args.from c.args.bytes.now c.ask.result new) c.self.view_is
    (subst (λ (e : ExchangesValue). UpOrLacks (record { routes = c.self.inside.routes.items; upstream = c.self.inside.upstream; exchanges = e }) c.args.from c.args.bytes.now c.ask.result new)
    c.pass_time.ensures
    (up_then g c.args.from c.args.bytes.now _ c.ask.result c.ask.new.exchanges ups c.ask.ensures.gives c.ask.ensures.leaves))
