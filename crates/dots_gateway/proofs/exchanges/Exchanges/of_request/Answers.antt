use Rattle.std.proofs.Common.{ap, ◌∙◌}
use Rattle.std.specs.List.{find}
use Rattle.dots_gateway.specs.Exchanges.{ExchangesValue, is_from}
use Rattle.dots_gateway.proofs.Orders.{found_by_number, none_by_number}
use Rattle.dots_gateway.proofs.exchanges.Exchanges.of_request.Goals as goal

pub returns-in-Some : goal.returns-in-Some
returns-in-Some c =
    let t = is_from c.args.peer c.args.id in
    c.of_number.ensures
    ∙ found_by_number t c.self.inside.waiting.items _ c.self.invariant.sound.order (c.in-Some.ensures.value ∙ c.self.invariant.numbered (record { peer = c.args.peer; id = c.args.id }))
    ∙ ap (λ (e : ExchangesValue). find t e.waiting) c.self.view_is

pub returns-in-None : goal.returns-in-None
returns-in-None c =
    let t = is_from c.args.peer c.args.id in
    none_by_number t c.self.inside.waiting.items (c.in-None.ensures.value ∙ c.self.invariant.numbered (record { peer = c.args.peer; id = c.args.id }))
    ∙ ap (λ (e : ExchangesValue). find t e.waiting) c.self.view_is
