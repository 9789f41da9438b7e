use Rattle.std.proofs.Common.{subst}
use Rattle.dots_gateway.specs.Exchanges.{ExchangesValue, AreApart}
use Rattle.dots_gateway.proofs.Orders.{apart}
use Rattle.dots_gateway.proofs.exchanges.Exchanges.count.Goals as goal

pub returns-clause-apart : goal.returns-clause-apart
returns-clause-apart c = subst (λ (e : ExchangesValue). AreApart e.waiting) c.self.view_is (apart c.self.inside.waiting.items c.self.invariant.sound.order)
