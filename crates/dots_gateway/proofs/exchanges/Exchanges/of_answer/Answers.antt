use Rattle.std.proofs.Common.{sym, ap, ◌∙◌, arith}
use Rattle.std.specs.List.{find}
use Rattle.dots_gateway.specs.Exchanges.{ExchangesValue, is_passed}
use Rattle.dots_gateway.proofs.Numbers.{no_token, no_id, of_its_number}
use Rattle.dots_gateway.proofs.Orders.{all_small}
use Rattle.dots_gateway.proofs.exchanges.Exchanges.of_answer.Goals as goal

pub returns-then-number-from : goal.returns-then-number-from
returns-then-number-from c =
    sym (no_id c.args.token.now c.args.id _ c.self.inside.waiting.items c.in-Some.ensures.1 (λ is. c.if-number-from.true (is ∙ sym c.from.ensures)) (all_small _ c.self.invariant.sound))
    ∙ ap (λ (e : ExchangesValue). find (is_passed c.args.token.now c.args.id) e.waiting) c.self.view_is

pub returns : goal.returns
returns c =
    c.of_number-found.ensures
    ∙ of_its_number c.args.token.now c.args.id _ c.self.inside.waiting.items c.in-Some.ensures.0 (λ i. omega (arith, c.type_inv.token i)) c.in-Some.ensures.1 (c.if-number-from.false ∙ c.from.ensures)
    (all_small _ c.self.invariant.sound)
    ∙ ap (λ (e : ExchangesValue). find (is_passed c.args.token.now c.args.id) e.waiting) c.self.view_is

pub returns-in_default : goal.returns-in_default
returns-in_default c = sym (no_token c.args.token.now c.args.id c.args.self.now.waiting c.in_default.ensures)
