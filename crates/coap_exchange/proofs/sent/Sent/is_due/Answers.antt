use Rattle.std.proofs.Common.{◌≡◌, ◌+◌, ap, ◌∙◌}
use Rattle.std.specs.Prelude.{nat_le}
use Rattle.coap_exchange.specs.Sent.{is_due}
use Rattle.coap_exchange.proofs.Times.{due_test}
use Rattle.coap_exchange.proofs.sent.Sent.is_due.Goals as goal

pub returns : goal.returns
returns c =
    ap (nat_le c.passed_after.result) c.saturating_sub.ensures
    ∙ due_test c.self.inside.given c.passed_after.result c.args.now c.passed_after.ensures.some
    ∙ ap (λ passed. nat_le (c.self.inside.given + passed) c.args.now) c.passed_after.ensures.value
    ∙ ap (is_due c.args.now) c.self.view_is
