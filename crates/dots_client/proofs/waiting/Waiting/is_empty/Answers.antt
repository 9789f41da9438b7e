use Rattle.std.proofs.Common.{length, ap, ◌∙◌}
use Rattle.std.specs.Prelude.{◌==◌}
use Rattle.dots_client.specs.Client.{is_empty}
use Rattle.dots_client.specs.Waiting.{RequestsValue}
use Rattle.dots_client.proofs.Beside.{pairs_empty}
use Rattle.dots_client.proofs.waiting.Waiting.is_empty.Goals as goal

pub returns : goal.returns
returns c =
    c.is_empty.ensures
    ∙ ap (λ rs. length rs == 0) c.as_slice.ensures.value
    ∙ pairs_empty c.self.inside.requests.items c.self.inside.sender.sent c.self.invariant.0
    ∙ ap (λ (w : RequestsValue). is_empty w.waiting) c.self.view_is
