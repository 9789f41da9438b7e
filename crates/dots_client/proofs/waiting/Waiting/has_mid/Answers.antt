use Rattle.std.proofs.Common.{ap, ◌∙◌}
use Rattle.std.specs.List.{list_any}
use Rattle.dots_client.specs.Client.{is_of, waits_for}
use Rattle.dots_client.specs.Waiting.{RequestsValue}
use Rattle.dots_client.proofs.Beside.{pairs_any}
use Rattle.dots_client.proofs.waiting.Waiting.has_mid.Goals as goal

pub returns : goal.returns
returns c =
    c.is_among.ensures
    ∙ ap (list_any (is_of c.args.mid)) c.as_slice.ensures.value
    ∙ pairs_any c.args.mid c.self.inside.requests.items c.self.inside.sender.sent c.self.invariant.0
    ∙ ap (λ (w : RequestsValue). list_any (waits_for c.args.mid) w.waiting) c.self.view_is
