use Rattle.std.proofs.Common.{ap, ◌∙◌}
use Rattle.std.specs.Prelude.{position}
use Rattle.dots_client.specs.Receiving.{has_token, waits_by}
use Rattle.dots_client.specs.Waiting.{RequestsValue}
use Rattle.dots_client.proofs.Beside.{pairs_place}
use Rattle.dots_client.proofs.waiting.Waiting.place.Goals as goal

pub returns : goal.returns
returns c =
    c.place_of.ensures
    ∙ ap (position (has_token c.args.token.now)) c.as_slice.ensures.value
    ∙ pairs_place c.args.token.now c.self.inside.requests.items c.self.inside.sender.sent c.self.invariant.0
    ∙ ap (λ (w : RequestsValue). position (waits_by c.args.token.now) w.waiting) c.self.view_is
