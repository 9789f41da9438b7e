use Rattle.std.proofs.Common.{length, sym, ap, ◌∙◌}
use Rattle.std.specs.Prelude.{nat_lt}
use Rattle.dots_client.specs.Waiting.{RequestsValue}
use Rattle.dots_client.proofs.Beside.{pairs_length}
use Rattle.dots_client.proofs.waiting.Waiting.has_room.Goals as goal

pub returns : goal.returns
returns c =
    c.has_room.ensures
    ∙ ap (λ n. nat_lt n c.self.inside.sender.room) (sym (pairs_length c.self.inside.requests.items c.self.inside.sender.sent c.self.invariant.0))
    ∙ ap (λ (w : RequestsValue). nat_lt (length w.waiting) w.room) c.self.view_is
