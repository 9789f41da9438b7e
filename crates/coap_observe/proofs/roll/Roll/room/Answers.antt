use Rattle.std.proofs.Common.{ap, sym, ◌∙◌}
use Rattle.coap_observe.specs.Rolls.{RollValue}
use Rattle.coap_observe.proofs.roll.Roll.room.Goals as goal

pub returns : goal.returns
returns c = c.capacity.ensures.value ∙ sym c.self.invariant.room ∙ ap (λ (r : RollValue). r.room) c.self.view_is
