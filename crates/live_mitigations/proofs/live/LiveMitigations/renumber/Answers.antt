use Rattle.live_mitigations.proofs.SlotsOfRows.{are_moved}
use Rattle.live_mitigations.proofs.live.LiveMitigations.renumber.Goals as goal

pub invariant_of-self : goal.invariant_of-self
invariant_of-self c = are_moved c.args.keep.now _ c.renumber.new.self c.renumber.ensures c.self.invariant
