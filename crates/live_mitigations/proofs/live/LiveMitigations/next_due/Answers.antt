use Rattle.live_mitigations.proofs.LiveValues.{none_is_due, some_is_due}
use Rattle.live_mitigations.proofs.live.LiveMitigations.next_due.Goals as goal

pub returns-clause-none : goal.returns-clause-none
returns-clause-none c = none_is_due c.args.now _ c.args.self.now c.next_due.result c.requires c.self.view_is c.next_due.ensures.none

pub returns-clause-some : goal.returns-clause-some
returns-clause-some c = some_is_due c.args.now _ c.args.self.now c.next_due.result c.requires c.self.view_is c.self.invariant.number c.next_due.ensures.some
