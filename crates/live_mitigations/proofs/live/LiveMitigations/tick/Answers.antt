use Rattle.live_mitigations.proofs.LiveValues.{represents_now}
use Rattle.std.proofs.Common.{sym, subst}
use Rattle.live_mitigations.specs.LiveValues.{LiveValue, SlotsAre}
use Rattle.live_mitigations.proofs.SlotsOfRows.{are_now}
use Rattle.live_mitigations.proofs.live.LiveMitigations.tick.Goals as goal

pub returns-clause-represents : goal.returns-clause-represents
returns-clause-represents c = λ entries comes.
    represents_now c.args.now _ c.expire_all.new.self entries c.self.view_is c.expire_all.ensures.none (c.expire_all.ensures.comes entries comes)

pub returns-clause-slots : goal.returns-clause-slots
returns-clause-slots c = λ filed comes.
    subst
    (λ (v : LiveValue). SlotsAre c.args.now v.tables filed)
    (sym c.self.view_is)
    (are_now c.args.now c.expire_all.new.self.tables filed c.expire_all.ensures.none (c.expire_all.ensures.slots filed comes))
