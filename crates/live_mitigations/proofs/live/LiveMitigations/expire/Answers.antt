use Rattle.std.proofs.Common.{refl, sym, subst}
use Rattle.dots_history.specs.Views.{mitigations_at}
use Rattle.live_mitigations.specs.Rows.{aged}
use Rattle.live_mitigations.proofs.LiveValues.{changed_to, changed_here, within_tables, changed_own, changed_other, changed_comes, changed_fewer}
use Rattle.live_mitigations.specs.LiveValues.{SlotsCome}
use Rattle.live_mitigations.proofs.SlotsOfRows.{come_still}
use Rattle.live_mitigations.proofs.live.LiveMitigations.expire.Goals as goal

pub invariant_of-self : goal.invariant_of-self
invariant_of-self c = changed_here (aged c.args.now) c.args.domain _ c.expire.new.self c.expire.ensures (λ table. refl) c.self.invariant

pub returns-clause-own : goal.returns-clause-own
returns-clause-own c =
    changed_own (aged c.args.now) (mitigations_at c.args.now) c.args.domain c.args.self.now _
    (changed_to (aged c.args.now) c.args.domain _ c.args.self.now c.expire.new.self c.self.view_is c.expire.ensures)
    (within_tables c.args.domain _ c.args.self.now c.self.view_is c.self.invariant.number c.requires)
    (λ table. refl)

pub returns-clause-others : goal.returns-clause-others
returns-clause-others c =
    changed_other (aged c.args.now) c.args.domain c.args.self.now _
    (changed_to (aged c.args.now) c.args.domain _ c.args.self.now c.expire.new.self c.self.view_is c.expire.ensures)

pub returns-clause-comes : goal.returns-clause-comes
returns-clause-comes c = λ entries comes.
    changed_comes (aged c.args.now) c.args.now c.args.domain c.args.self.now _ entries
    (changed_to (aged c.args.now) c.args.domain _ c.args.self.now c.expire.new.self c.self.view_is c.expire.ensures)
    (within_tables c.args.domain _ c.args.self.now c.self.view_is c.self.invariant.number c.requires)
    (λ table. refl)
    (λ table. refl)
    comes

pub returns-clause-slots : goal.returns-clause-slots
returns-clause-slots c = λ filed comes.
    subst
    (λ tables. SlotsCome c.args.now tables filed)
    (sym (changed_to (aged c.args.now) c.args.domain _ c.args.self.now c.expire.new.self c.self.view_is c.expire.ensures).tables)
    (come_still c.args.now c.args.domain c.args.self.now.tables filed
    (within_tables c.args.domain _ c.args.self.now c.self.view_is c.self.invariant.number c.requires)
    comes)

pub returns-clause-fewer : goal.returns-clause-fewer
returns-clause-fewer c = λ due.
    changed_fewer (aged c.args.now) c.args.now c.args.domain c.args.self.now _
    (changed_to (aged c.args.now) c.args.domain _ c.args.self.now c.expire.new.self c.self.view_is c.expire.ensures)
    (within_tables c.args.domain _ c.args.self.now c.self.view_is c.self.invariant.number c.requires)
    (λ table. refl)
    due
