use Rattle.std.proofs.Common.{refl, ap, arith}
use Rattle.dots_history.specs.Tables.{bare}
use Rattle.dots_history.specs.Views.{mitigations_with}
use Rattle.live_mitigations.specs.Rows.{grown}
use Rattle.live_mitigations.specs.LiveValues.{LiveValue}
use Rattle.live_mitigations.proofs.LiveValues.{changed_to, changed_here, within_tables, changed_own, changed_other, put_represents}
use Rattle.live_mitigations.proofs.SlotsOfRows.{slots_with}
use Rattle.live_mitigations.proofs.Room.{fits_limits}
use Rattle.live_mitigations.proofs.live.LiveMitigations.put.Goals as goal

pub put-requires : goal.put-requires
put-requires c =
    let same = ap (λ (v : LiveValue). v.domains) c.self.view_is in
    record {
      domain = omega (arith, same, c.self.invariant.number, c.requires.inside);
      room = fits_limits _ c.args.self.now c.args.entry c.self.view_is c.self.invariant c.requires.room;
    }

pub invariant_of-self : goal.invariant_of-self
invariant_of-self c = changed_here (grown (record { entry = c.args.entry; slot = c.args.slot })) c.args.entry.domain _ c.put.new.self c.put.ensures (λ table. refl) c.self.invariant

pub returns-clause-represents : goal.returns-clause-represents
returns-clause-represents c = λ entries e same stands.
    put_represents c.args.self.now _ entries c.args.slot c.args.entry e
    (changed_to (grown (record { entry = c.args.entry; slot = c.args.slot })) c.args.entry.domain _ c.args.self.now c.put.new.self c.self.view_is c.put.ensures)
    same c.requires.at c.requires.inside stands

pub returns-clause-slots : goal.returns-clause-slots
returns-clause-slots c = λ filed e same stands are.
    let f = grown (record { entry = c.args.entry; slot = c.args.slot }) in
    slots_with f c.args.self.now c.put.new.self filed c.args.slot c.args.entry e
    (changed_to f c.args.entry.domain _ c.args.self.now c.put.new.self c.self.view_is c.put.ensures).tables
    same c.requires.at c.requires.inside (λ table. refl) stands are

pub returns-clause-own : goal.returns-clause-own
returns-clause-own c =
    changed_own (grown (record { entry = c.args.entry; slot = c.args.slot })) (mitigations_with (bare c.args.entry)) c.args.entry.domain c.args.self.now _
    (changed_to (grown (record { entry = c.args.entry; slot = c.args.slot })) c.args.entry.domain _ c.args.self.now c.put.new.self c.self.view_is c.put.ensures)
    (within_tables c.args.entry.domain _ c.args.self.now c.self.view_is c.self.invariant.number c.requires.inside)
    (λ table. refl)

pub returns-clause-others : goal.returns-clause-others
returns-clause-others c =
    changed_other (grown (record { entry = c.args.entry; slot = c.args.slot })) c.args.entry.domain c.args.self.now _
    (changed_to (grown (record { entry = c.args.entry; slot = c.args.slot })) c.args.entry.domain _ c.args.self.now c.put.new.self c.self.view_is c.put.ensures)
