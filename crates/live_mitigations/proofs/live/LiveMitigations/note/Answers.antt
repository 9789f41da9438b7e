use Rattle.std.proofs.Common.{refl, ap, arith}
use Rattle.dots_history.specs.Filed.{Filed}
use Rattle.dots_history.specs.Tables.{bare}
use Rattle.dots_history.specs.Views.{mitigations_with}
use Rattle.live_mitigations.specs.Rows.{noted}
use Rattle.live_mitigations.specs.LiveValues.{LiveValue}
use Rattle.live_mitigations.proofs.LiveValues.{changed_to, changed_here, within_tables, changed_own, changed_other, changed_represents, noted_rows, quiet_inside, represents_outside}
use Rattle.live_mitigations.proofs.SlotsOfRows.{slots_with, noted_slots, are_outside}
use Rattle.live_mitigations.proofs.live.LiveMitigations.note.Goals as goal

pub invariant_of-self : goal.invariant_of-self
invariant_of-self c = changed_here (noted (record { entry = c.args.entry.now; slot = c.args.slot })) c.args.entry.now.domain _ c.note.new.self c.note.ensures (λ table. refl) c.self.invariant

pub returns-then-entry-self-clause-represents : goal.returns-then-entry-self-clause-represents
returns-then-entry-self-clause-represents c = λ entries stands.
    changed_represents (noted (record { entry = c.args.entry.now; slot = c.args.slot })) c.args.self.now _ entries c.args.entry.now
    (changed_to (noted (record { entry = c.args.entry.now; slot = c.args.slot })) c.args.entry.now.domain _ c.args.self.now c.note.new.self c.self.view_is c.note.ensures)
    (λ table. refl)
    (λ table. noted_rows (record { entry = c.args.entry.now; slot = c.args.slot }) table c.requires.quiet)
    c.requires.at
    (quiet_inside c.args.self.now.domains c.args.entry.now c.requires.quiet)
    stands

pub returns-then-entry-self-clause-slots : goal.returns-then-entry-self-clause-slots
returns-then-entry-self-clause-slots c = λ filed stands are.
    let x : Filed = record { entry = c.args.entry.now; slot = c.args.slot } in
    let same = ap (λ (v : LiveValue). v.domains) c.self.view_is in
    slots_with (noted x) c.args.self.now c.note.new.self filed c.args.slot c.args.entry.now c.args.entry.now
    (changed_to (noted x) c.args.entry.now.domain _ c.args.self.now c.note.new.self c.self.view_is c.note.ensures).tables
    refl c.requires.at (omega (arith, same, c.if-entry-self.true)) (λ table. noted_slots x table c.requires.quiet) stands are

pub returns-else-entry-self-clause-slots : goal.returns-else-entry-self-clause-slots
returns-else-entry-self-clause-slots c = λ filed stands are.
    let same = ap (λ (v : LiveValue). v.domains) c.self.view_is in
    let number = stands.are_tables.number in
    are_outside c.args.self.now.time c.args.self.now.tables filed (record { entry = c.args.entry.now; slot = c.args.slot })
    (omega (arith, same, number, c.if-entry-self.false)) are

pub returns-then-entry-self-clause-own : goal.returns-then-entry-self-clause-own
returns-then-entry-self-clause-own c = λ less.
    changed_own (noted (record { entry = c.args.entry.now; slot = c.args.slot })) (mitigations_with (bare c.args.entry.now)) c.args.entry.now.domain c.args.self.now _
    (changed_to (noted (record { entry = c.args.entry.now; slot = c.args.slot })) c.args.entry.now.domain _ c.args.self.now c.note.new.self c.self.view_is c.note.ensures)
    (within_tables c.args.entry.now.domain _ c.args.self.now c.self.view_is c.self.invariant.number less)
    (λ table. noted_rows (record { entry = c.args.entry.now; slot = c.args.slot }) table c.requires.quiet)

pub returns-then-entry-self-clause-others : goal.returns-then-entry-self-clause-others
returns-then-entry-self-clause-others c =
    changed_other (noted (record { entry = c.args.entry.now; slot = c.args.slot })) c.args.entry.now.domain c.args.self.now _
    (changed_to (noted (record { entry = c.args.entry.now; slot = c.args.slot })) c.args.entry.now.domain _ c.args.self.now c.note.new.self c.self.view_is c.note.ensures)

pub returns-else-entry-self-clause-represents : goal.returns-else-entry-self-clause-represents
returns-else-entry-self-clause-represents c = λ entries stands.
    let same = ap (λ (v : LiveValue). v.domains) c.self.view_is in
    represents_outside c.args.self.now entries c.args.entry.now (omega (arith, same, c.if-entry-self.false)) c.requires.quiet c.requires.at stands
