use Rattle.std.proofs.Common.{ap, sym, subst}
use Rattle.slot_store.specs.declared.format.Format.TheVariants.{Two}
use Rattle.dots_host.specs.Becoming.{RestsWith}
use Rattle.slot_store.specs.Copying.{AreSlots}
use Rattle.slot_store.specs.StoreValues.{JournalValue}
use Rattle.slot_journal.specs.DiskEntries.{records_of, Represents}
use Rattle.slot_journal.proofs.WritingLemmas.{leaves_either, rests_second, kept}
use Rattle.slot_journal.proofs.journal.Journal.compact.Goals as goal

pub returns-clause-moments : goal.returns-clause-moments
returns-clause-moments g c = λ settings entries rests.
    let slots = subst (λ (journal : JournalValue). AreSlots journal.used c.args.keep.now) (sym c.self.view_is) c.requires.keep in
    leaves_either _ _ c.self.inside.store Two settings _ entries _ (λ image represents. kept c.self.inside.store settings entries c.args.keep.now image slots represents)
    (subst (λ journal. RestsWith (g.D.Disk.media c.args.disk.now) (Represents journal settings entries)) (sym c.self.view_is) rests)
    (λ represents. c.in_ok-compact.ensures.moments settings.digest (records_of c.self.inside.store.format entries) represents)

pub returns-in_err-compact-clause-moments : goal.returns-in_err-compact-clause-moments
returns-in_err-compact-clause-moments g c = λ settings entries rests.
    let slots = subst (λ (journal : JournalValue). AreSlots journal.used c.args.keep.now) (sym c.self.view_is) c.requires.keep in
    leaves_either _ _ c.self.inside.store Two settings _ entries _ (λ image represents. kept c.self.inside.store settings entries c.args.keep.now image slots represents)
    (subst (λ journal. RestsWith (g.D.Disk.media c.args.disk.now) (Represents journal settings entries)) (sym c.self.view_is) rests)
    (λ represents. c.in_err-compact.ensures.moments settings.digest (records_of c.self.inside.store.format entries) represents)

pub returns-clause-rests : goal.returns-clause-rests
returns-clause-rests g c = λ settings entries rests.
    let slots = subst (λ (journal : JournalValue). AreSlots journal.used c.args.keep.now) (sym c.self.view_is) c.requires.keep in
    rests_second _ _ c.self.inside.store _ Two settings _ entries _ (ap (λ journal. journal.slots) c.in_ok-compact.ensures.next)
    (ap (λ journal. journal.format) c.in_ok-compact.ensures.next)
    (λ image represents. kept c.self.inside.store settings entries c.args.keep.now image slots represents)
    (subst (λ journal. RestsWith (g.D.Disk.media c.args.disk.now) (Represents journal settings entries)) (sym c.self.view_is) rests)
    (λ represents. c.in_ok-compact.ensures.rests settings.digest (records_of c.self.inside.store.format entries) represents)
