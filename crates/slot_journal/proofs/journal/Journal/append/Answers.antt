use Rattle.std.proofs.Common.{◌∙◌, ap, sym, subst}
use Rattle.dots_host.specs.Becoming.{RestsWith}
use Rattle.slot_journal.specs.Layout.{record_bytes}
use Rattle.slot_journal.specs.DiskEntries.{records_of, Represents}
use Rattle.slot_journal.proofs.WritingLemmas.{leaves_either, rests_second, appended, has_record}
use Rattle.slot_journal.proofs.journal.Journal.append.Goals as goal

pub returns-clause-moments : goal.returns-clause-moments
returns-clause-moments g c = λ settings entries rests.
    let bytes = c.record.ensures ∙ c.deref.ensures ∙ c.put.ensures.written ∙ ap (λ format. record_bytes format c.args.entry.now) c.format.ensures in
    leaves_either _ _ c.self.inside.store c.self.inside.store.format settings _ entries _
    (λ image represents. appended c.self.inside.store settings entries c.args.entry.now _ image bytes (has_record _ _ _ c.put.ensures.record) represents)
    (subst (λ journal. RestsWith (g.D.Disk.media c.args.disk.now) (Represents journal settings entries)) (sym c.self.view_is) rests)
    (λ represents. c.in_ok-slot.ensures.moments settings.digest (records_of c.self.inside.store.format entries) represents)

pub returns-in_err-slot-clause-moments : goal.returns-in_err-slot-clause-moments
returns-in_err-slot-clause-moments g c = λ settings entries rests.
    let bytes = c.record.ensures ∙ c.deref.ensures ∙ c.put.ensures.written ∙ ap (λ format. record_bytes format c.args.entry.now) c.format.ensures in
    leaves_either _ _ c.self.inside.store c.self.inside.store.format settings _ entries _
    (λ image represents. appended c.self.inside.store settings entries c.args.entry.now _ image bytes (has_record _ _ _ c.put.ensures.record) represents)
    (subst (λ journal. RestsWith (g.D.Disk.media c.args.disk.now) (Represents journal settings entries)) (sym c.self.view_is) rests)
    (λ represents. c.in_err-slot.ensures.moments settings.digest (records_of c.self.inside.store.format entries) represents)

pub returns-clause-rests : goal.returns-clause-rests
returns-clause-rests g c = λ settings entries rests.
    let bytes = c.record.ensures ∙ c.deref.ensures ∙ c.put.ensures.written ∙ ap (λ format. record_bytes format c.args.entry.now) c.format.ensures in
    rests_second _ _ c.self.inside.store _ c.self.inside.store.format settings _ entries _ (ap (λ journal. journal.slots) c.in_ok-slot.ensures.next)
    (ap (λ journal. journal.format) c.in_ok-slot.ensures.next)
    (λ image represents. appended c.self.inside.store settings entries c.args.entry.now _ image bytes (has_record _ _ _ c.put.ensures.record) represents)
    (subst (λ journal. RestsWith (g.D.Disk.media c.args.disk.now) (Represents journal settings entries)) (sym c.self.view_is) rests)
    (λ represents. c.in_ok-slot.ensures.rests settings.digest (records_of c.self.inside.store.format entries) represents)
