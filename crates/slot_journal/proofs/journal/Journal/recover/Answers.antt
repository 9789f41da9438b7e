use Rattle.std.proofs.Common.{sym}
use Rattle.std.proofs.lemmas.Result.{err_from_is_err_and}
use Rattle.slot_store.proofs.DiskReading.{sees_at_rest}
use Rattle.slot_journal.specs.DiskEntries.{records_of}
use Rattle.slot_journal.proofs.Recovering.{recovered, stays, has_opening, has_reading, half_refuses, other_size, not_written}
use Rattle.slot_journal.proofs.journal.Journal.recover.Goals as goal

pub returns-in_err-store-clause-moments : goal.returns-in_err-store-clause-moments
returns-in_err-store-clause-moments g c = λ seen entries rests image_has. has_opening _ _ c.args.settings.now image_has.format entries image_has.each (c.in_err-store.ensures.moments seen image_has.format (records_of image_has.format entries) rests image_has.records)

pub returns-in_err-store-clause-refused : goal.returns-in_err-store-clause-refused
returns-in_err-store-clause-refused g c =
    let p = err_from_is_err_and c.from_residual.result c.from_residual.ensures.1 in
    rw (p.1, p.2) c.in_err-store.ensures.refused

pub returns-in_err-store-clause-small : goal.returns-in_err-store-clause-small
returns-in_err-store-clause-small g c =
    let p = err_from_is_err_and c.from_residual.result c.from_residual.ensures.1 in
    rw (p.1, p.2) c.in_err-store.ensures.small

pub returns-in_err-store-clause-unwritten : goal.returns-in_err-store-clause-unwritten
returns-in_err-store-clause-unwritten g c =
    let p = err_from_is_err_and c.from_residual.result c.from_residual.ensures.1 in
    rw (p.1, p.2) c.in_err-store.ensures.unwritten

pub returns-in_err-entries-clause-moments : goal.returns-in_err-entries-clause-moments
returns-in_err-entries-clause-moments g c = λ seen entries rests image_has.
    has_reading _ _ _ c.args.settings.now c.in_ok-store.store entries seen c.in_ok-store.ensures.size.0 image_has (c.in_ok-store.ensures.known seen (sees_at_rest _ seen rests)) c.in_err-entries.ensures.keeps
    (c.in_ok-store.ensures.moments seen image_has.format (records_of image_has.format entries) rests image_has.records)

pub returns-in_err-entries-clause-refused : goal.returns-in_err-entries-clause-refused
returns-in_err-entries-clause-refused g c =
    let p = err_from_is_err_and c.from_residual-in_err-entries.result c.from_residual-in_err-entries.ensures.1 in
    rw (p.1, p.2) (λ seen sees. half_refuses _ c.args.settings.now c.in_ok-store.store (g.D.Disk.extent c.args.disk.now) seen _ c.in_ok-store.ensures.size.0 (c.in_ok-store.ensures.known seen sees) c.in_err-entries.ensures.refused)

pub returns-in_err-entries-clause-small : goal.returns-in_err-entries-clause-small
returns-in_err-entries-clause-small g c =
    let p = err_from_is_err_and c.from_residual-in_err-entries.result c.from_residual-in_err-entries.ensures.1 in
    rw (p.1, p.2) (other_size c.args.settings.now (g.D.Disk.extent c.args.disk.now) _ c.in_err-entries.ensures.sized)

pub returns-in_err-entries-clause-unwritten : goal.returns-in_err-entries-clause-unwritten
returns-in_err-entries-clause-unwritten g c =
    let p = err_from_is_err_and c.from_residual-in_err-entries.result c.from_residual-in_err-entries.ensures.1 in
    rw (p.1, p.2) (λ seen other rests. not_written _ _ c.args.settings.now.digest c.in_ok-store.store seen _ other (c.in_ok-store.ensures.known seen (sees_at_rest _ seen rests)) c.in_err-entries.ensures.keeps c.in_err-entries.ensures.some c.in_err-entries.ensures.refused)

pub returns-in_err-entries-clause-beside : goal.returns-in_err-entries-clause-beside
returns-in_err-entries-clause-beside g c = g.met.D.Disk.beside_then _ _ _ c.in_ok-store.ensures.beside c.in_err-entries.ensures.beside

pub returns-clause-moments : goal.returns-clause-moments
returns-clause-moments g c = λ seen entries rests image_has.
    has_reading _ _ _ c.args.settings.now c.in_ok-store.store entries seen c.in_ok-store.ensures.size.0 image_has (c.in_ok-store.ensures.known seen (sees_at_rest _ seen rests)) c.in_ok-entries.ensures.keeps
    (c.in_ok-store.ensures.moments seen image_has.format (records_of image_has.format entries) rests image_has.records)

pub returns-clause-recovered : goal.returns-clause-recovered
returns-clause-recovered g c = λ seen sees.
    let is = recovered _ _ c.args.settings.now c.in_ok-store.store c.in_ok-entries.entries seen c.in_ok-store.ensures.size.0 (c.in_ok-store.ensures.known seen sees) c.in_ok-entries.ensures.keeps c.in_ok-entries.ensures.count c.in_ok-entries.ensures.each c.in_ok-entries.ensures.half in
    (is.filled, is.rests)

pub returns-clause-count : goal.returns-clause-count
returns-clause-count g c = sym c.in_ok-entries.ensures.count

pub returns-clause-kept : goal.returns-clause-kept
returns-clause-kept g c = λ seen rests gate. stays _ _ c.args.settings.now.digest c.in_ok-store.store seen (c.in_ok-store.ensures.known seen (sees_at_rest _ seen rests)) c.in_ok-entries.ensures.keeps gate

pub returns-clause-beside : goal.returns-clause-beside
returns-clause-beside g c = g.met.D.Disk.beside_then _ _ _ c.in_ok-store.ensures.beside c.in_ok-entries.ensures.beside
