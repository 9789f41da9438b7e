use Rattle.std.proofs.Common.{refl, get_or, arith}
use Rattle.std.proofs.lemmas.Result.{err_from_is_err_and}
use Rattle.slot_store.proofs.Storing.{slot_fits}
use Rattle.slot_store.proofs.DiskReading.{reads_none, reads_more, reads_lost}
use Rattle.slot_store.proofs.CopyingLemmas.{read_copy}
use Rattle.slot_store.proofs.copying.fill_slot.Goals as goal

pub returns-in_err-read-clause-keeps : goal.returns-in_err-read-clause-keeps
returns-in_err-read-clause-keeps g c = reads_lost _ _ _ (reads_none _) c.in_err-read.ensures.err

pub returns-clause-keeps : goal.returns-clause-keeps
returns-clause-keeps g c = reads_more _ _ _ (reads_none _) c.in_ok-read.ensures.ok

pub returns-clause-copy : goal.returns-clause-copy
returns-clause-copy g c = λ seen sees.
    read_copy _ c.args.slots c.args.half c.args.format c.args.keep.now seen c.args.slot _ c.place_of-at.result _ c.read.new.into c.rewrite.new.room c.requires.room refl c.if-index-keep.false c.place_of-at.ensures c.in_ok-read.ensures.bytes sees
    c.rewrite.ensures.slot

pub read-requires : goal.read-requires
read-requires g c =
    let under = c.requires.keep c.args.slot c.if-index-keep.false in
    let fits = slot_fits c.args.slots c.args.half (get_or c.args.keep.now c.args.slot 0) c.requires.half under in
    let at = c.place_of-at.ensures in
    let size = c.requires.size in
    let room = c.requires.room in
    omega (arith, fits, at, size, room)

pub returns-in_err-read-clause-cause : goal.returns-in_err-read-clause-cause
returns-in_err-read-clause-cause g c =
    let p = err_from_is_err_and c.from_residual.result c.from_residual.ensures.1 in
    record { later = c.in_err-read.ensures.cause.later; same = rw p.1 tt; rose = rw p.1 c.in_err-read.ensures.cause.rose }

pub returns-in_err-read-clause-copy : goal.returns-in_err-read-clause-copy
returns-in_err-read-clause-copy g c =
    let p = err_from_is_err_and c.from_residual.result c.from_residual.ensures.1 in
    rw p.1 tt

pub returns-in_err-read-clause-enough : goal.returns-in_err-read-clause-enough
returns-in_err-read-clause-enough g c =
    let p = err_from_is_err_and c.from_residual.result c.from_residual.ensures.1 in
    rw p.1 tt
