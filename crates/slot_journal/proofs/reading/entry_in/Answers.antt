use Rattle.std.proofs.Common.{refl}
use Rattle.slot_journal.proofs.Places.{whole_before}
use Rattle.slot_journal.proofs.reading.entry_in.Goals as goal

pub returns-in-Ok-clause-entry : goal.returns-in-Ok-clause-entry
returns-in-Ok-clause-entry c =
    let is = c.in-Ok.ensures.found in
    (record { typed = is.typed; within = is.within }, is.is)

pub returns-in-Err-NotEntry-clause-refused : goal.returns-in-Err-NotEntry-clause-refused
returns-in-Err-NotEntry-clause-refused c = (refl, λ entry is. whole_before c.args.format c.args.bytes.now _ (c.in-Err-NotEntry.ensures.broken _ c.in-Err-NotEntry.field-0-is) (entry, is))
