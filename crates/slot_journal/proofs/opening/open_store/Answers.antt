use Rattle.slot_journal.proofs.Recovering.{fault_refuses, fault_small, fault_other, fault_caused}
use Rattle.slot_journal.proofs.opening.open_store.Goals as goal

pub returns-in-Ok-clause-moments : goal.returns-in-Ok-clause-moments
returns-in-Ok-clause-moments g c = rw (c.slots.ensures.slots, c.digest-digest.ensures.value) at c.in-Ok.ensures.moments

pub returns-in-Ok-clause-known : goal.returns-in-Ok-clause-known
returns-in-Ok-clause-known g c = rw (c.digest-digest.ensures.value) at c.in-Ok.ensures.known

pub returns-in-Ok-clause-size : goal.returns-in-Ok-clause-size
returns-in-Ok-clause-size g c = rw (c.slots.ensures.slots) at c.in-Ok.ensures.size

pub returns-in-Err-clause-moments : goal.returns-in-Err-clause-moments
returns-in-Err-clause-moments g c = rw (c.slots.ensures.slots, c.digest-digest.ensures.value) at c.in-Err.ensures.moments

pub returns-in-Err-clause-refused : goal.returns-in-Err-clause-refused
returns-in-Err-clause-refused g c = λ seen sees.
    fault_refuses c.args.settings.now (g.D.Disk.extent c.args.disk.now) seen c.in-Err.fault c.fault_for.result (rw (c.digest-digest.ensures.value) at c.fault_for.ensures)
    (rw (c.slots.ensures.slots, c.digest-digest.ensures.value) at (c.in-Err.ensures.refused seen sees))

pub returns-in-Err-clause-small : goal.returns-in-Err-clause-small
returns-in-Err-clause-small g c =
    fault_small c.args.settings.now (g.D.Disk.extent c.args.disk.now) c.digest-digest.result c.in-Err.fault c.fault_for.result c.fault_for.ensures (rw (c.slots.ensures.slots) at c.in-Err.ensures.small)

pub returns-in-Err-clause-unwritten : goal.returns-in-Err-clause-unwritten
returns-in-Err-clause-unwritten g c = λ seen other rests. c.in-Err.ensures.unwritten seen (fault_other c.in-Err.fault c.digest-digest.result c.fault_for.result c.fault_for.ensures other) rests

pub returns-in-Err-clause-cause : goal.returns-in-Err-clause-cause
returns-in-Err-clause-cause g c = fault_caused c.in-Err.fault c.digest-digest.result c.fault_for.result (g.D.Disk.faults c.args.disk.now) (g.D.Disk.faults c.open.new.disk) c.fault_for.ensures c.in-Err.ensures.cause
