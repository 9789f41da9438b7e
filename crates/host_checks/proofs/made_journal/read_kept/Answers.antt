use Rattle.std.proofs.Common.{sym, subst}
use Rattle.std.specs.List.{AllByRecursion}
use Rattle.host_checks.specs.KeptEntries.{IsBounded}
use Rattle.host_checks.specs.Making.{HasNamed}
use Rattle.host_checks.proofs.Picking.{picked_bounded}
use Rattle.host_checks.proofs.MadeOf.{counting_of}
use Rattle.host_checks.proofs.made_journal.read_kept.Goals as goal

pub returns-clause-each : goal.returns-clause-each
returns-clause-each g c =
    subst (AllByRecursion IsBounded) (sym c.in_ok-list.ensures) (picked_bounded c.args.old.now c.args.new.now c.items.result.now 0 c.in_ok-_journal.entries c.in_ok-_journal.ensures.each)

pub returns-clause-counting : goal.returns-clause-counting
returns-clause-counting g c = λ seen sees.
    counting_of
    c.args.old.now
    c.args.new.now
    c.args.now
    seen
    (g.D.Disk.media c.read_slots.new.disk)
    c.items.result.now
    c.in_ok-_journal.entries
    c.in_ok-list.list.items
    (subst (HasNamed c.args.old.now c.args.now seen (g.D.Disk.media c.read_slots.new.disk)) (sym c.items.ensures) (c.in_ok-keep.ensures.named seen sees))
    (λ image at. (c.in_ok-_journal.ensures.recovered image at).0)
    c.in_ok-list.ensures
