use Rattle.std.proofs.Common.{◌∙◌, ap, refl}
use Rattle.std.specs.Prelude.{true}
use Rattle.dots_host.specs.declared.act.Act.TheVariants as act
use Rattle.dots_host.specs.Becoming.{Stays}
use Rattle.dots_host.proofs.DiskLemmas.{becomes, goes_on, records_from}
use Rattle.dots_host.proofs.memory_disk.MemoryDiskDisk.read.Goals as goal

pub returns-clause-ok : goal.returns-clause-ok
returns-clause-ok c =
    let made = records_from c.args.self.now _ c.record.new.self (act.Read true) (c.make_room.ensures.acts ∙ ap (λ disk. disk.acts) c.self.view_is) (c.if-not-make_room.ensures.whole.0 ∙ ap (λ disk. disk.whole) c.self.view_is)
    (ap (λ disk. disk.base) c.self.view_is) (ap (λ disk. disk.extent) c.self.view_is) c.record.ensures.call in
    becomes c.args.self.now c.record.new.self (act.Read true) Stays made refl

pub returns-clause-beside : goal.returns-clause-beside
returns-clause-beside c =
    let made = records_from c.args.self.now _ c.record.new.self (act.Read true) (c.make_room.ensures.acts ∙ ap (λ disk. disk.acts) c.self.view_is) (c.if-not-make_room.ensures.whole.0 ∙ ap (λ disk. disk.whole) c.self.view_is)
    (ap (λ disk. disk.base) c.self.view_is) (ap (λ disk. disk.extent) c.self.view_is) c.record.ensures.call in
    goes_on c.args.self.now c.record.new.self (act.Read true) made tt
