use Rattle.std.proofs.Common.{◌≡◌, ◌∙◌, ap, sym, ◌∷◌, ◌++◌, []}
use Rattle.std.specs.Prelude.{true}
use Rattle.dots_host.specs.declared.act.Act.TheVariants as act
use Rattle.dots_host.specs.Media.{written, overwritten, blank, grown, byte_of}
use Rattle.dots_host.specs.Stored.{media_of}
use Rattle.dots_host.proofs.DiskLemmas.{became, goes_on, seen_after}
use Rattle.dots_host.proofs.memory_disk.MemoryDiskDisk.write_at.Goals as goal

pub invariant_of-self-2 : goal.invariant_of-self-2
invariant_of-self-2 c =
    let call = act.Wrote c.args.at c.in-Ok.copy true in
    seen_after c.self.inside.base c.self.inside.tape.acts c.log.new.self.acts call (byte_of c.write.new.self) (c.log.ensures.acts ∙ ap (λ acts. acts ++ call ∷ []) c.make_room.ensures.acts)
    (c.in-Ok-write.ensures.ok ∙ ap (λ bytes. overwritten bytes c.args.at c.args.bytes.now) c.self.invariant ∙ sym (ap (overwritten (grown (blank c.self.inside.base) c.self.inside.tape.acts).now.seen c.args.at) c.in-Ok.ensures))

pub returns-clause-ok : goal.returns-clause-ok
returns-clause-ok c =
    let call = act.Wrote c.args.at c.in-Ok.copy true in
    became c.args.self.now c.self.inside.base c.log.new.self.acts call (λ old new. new ≡ written old c.args.at c.args.bytes.now) (ap (λ disk. disk.base) c.self.view_is)
    (c.log.ensures.acts ∙ ap (λ acts. acts ++ call ∷ []) (c.make_room.ensures.acts ∙ ap (λ disk. disk.acts) c.self.view_is)) (ap (written (media_of c.args.self.now).now c.args.at) c.in-Ok.ensures)

pub returns-clause-beside : goal.returns-clause-beside
returns-clause-beside c =
    let call = act.Wrote c.args.at c.in-Ok.copy true in
    goes_on c.args.self.now _ call (record {
      acts = c.log.ensures.acts ∙ ap (λ acts. acts ++ call ∷ []) (c.make_room.ensures.acts ∙ ap (λ disk. disk.acts) c.self.view_is);
      whole = c.log.ensures.whole ∙ c.if-not-make_room.ensures.whole.0 ∙ ap (λ disk. disk.whole) c.self.view_is;
      base = ap (λ disk. disk.base) c.self.view_is;
      extent = ap (λ disk. disk.extent) c.self.view_is;
    }) tt
