use Rattle.std.proofs.Common.{refl, subst}
use Rattle.dots_host.specs.declared.act.Act.TheVariants as act
use Rattle.dots_host.specs.Acts.{event_of}
use Rattle.dots_host.specs.Stored.{Stored, KeepsDisk}
use Rattle.dots_host.proofs.DiskLemmas.{seen_may_rest, wire_may_rest}
use Rattle.dots_host.proofs.memory_disk.MemoryDisk.record_taken.Goals as goal

pub invariant_of-self : goal.invariant_of-self
invariant_of-self c =
    let call = act.Took (event_of c.args.got.what c.args.room.now) c.args.got.at in
    seen_may_rest c.record_taken.result c.self.inside.base c.self.inside.tape.acts c.record_taken.new.self.acts call _ tt c.record_taken.ensures.acts c.self.invariant

pub returns-clause-beside : goal.returns-clause-beside
returns-clause-beside c =
    let call = act.Took (event_of c.args.got.what c.args.room.now) c.args.got.at in
    let inside = c.self.inside in
    let tape = c.record_taken.new.self in
    let old : Stored = record { extent = inside.size; base = inside.base; acts = inside.tape.acts; whole = inside.tape.whole; room = inside.tape.room; faults = inside.faults } in
    let new : Stored = record { extent = inside.size; base = inside.base; acts = tape.acts; whole = tape.whole; room = tape.room; faults = inside.faults } in
    subst (λ (disk : Stored). KeepsDisk disk new) c.self.view_is (wire_may_rest c.record_taken.result old new call tt c.record_taken.ensures.acts refl refl refl)
