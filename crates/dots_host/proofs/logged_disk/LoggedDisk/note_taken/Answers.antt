use Rattle.std.proofs.Common.{◌∙◌, ◌∷◌, ◌++◌, [], ap, refl, sym}
use Rattle.std.specs.Prelude.{true}
use Rattle.dots_host.specs.declared.act.Act.TheVariants as act
use Rattle.dots_host.specs.Acts.{event_of}
use Rattle.dots_host.proofs.TapeLemmas.{adds_took}
use Rattle.dots_host.proofs.DiskLemmas.{seen_wire}
use Rattle.dots_host.proofs.LoggedLemmas.{seen_unchanged, keeps_one}
use Rattle.dots_host.proofs.logged_disk.LoggedDisk.note_taken.Goals as goal

pub invariant_of-self : goal.invariant_of-self
invariant_of-self c =
    let call = act.Took (event_of c.args.got.what c.args.room.now) c.args.got.at in
    c.self.invariant ∙ sym (seen_unchanged c.self.inside.log.acts c.after-self-inside.result.acts call c.after-self-inside.ensures (seen_wire call tt))

pub returns-clause-adds : goal.returns-clause-adds
returns-clause-adds c =
    let call = act.Took (event_of c.args.got.what c.args.room.now) c.args.got.at in
    adds_took true true true c.args.self.now.acts c.self.inside.log.acts c.after-self-inside.result.acts (event_of c.args.got.what c.args.room.now) c.args.got.at refl refl (ap (λ disk. disk.acts) c.self.view_is) c.after-self-inside.ensures

pub returns-clause-beside : goal.returns-clause-beside
returns-clause-beside c =
    let call = act.Took (event_of c.args.got.what c.args.room.now) c.args.got.at in
    keeps_one c.args.self.now _ call (c.after-self-inside.ensures ∙ ap (λ disk. disk.acts ++ call ∷ []) c.self.view_is) tt (ap (λ disk. disk.extent) c.self.view_is) (ap (λ disk. disk.faults) c.self.view_is)
