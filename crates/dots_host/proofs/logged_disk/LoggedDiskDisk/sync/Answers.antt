use Rattle.std.proofs.Common.{◌≡◌, ◌∙◌, ◌∷◌, ◌++◌, [], ap, refl, sym}
use Rattle.std.specs.Prelude.{true}
use Rattle.dots_host.specs.declared.act.Act.TheVariants as act
use Rattle.dots_host.specs.Media.{settled}
use Rattle.dots_host.proofs.LoggedLemmas.{becomes_more, seen_unchanged, adds_one}
use Rattle.dots_host.proofs.logged_disk.LoggedDiskDisk.sync.Goals as goal

pub invariant_of-self : goal.invariant_of-self
invariant_of-self c = c.self.invariant ∙ sym (seen_unchanged c.self.inside.log.acts c.after-self-inside.result.acts (act.Synced true) c.after-self-inside.ensures (λ medium. refl))

pub returns-clause-ok : goal.returns-clause-ok
returns-clause-ok c =
    becomes_more c.args.self.now.acts c.after-self-inside.result.acts (act.Synced true) (λ old new. new ≡ settled old) (c.after-self-inside.ensures ∙ ap (λ disk. disk.acts ++ act.Synced true ∷ []) c.self.view_is) refl

pub returns-clause-beside : goal.returns-clause-beside
returns-clause-beside c = adds_one c.args.self.now _ (act.Synced true) (c.after-self-inside.ensures ∙ ap (λ disk. disk.acts ++ act.Synced true ∷ []) c.self.view_is) tt
