use Rattle.std.proofs.Common.{◌≡◌, ◌∙◌, ◌∷◌, ◌++◌, [], length, ap, refl, sym, inr}
use Rattle.std.specs.Prelude.{true, false}
use Rattle.dots_host.specs.declared.act.Act.TheVariants as act
use Rattle.dots_host.specs.Media.{written, overwritten, byte_of, IsTorn}
use Rattle.dots_host.proofs.DiskLemmas.{seen_after}
use Rattle.dots_host.proofs.LoggedLemmas.{becomes_more, adds_one, seen_unchanged}
use Rattle.dots_host.proofs.logged_disk.LoggedDiskDisk.write_at.Goals as goal

pub invariant_of-self : goal.invariant_of-self
invariant_of-self c =
    seen_after [] c.self.inside.log.acts c.after-self-inside.result.acts (act.Wrote c.args.at c.args.bytes.now true) (byte_of c.write.new.self) c.after-self-inside.ensures
    (c.in-Ok.ensures.ok ∙ ap (λ bytes. overwritten bytes c.args.at c.args.bytes.now) c.self.invariant)

pub returns-in-Ok-clause-ok : goal.returns-in-Ok-clause-ok
returns-in-Ok-clause-ok c =
    let call = act.Wrote c.args.at c.args.bytes.now true in
    becomes_more c.args.self.now.acts c.after-self-inside.result.acts call (λ old new. new ≡ written old c.args.at c.args.bytes.now) (c.after-self-inside.ensures ∙ ap (λ disk. disk.acts ++ call ∷ []) c.self.view_is) refl

pub returns-in-Ok-clause-beside : goal.returns-in-Ok-clause-beside
returns-in-Ok-clause-beside c =
    let call = act.Wrote c.args.at c.args.bytes.now true in
    adds_one c.args.self.now _ call (c.after-self-inside.ensures ∙ ap (λ disk. disk.acts ++ call ∷ []) c.self.view_is) tt

pub invariant_of-self-in-Err : goal.invariant_of-self-in-Err
invariant_of-self-in-Err c =
    let call = act.Wrote c.args.at c.args.bytes.now false in
    ap byte_of c.in-Err.ensures.err ∙ c.self.invariant ∙ sym (seen_unchanged c.self.inside.log.acts c.after-self-inside-in-Err.result.acts call c.after-self-inside-in-Err.ensures (λ medium. refl))

pub returns-in-Err-clause-err : goal.returns-in-Err-clause-err
returns-in-Err-clause-err c =
    let call = act.Wrote c.args.at c.args.bytes.now false in
    inr (becomes_more c.args.self.now.acts c.after-self-inside-in-Err.result.acts call (IsTorn c.args.at (length c.args.bytes.now)) (c.after-self-inside-in-Err.ensures ∙ ap (λ disk. disk.acts ++ call ∷ []) c.self.view_is)
    (record { pending = refl; kept = λ place outside. refl }))

pub returns-in-Err-clause-beside : goal.returns-in-Err-clause-beside
returns-in-Err-clause-beside c =
    let call = act.Wrote c.args.at c.args.bytes.now false in
    adds_one c.args.self.now _ call (c.after-self-inside-in-Err.ensures ∙ ap (λ disk. disk.acts ++ call ∷ []) c.self.view_is) tt

pub returns-in-Err-clause-unwritten : goal.returns-in-Err-clause-unwritten
returns-in-Err-clause-unwritten c =
    let call = act.Wrote c.args.at c.args.bytes.now false in
    seen_unchanged c.args.self.now.acts c.after-self-inside-in-Err.result.acts call (c.after-self-inside-in-Err.ensures ∙ ap (λ disk. disk.acts ++ call ∷ []) c.self.view_is) (λ medium. refl)
