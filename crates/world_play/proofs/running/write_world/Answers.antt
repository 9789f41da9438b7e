use Rattle.std.proofs.Common.{ℕ, List, refl, sym, subst}
use Rattle.world_play.specs.Report.{WorldReported}
use Rattle.world_play.specs.Outcomes.{reported, unwritten}
use Rattle.world_play.proofs.running.write_world.Goals as goal

pub returns-in-Ok-write_all : goal.returns-in-Ok-write_all
returns-in-Ok-write_all g c =
    let text = c.as_bytes.result.now in
    let is = subst (λ (bytes : List ℕ). WorldReported c.args.seed bytes) (sym c.as_bytes.ensures.value) c.in-Ok.ensures in
    reported refl text is c.in-Ok-write_all.ensures.ok

pub returns-in-Err-write_all : goal.returns-in-Err-write_all
returns-in-Err-write_all g c =
    let text = c.as_bytes.result.now in
    let is = subst (λ (bytes : List ℕ). WorldReported c.args.seed bytes) (sym c.as_bytes.ensures.value) c.in-Ok.ensures in
    unwritten refl text is c.in-Err-write_all.ensures.err c.in-Err-write_all.ensures.cause.rose
