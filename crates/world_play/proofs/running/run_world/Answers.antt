use Rattle.std.proofs.Common.{◌∙◌, ℕ, Option, sym, subst}
use Rattle.dots_host.specs.Causes.{Rose}
use Rattle.world_play.specs.Outcomes.{Ends}
use Rattle.world_play.proofs.running.run_world.Goals as goal

pub returns-in-Some : goal.returns-in-Some
returns-in-Some g c =
    let old = c.args.report.now in
    let new = c.write_world.new.report in
    subst
    (λ (asked : Option ℕ). Ends asked c.write_world.result (g.K.Sink.holds old) (g.K.Sink.holds new) (Rose (g.K.Sink.faults old) (g.K.Sink.faults new)))
    (sym c.in-Some.is ∙ c.world_of.ensures) c.write_world.ensures
