use Rattle.std.proofs.Common.{◌∙◌, sym, ap, arith}
use Rattle.dots_machine.specs.Machine.{State}
use Rattle.dots_world.specs.Worlds.{World}
use Rattle.world_play.specs.Report.{world_text}
use Rattle.world_play.proofs.RunLeading.{one_end}
use Rattle.world_play.proofs.laws.one_report.Goals as goal

pub returns : goal.returns
returns c = λ seed text other is also.
    is.text_is
    ∙ ap (λ (world : World State). world_text world)
    (one_end seed 2000 is.plan also.plan is.events also.events is.world also.world is.is_plan also.is_plan is.count also.count (omega arith) is.runs also.runs)
    ∙ sym also.text_is
