use Rattle.std.proofs.Common.{◌≡◌}
use Rattle.std.specs.Prelude.{string_bytes}
use Rattle.std.proofs.lemmas.Result.{IfOk-weaker}
use Rattle.dots_settings.specs.Settings.{SettingsValue}
use Rattle.dots_machine.specs.Machine.{State}
use Rattle.dots_world.specs.Worlds.{World}
use Rattle.world_play.specs.Playing.{PlaysAs}
use Rattle.world_play.specs.Report.{world_text, WorldReported}
use Rattle.world_play.proofs.running.world_report.Goals as goal

pub returns : goal.returns
returns c =
    let played = c.in_ok-played.played in
    let shown = c.in_ok-played.ensures in
    IfOk-weaker c.report_of-report.result (λ text. (settings : SettingsValue) (world : World State) → PlaysAs settings played world → string_bytes text ≡ world_text world)
    (λ text. WorldReported c.args.seed (string_bytes text))
    (λ text is. record {
      plan = shown.plan;
      is_plan = shown.is_plan;
      events = shown.events;
      count = shown.count_is;
      world = shown.world;
      runs = shown.runs;
      text_is = is shown.plan.settings shown.world shown.plays;
    })
    c.report_of-report.ensures
