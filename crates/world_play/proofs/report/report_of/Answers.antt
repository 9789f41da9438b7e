use Rattle.std.proofs.Common.{◌≡◌, ◌∙◌, ℕ, List, length, ap}
use Rattle.std.specs.Prelude.{string_bytes}
use Rattle.std.proofs.lemmas.Result.{IfOk-weaker}
use Rattle.dots_settings.specs.Settings.{SettingsValue}
use Rattle.dots_machine.specs.Machine.{State}
use Rattle.dots_world.specs.declared.party.Packet.{Packet}
use Rattle.dots_world.specs.Worlds.{World}
use Rattle.world_play.specs.Playing.{PlaysAs}
use Rattle.world_play.specs.Report.{granted_to, text_of, world_text}
use Rattle.world_play.proofs.report.report_of.Goals as goal

pub returns : goal.returns
returns c =
    let granted = c.in_ok-granted.granted in
    let rows = c.in_ok-rows.rows in
    IfOk-weaker c.text_of.result (λ text. string_bytes text ≡ text_of (length c.packets-packets.result.now) granted rows)
    (λ text. (settings : SettingsValue) (world : World State) → PlaysAs settings c.args.played.now world → string_bytes text ≡ world_text world)
    (λ text is settings world plays.
    is ∙ ap (λ (sent : List Packet). text_of (length sent) granted rows) (c.packets-packets.ensures ∙ plays.packets)
    ∙ ap (λ (n : ℕ). text_of (length world.packets) n rows) (c.in_ok-granted.ensures ∙ ap granted_to (c.clients.ensures ∙ plays.clients))
    ∙ ap (λ (n : ℕ). text_of (length world.packets) (granted_to world.clients) n) (c.in_ok-rows.ensures settings world plays))
    c.text_of.ensures
