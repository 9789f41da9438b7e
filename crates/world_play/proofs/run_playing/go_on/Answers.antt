use Rattle.std.proofs.Common.{◌∙◌, List, length, ap, subst}
use Rattle.std.specs.Prelude.{IfOk}
use Rattle.dots_settings.specs.Settings.{SettingsValue}
use Rattle.dots_world.specs.declared.event.WorldEvent.{WorldEvent}
use Rattle.dots_world.specs.declared.party.Packet.{Packet}
use Rattle.world_play.specs.Playing.{PlayedValue, Goes, HappensSo}
use Rattle.world_play.specs.Drawing.{event_by}
use Rattle.world_play.proofs.run_playing.go_on.Goals as goal

pub returns-in-Ok-clause-happens : goal.returns-in-Ok-clause-happens
returns-in-Ok-clause-happens c =
    let is = c.in-Ok.ensures.event ∙ ap (λ (sent : List Packet). event_by c.args.drawn c.args.time (length sent)) c.packets-packets.ensures in
    subst
    (λ (what : WorldEvent). IfOk c.happen.result (λ (next : PlayedValue). (settings : SettingsValue) → Goes settings (HappensSo settings c.args.played.parties what) c.args.played next))
    is c.happen.ensures.happens
