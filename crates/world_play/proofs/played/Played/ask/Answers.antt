use Rattle.std.proofs.Common.{◌≡◌, ◌∙◌, ℕ, List, length, max, Some, None, slice_get, refl, sym, ap, subst, arith}
use Rattle.std.specs.Prelude.{OnOk, IfOk}
use Rattle.std.specs.List.{range_with_len}
use Rattle.std.proofs.lemmas.Result.{on_ok_weaker}
use Rattle.dots_settings.specs.Settings.{SettingsValue}
use Rattle.dots_host.specs.declared.event.Event.TheVariants as incoming
use Rattle.dots_host.specs.Acts.{event_of}
use Rattle.dots_machine.specs.Machine.{State, Step}
use Rattle.dots_world.specs.Worlds.{World, Serves, PassesOn, AsksFor, ReceivesPacket, AllHandOut}
use Rattle.world_play.specs.Parties.{plan_with}
use Rattle.world_play.specs.Playing.{PlayedValue, Goes, IsSound, timed}
use Rattle.world_play.proofs.Leading as leading
use Rattle.world_play.proofs.played.Played.ask.Goals as goal

pub returns-clause-begins : goal.returns-clause-begins
returns-clause-begins c =
    let inside : PlayedValue = record { parties = c.self.inside.parties; time = c.self.inside.time; server = c.self.inside.server; gateway = c.self.inside.gateway; clients = c.self.inside.clients.items; packets = c.self.inside.packets.items } in
    let now : PlayedValue = record { parties = c.self.inside.parties; time = c.self.inside.time; server = c.self.inside.server; gateway = c.self.inside.gateway; clients = c.ask_at.new.clients.items; packets = c.self.inside.packets.items } in
    subst (λ (was : PlayedValue). OnOk c.ask_at.result ((settings : SettingsValue) → Goes settings (λ old new. AsksFor (plan_with settings was.parties) old c.args.place c.args.what.now new) was now)) c.self.view_is
    (on_ok_weaker c.ask_at.result (λ done settings. leading.asks settings inside c.args.place c.args.what.now c.ask_at.new.clients.items (subst (λ (was : PlayedValue). length was.clients ≡ length was.parties.clients) (sym c.self.view_is) c.requires.sound.clients) done) c.ask_at.ensures.asked)
