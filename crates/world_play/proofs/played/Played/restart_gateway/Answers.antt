use Rattle.std.proofs.Common.{◌≡◌, ◌<◌, ◌∙◌, ℕ, List, length, max, Some, None, slice_get, refl, sym, ap, subst, arith}
use Rattle.std.specs.Prelude.{OnOk, IfOk}
use Rattle.std.specs.List.{range_with_len}
use Rattle.std.proofs.lemmas.Result.{on_ok_weaker}
use Rattle.dots_settings.specs.Settings.{SettingsValue}
use Rattle.dots_host.specs.declared.event.Event.TheVariants as incoming
use Rattle.dots_host.specs.Acts.{event_of}
use Rattle.dots_machine.specs.Machine.{State, Step}
use Rattle.dots_world.specs.OneWorld.{PassesOnWell}
use Rattle.world_play.specs.Parties.{plan_with}
use Rattle.world_play.specs.Playing.{PlayedValue, Goes, IsSound, timed}
use Rattle.world_play.proofs.Leading as leading
use Rattle.world_play.specs.Clients.{AllHanded, ReceivedAt}
use Rattle.world_play.proofs.Routes.{handed_routed, received_routed, sound_changed}
use Rattle.dots_world.specs.declared.plan.PlanClient.{PlanClient}
use Rattle.dots_world.specs.Plans.{to_server, to_gateway}
use Rattle.world_play.specs.Playing.{ComesToServer, ComesToGateway}
use Rattle.world_play.proofs.Handed.{there_at}
use Rattle.std.proofs.Common.{take}
use Rattle.std.proofs.lemmas.List.{take_all}
use Rattle.dots_world.specs.declared.party.Packet.{Packet}
use Rattle.dots_world.specs.declared.party.Party.TheVariants.{Client as a_client, Gateway as the_gateway, Server as the_server}
use Rattle.dots_world.specs.declared.event.WorldEvent.TheVariants as what_comes
use Rattle.world_play.specs.Playing.{ComesSo, BeginsSo, HappensSo, RunsSo}
use Rattle.world_play.proofs.Handed.{none_at}
use Rattle.dots_machine.specs.Answering.{AreBytes}
use Rattle.world_play.proofs.played.Played.restart_gateway.Goals as goal

pub returns-in-Ok-clause-sound : goal.returns-in-Ok-clause-sound
returns-in-Ok-clause-sound c =
    let inside : PlayedValue = record { parties = c.self.inside.parties; time = c.self.inside.time; server = c.self.inside.server; gateway = c.self.inside.gateway; clients = c.self.inside.clients.items; packets = c.self.inside.packets.items } in
    let sound = subst IsSound (sym c.self.view_is) c.requires.sound in
    record { few = sound.few; early = sound.early; server = sound.server; gateway = c.in-Ok.ensures.ready; clients = sound.clients; packets = sound.packets }

pub returns-in-Ok-clause-begins : goal.returns-in-Ok-clause-begins
returns-in-Ok-clause-begins c =
    let inside : PlayedValue = record { parties = c.self.inside.parties; time = c.self.inside.time; server = c.self.inside.server; gateway = c.self.inside.gateway; clients = c.self.inside.clients.items; packets = c.self.inside.packets.items } in
    let now : PlayedValue = record { parties = c.self.inside.parties; time = c.self.inside.time; server = c.self.inside.server; gateway = c.in-Ok.gateway; clients = c.self.inside.clients.items; packets = c.self.inside.packets.items } in
    subst (λ (was : PlayedValue). (settings : SettingsValue) → Goes settings (λ old new. PassesOnWell (plan_with settings was.parties) old incoming.Restart new) was now) c.self.view_is
    (λ settings. leading.reopens settings inside c.in-Ok.gateway c.in-Ok.ensures.restarted)
