use Rattle.std.proofs.Common.{◌≡◌, ◌<◌, ◌∙◌, ℕ, List, length, max, Some, None, slice_get, refl, sym, ap, subst, arith}
use Rattle.std.specs.Prelude.{OnOk, IfOk}
use Rattle.std.specs.List.{range_with_len}
use Rattle.std.proofs.lemmas.Result.{on_ok_weaker}
use Rattle.dots_settings.specs.Settings.{SettingsValue}
use Rattle.dots_host.specs.declared.event.Event.TheVariants as incoming
use Rattle.dots_host.specs.Acts.{event_of}
use Rattle.dots_machine.specs.Machine.{State, Step}
use Rattle.dots_world.specs.Worlds.{World, Serves, PassesOn, AsksFor, ReceivesPacket, AllHandOut}
use Rattle.world_play.specs.Parties.{plan_with}
use Rattle.world_play.specs.Playing.{PlayedValue, Goes, IsSound, timed}
use Rattle.world_play.proofs.Leading as leading
use Rattle.world_play.specs.Clients.{AllHanded, ReceivedAt}
use Rattle.world_play.proofs.Routes.{handed_routed, received_routed, sound_changed}
use Rattle.dots_world.specs.declared.plan.PlanClient.{PlanClient}
use Rattle.dots_world.specs.Plans.{to_server, to_gateway}
use Rattle.world_play.specs.Playing.{ComesToServer, ComesToGateway}
use Rattle.world_play.proofs.Handed.{there_at}
use Rattle.std.proofs.Common.{take}
use Rattle.std.proofs.lemmas.List.{take_all}
use Rattle.dots_world.specs.declared.party.Packet.{Packet}
use Rattle.dots_world.specs.declared.party.Party.TheVariants.{Client as a_client, Gateway as the_gateway, Server as the_server}
use Rattle.dots_world.specs.declared.event.WorldEvent.TheVariants as what_comes
use Rattle.world_play.specs.Playing.{ComesSo, BeginsSo, HappensSo, RunsSo}
use Rattle.world_play.proofs.Handed.{none_at}
use Rattle.dots_machine.specs.Answering.{AreBytes}
use Rattle.world_play.proofs.played.Played.deliver.Goals as goal

pub returns-then-place-len-clause-begins : goal.returns-then-place-len-clause-begins
returns-then-place-len-clause-begins c =
    let inside : PlayedValue = record { parties = c.self.inside.parties; time = c.self.inside.time; server = c.self.inside.server; gateway = c.self.inside.gateway; clients = c.self.inside.clients.items; packets = c.self.inside.packets.items } in
    let none = none_at c.self.inside.packets.items c.args.number (λ less. omega (arith, less, c.if-place-len.true, c.len.ensures)) in
    subst (λ (was : PlayedValue). (settings : SettingsValue) → Goes settings (BeginsSo settings was.parties (what_comes.Deliver c.args.number)) was was) c.self.view_is
    (λ settings. leading.undelivered settings inside c.args.number none)

pub returns-clause-begins : goal.returns-clause-begins
returns-clause-begins c =
    let packet = c.index-packet.result.now in
    let there = there_at c.self.inside.packets.items c.args.number packet (omega (arith, c.if-place-len.false, c.len.ensures)) c.index-packet.ensures in
    let found = subst (λ (was : PlayedValue). slice_get was.packets c.args.number ≡ Some packet) c.self.view_is there in
    let same = c.items.ensures ∙ c.in_ok-bytes.ensures in
    on_ok_weaker c.deliver_to.result
    (λ done settings. leading.delivered settings c.args.self.now c.deliver_to.new.self c.args.number packet found (subst (λ bytes. AreBytes bytes) same c.deliver_to.ensures.bytes)
    (subst (λ bytes. Goes settings (ComesSo settings c.args.self.now.parties packet.source packet.target bytes) c.args.self.now c.deliver_to.new.self) same (done settings)))
    c.deliver_to.ensures.comes
