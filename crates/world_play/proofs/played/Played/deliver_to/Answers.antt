use Rattle.std.proofs.Common.{◌≡◌, ◌<◌, ◌∙◌, ℕ, List, length, max, Some, None, slice_get, refl, sym, ap, subst, arith}
use Rattle.std.specs.Prelude.{OnOk, IfOk}
use Rattle.std.specs.List.{range_with_len}
use Rattle.std.proofs.lemmas.Result.{on_ok_weaker}
use Rattle.dots_settings.specs.Settings.{SettingsValue}
use Rattle.dots_host.specs.declared.event.Event.TheVariants as incoming
use Rattle.dots_host.specs.Acts.{event_of}
use Rattle.dots_machine.specs.Machine.{State, Step}
use Rattle.dots_world.specs.Worlds.{World, Serves, PassesOn, AsksFor, ReceivesPacket, AllHandOut}
use Rattle.world_play.specs.Parties.{plan_with}
use Rattle.world_play.specs.Playing.{PlayedValue, Goes, IsSound, timed}
use Rattle.world_play.proofs.Leading as leading
use Rattle.world_play.specs.Clients.{AllHanded, ReceivedAt}
use Rattle.world_play.proofs.Routes.{handed_routed, received_routed, sound_changed}
use Rattle.dots_world.specs.declared.plan.PlanClient.{PlanClient}
use Rattle.dots_world.specs.Plans.{to_server, to_gateway}
use Rattle.world_play.specs.Playing.{ComesToServer, ComesToGateway}
use Rattle.world_play.proofs.Handed.{there_at}
use Rattle.std.proofs.Common.{take}
use Rattle.std.proofs.lemmas.List.{take_all}
use Rattle.dots_world.specs.declared.party.Packet.{Packet}
use Rattle.dots_world.specs.declared.party.Party.TheVariants.{Client as a_client, Gateway as the_gateway, Server as the_server}
use Rattle.dots_world.specs.declared.event.WorldEvent.TheVariants as what_comes
use Rattle.world_play.specs.Playing.{ComesSo, BeginsSo, HappensSo, RunsSo}
use Rattle.world_play.proofs.Handed.{none_at}
use Rattle.world_play.proofs.played.Played.deliver_to.Goals as goal

pub returns-in-None-clause-comes : goal.returns-in-None-clause-comes
returns-in-None-clause-comes c =
    λ settings. subst (λ given. Goes settings (ComesSo settings c.args.self.now.parties c.args.source given c.args.bytes.now) c.args.self.now c.args.self.now) (sym c.in-None.is)
    (leading.goes_nowhere settings (ComesSo settings c.args.self.now.parties c.args.source None c.args.bytes.now) c.args.self.now (leading.comes_nowhere settings c.args.self.now.parties c.args.source c.args.bytes.now))

pub returns-in-Some-clause-comes : goal.returns-in-Some-clause-comes
returns-in-Some-clause-comes c =
    on_ok_weaker c.come_to.result (λ done settings. subst (λ given. Goes settings (ComesSo settings c.args.self.now.parties c.args.source given c.args.bytes.now) c.args.self.now c.come_to.new.self) (sym c.in-Some.is) (done settings)) c.come_to.ensures.comes
