use Rattle.std.proofs.Common.{◌≡◌, ◌<◌, ◌∙◌, ℕ, List, length, max, Some, None, slice_get, refl, sym, ap, subst, arith}
use Rattle.std.specs.Prelude.{OnOk, IfOk}
use Rattle.std.specs.List.{range_with_len}
use Rattle.std.proofs.lemmas.Result.{on_ok_weaker}
use Rattle.dots_settings.specs.Settings.{SettingsValue}
use Rattle.dots_host.specs.declared.event.Event.TheVariants as incoming
use Rattle.dots_host.specs.Acts.{event_of}
use Rattle.dots_machine.specs.Machine.{State, Step}
use Rattle.dots_world.specs.OneWorld.{StepsWell, ReceivesWell}
use Rattle.world_play.specs.Parties.{plan_with}
use Rattle.world_play.specs.Playing.{PlayedValue, Goes, IsSound, timed}
use Rattle.world_play.proofs.Leading as leading
use Rattle.world_play.specs.Clients.{AllHanded, ReceivedAt}
use Rattle.world_play.proofs.Routes.{handed_routed, received_routed, sound_changed}
use Rattle.dots_world.specs.declared.plan.PlanClient.{PlanClient}
use Rattle.dots_world.specs.Plans.{to_server, to_gateway}
use Rattle.world_play.specs.Playing.{ComesToServer, ComesToGateway}
use Rattle.world_play.proofs.Handed.{there_at}
use Rattle.std.proofs.Common.{take}
use Rattle.std.proofs.lemmas.List.{take_all}
use Rattle.dots_world.specs.declared.party.Packet.{Packet}
use Rattle.dots_world.specs.declared.party.Party.TheVariants.{Client as a_client, Gateway as the_gateway, Server as the_server}
use Rattle.dots_world.specs.declared.event.WorldEvent.TheVariants as what_comes
use Rattle.world_play.specs.Playing.{ComesSo, BeginsSo, HappensSo, RunsSo}
use Rattle.world_play.proofs.Handed.{none_at}
use Rattle.world_play.proofs.played.Played.come_to.Goals as goal

pub returns-in-Server-clause-comes : goal.returns-in-Server-clause-comes
returns-in-Server-clause-comes c =
    on_ok_weaker c.to_server.result
    (λ done settings. subst (λ given. Goes settings (ComesSo settings c.args.self.now.parties c.args.source (Some given) c.args.bytes.now) c.args.self.now c.to_server.new.self) (sym c.in-Server.is)
    (leading.goes_weaker settings (λ old new. ComesToServer (StepsWell (Step settings)) (plan_with settings c.args.self.now.parties) old c.args.source c.args.bytes.now new) (ComesSo settings c.args.self.now.parties c.args.source (Some the_server) c.args.bytes.now) c.args.self.now c.to_server.new.self (leading.comes_to_server settings c.args.self.now.parties c.args.source c.args.bytes.now) (done settings)))
    c.to_server.ensures.comes

pub returns-in-Gateway-clause-comes : goal.returns-in-Gateway-clause-comes
returns-in-Gateway-clause-comes c =
    on_ok_weaker c.to_gateway.result
    (λ done settings. subst (λ given. Goes settings (ComesSo settings c.args.self.now.parties c.args.source (Some given) c.args.bytes.now) c.args.self.now c.to_gateway.new.self) (sym c.in-Gateway.is)
    (leading.goes_weaker settings (ComesToGateway (plan_with settings c.args.self.now.parties) c.args.source c.args.bytes.now) (ComesSo settings c.args.self.now.parties c.args.source (Some the_gateway) c.args.bytes.now) c.args.self.now c.to_gateway.new.self (leading.comes_to_gateway settings c.args.self.now.parties c.args.source c.args.bytes.now) (done settings)))
    c.to_gateway.ensures.comes

pub returns-in-Client-clause-comes : goal.returns-in-Client-clause-comes
returns-in-Client-clause-comes c =
    on_ok_weaker c.to_client.result
    (λ done settings. subst (λ given. Goes settings (ComesSo settings c.args.self.now.parties c.args.source (Some given) c.args.bytes.now) c.args.self.now c.to_client.new.self) (sym c.in-Client.is)
    (leading.goes_weaker settings (λ old new. ReceivesWell {S = State} (plan_with settings c.args.self.now.parties) old c.in-Client.place c.args.bytes.now new) (ComesSo settings c.args.self.now.parties c.args.source (Some (a_client c.in-Client.place)) c.args.bytes.now) c.args.self.now c.to_client.new.self (leading.comes_to_client settings c.args.self.now.parties c.args.source c.in-Client.place c.args.bytes.now) (done settings)))
    c.to_client.ensures.receives
