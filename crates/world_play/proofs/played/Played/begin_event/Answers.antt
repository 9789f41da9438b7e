use Rattle.std.proofs.Common.{◌≡◌, ◌<◌, ◌∙◌, ℕ, List, length, max, Some, None, slice_get, refl, sym, ap, subst, arith}
use Rattle.std.specs.Prelude.{OnOk, IfOk}
use Rattle.std.specs.List.{range_with_len}
use Rattle.std.proofs.lemmas.Result.{on_ok_weaker}
use Rattle.dots_settings.specs.Settings.{SettingsValue}
use Rattle.dots_host.specs.declared.event.Event.TheVariants as incoming
use Rattle.dots_host.specs.Acts.{event_of}
use Rattle.dots_machine.specs.Machine.{State, Step}
use Rattle.dots_world.specs.Worlds.{Serves}
use Rattle.dots_world.specs.OneWorld.{StepsWell, PassesOnWell}
use Rattle.world_play.specs.Parties.{plan_with}
use Rattle.world_play.specs.Playing.{PlayedValue, Goes, IsSound, timed}
use Rattle.world_play.proofs.Leading as leading
use Rattle.world_play.specs.Clients.{AllHanded, ReceivedAt}
use Rattle.world_play.proofs.Routes.{handed_routed, received_routed, sound_changed}
use Rattle.dots_world.specs.declared.plan.PlanClient.{PlanClient}
use Rattle.dots_world.specs.Plans.{to_server, to_gateway}
use Rattle.world_play.specs.Playing.{ComesToServer, ComesToGateway}
use Rattle.world_play.proofs.Handed.{there_at}
use Rattle.std.proofs.Common.{take}
use Rattle.std.proofs.lemmas.List.{take_all}
use Rattle.dots_world.specs.declared.party.Packet.{Packet}
use Rattle.dots_world.specs.declared.party.Party.TheVariants.{Client as a_client, Gateway as the_gateway, Server as the_server}
use Rattle.dots_world.specs.declared.event.WorldEvent.TheVariants as what_comes
use Rattle.world_play.specs.Playing.{ComesSo, BeginsSo, HappensSo, RunsSo}
use Rattle.world_play.proofs.Handed.{none_at}
use Rattle.dots_machine.specs.Answering.{AreBytes}
use Rattle.std.proofs.lemmas.Result.{IfOk-weaker}
use Rattle.world_play.proofs.played.Played.begin_event.Goals as goal

pub take-requires : goal.take-requires
take-requires c =
    record { sound = c.requires.sound; early = c.requires.early; taken = leading.is_taken c.args.event.now c.in_default.not-Restart c.in_default.not-GatewayRestart }

pub returns-in-Restart-clause-begins : goal.returns-in-Restart-clause-begins
returns-in-Restart-clause-begins c =
    IfOk-weaker c.restart_server.result (λ (played : PlayedValue). (settings : SettingsValue) → Goes settings (λ old new. Serves (StepsWell (Step settings)) (plan_with settings c.args.self.parties) old incoming.Restart new) c.args.self played) (λ (played : PlayedValue). (settings : SettingsValue) → Goes settings (BeginsSo settings c.args.self.parties c.args.event.now) c.args.self played)
    (λ played done settings. subst (λ given. Goes settings (BeginsSo settings c.args.self.parties given) c.args.self played) (sym c.in-Restart.is)
    (leading.goes_weaker settings (λ old new. Serves (StepsWell (Step settings)) (plan_with settings c.args.self.parties) old incoming.Restart new) (BeginsSo settings c.args.self.parties what_comes.Restart) c.args.self played (leading.begins_restart settings c.args.self.parties) (done settings)))
    c.restart_server.ensures.begins

pub returns-in-GatewayRestart-clause-begins : goal.returns-in-GatewayRestart-clause-begins
returns-in-GatewayRestart-clause-begins c =
    IfOk-weaker c.restart_gateway.result (λ (played : PlayedValue). (settings : SettingsValue) → Goes settings (λ old new. PassesOnWell (plan_with settings c.args.self.parties) old incoming.Restart new) c.args.self played) (λ (played : PlayedValue). (settings : SettingsValue) → Goes settings (BeginsSo settings c.args.self.parties c.args.event.now) c.args.self played)
    (λ played done settings. subst (λ given. Goes settings (BeginsSo settings c.args.self.parties given) c.args.self played) (sym c.in-GatewayRestart.is)
    (leading.goes_weaker settings (λ old new. PassesOnWell (plan_with settings c.args.self.parties) old incoming.Restart new) (BeginsSo settings c.args.self.parties what_comes.GatewayRestart) c.args.self played (leading.begins_reopen settings c.args.self.parties) (done settings)))
    c.restart_gateway.ensures.begins
