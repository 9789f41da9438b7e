use Rattle.std.proofs.Common.{◌≡◌, ◌<◌, ◌∙◌, ℕ, List, length, max, Some, None, slice_get, refl, sym, ap, subst, arith}
use Rattle.std.specs.Prelude.{OnOk, IfOk}
use Rattle.std.specs.List.{range_with_len}
use Rattle.std.proofs.lemmas.Result.{on_ok_weaker}
use Rattle.dots_settings.specs.Settings.{SettingsValue}
use Rattle.dots_host.specs.declared.event.Event.TheVariants as incoming
use Rattle.dots_host.specs.Acts.{event_of}
use Rattle.dots_machine.specs.Machine.{State, Step}
use Rattle.dots_world.specs.Worlds.{Serves, AsksFor}
use Rattle.dots_world.specs.OneWorld.{StepsWell}
use Rattle.world_play.specs.Parties.{plan_with}
use Rattle.world_play.specs.Playing.{PlayedValue, Goes, IsSound, timed}
use Rattle.world_play.proofs.Leading as leading
use Rattle.world_play.specs.Clients.{AllHanded, ReceivedAt}
use Rattle.world_play.proofs.Routes.{handed_routed, received_routed, sound_changed}
use Rattle.dots_world.specs.declared.plan.PlanClient.{PlanClient}
use Rattle.dots_world.specs.Plans.{to_server, to_gateway}
use Rattle.world_play.specs.Playing.{ComesToServer, ComesToGateway}
use Rattle.world_play.proofs.Handed.{there_at}
use Rattle.std.proofs.Common.{take}
use Rattle.std.proofs.lemmas.List.{take_all}
use Rattle.dots_world.specs.declared.party.Packet.{Packet}
use Rattle.dots_world.specs.declared.party.Party.TheVariants.{Client as a_client, Gateway as the_gateway, Server as the_server}
use Rattle.dots_world.specs.declared.event.WorldEvent.TheVariants as what_comes
use Rattle.world_play.specs.Playing.{ComesSo, BeginsSo, HappensSo, RunsSo}
use Rattle.world_play.proofs.Handed.{none_at}
use Rattle.world_play.proofs.played.Played.take.Goals as goal

pub returns-in-Ask-clause-begins : goal.returns-in-Ask-clause-begins
returns-in-Ask-clause-begins c =
    on_ok_weaker c.ask.result
    (λ done settings. subst (λ given. Goes settings (BeginsSo settings c.args.self.now.parties given) c.args.self.now c.ask.new.self) (sym c.in-Ask.is)
    (leading.goes_weaker settings (λ old new. AsksFor (plan_with settings c.args.self.now.parties) old c.in-Ask.client c.in-Ask.ask new) (BeginsSo settings c.args.self.now.parties (what_comes.Ask c.in-Ask.client c.in-Ask.ask)) c.args.self.now c.ask.new.self (leading.begins_ask settings c.args.self.now.parties c.in-Ask.client c.in-Ask.ask) (done settings)))
    c.ask.ensures.begins

pub returns-in-Tick-clause-begins : goal.returns-in-Tick-clause-begins
returns-in-Tick-clause-begins c =
    on_ok_weaker c.tick.result
    (λ done settings. subst (λ given. Goes settings (BeginsSo settings c.args.self.now.parties given) c.args.self.now c.tick.new.self) (sym c.in-Tick.is)
    (leading.goes_weaker settings (λ old new. Serves (StepsWell (Step settings)) (plan_with settings c.args.self.now.parties) (timed c.in-Tick.at old) incoming.Tick new) (BeginsSo settings c.args.self.now.parties (what_comes.Tick c.in-Tick.at)) c.args.self.now c.tick.new.self (leading.begins_tick settings c.args.self.now.parties c.in-Tick.at) (done settings)))
    c.tick.ensures.begins
