use Rattle.std.proofs.Common.{◌≡◌, ◌<◌, ◌∙◌, ℕ, List, length, max, Some, None, slice_get, refl, sym, ap, subst, arith}
use Rattle.std.specs.Prelude.{OnOk, IfOk}
use Rattle.std.specs.List.{range_with_len}
use Rattle.std.proofs.lemmas.Result.{on_ok_weaker}
use Rattle.dots_settings.specs.Settings.{SettingsValue}
use Rattle.dots_host.specs.declared.event.Event.TheVariants as incoming
use Rattle.dots_host.specs.Acts.{event_of}
use Rattle.dots_machine.specs.Machine.{State, Step}
use Rattle.dots_world.specs.Worlds.{Serves}
use Rattle.dots_world.specs.OneWorld.{StepsWell}
use Rattle.world_play.specs.Parties.{plan_with}
use Rattle.world_play.specs.Playing.{PlayedValue, Goes, IsSound, timed}
use Rattle.world_play.proofs.Leading as leading
use Rattle.world_play.specs.Clients.{AllHanded, ReceivedAt}
use Rattle.world_play.proofs.Routes.{handed_routed, received_routed, sound_changed}
use Rattle.dots_world.specs.declared.plan.PlanClient.{PlanClient}
use Rattle.dots_world.specs.Plans.{to_server, to_gateway}
use Rattle.world_play.specs.Playing.{ComesToServer, ComesToGateway}
use Rattle.world_play.proofs.Handed.{there_at}
use Rattle.world_play.proofs.played.Played.tick.Goals as goal

pub returns-clause-begins : goal.returns-clause-begins
returns-clause-begins c =
    let inside : PlayedValue = record { parties = c.self.inside.parties; time = c.self.inside.time; server = c.self.inside.server; gateway = c.self.inside.gateway; clients = c.self.inside.clients.items; packets = c.self.inside.packets.items } in
    subst (λ (was : PlayedValue). OnOk c.serve.result ((settings : SettingsValue) → Goes settings (λ old new. Serves (StepsWell (Step settings)) (plan_with settings was.parties) (timed c.args.at old) incoming.Tick new) was c.serve.new.self)) c.self.view_is
    (on_ok_weaker c.serve.result (λ done settings. leading.goes_later settings inside c.serve.new.self (λ old new. Serves (StepsWell (Step settings)) (plan_with settings c.self.inside.parties) old incoming.Tick new) c.args.at
    (subst (λ time. Goes settings (λ old new. Serves (StepsWell (Step settings)) (plan_with settings c.self.inside.parties) old incoming.Tick new) record { parties = c.self.inside.parties; time = time; server = c.self.inside.server; gateway = c.self.inside.gateway; clients = c.self.inside.clients.items; packets = c.self.inside.packets.items } c.serve.new.self) c.max-self-inside.ensures (done settings))) c.serve.ensures.serves)
