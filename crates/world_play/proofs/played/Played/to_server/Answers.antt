use Rattle.std.proofs.Common.{◌≡◌, ◌<◌, ◌∙◌, ℕ, List, length, max, Some, None, slice_get, refl, sym, ap, subst, arith}
use Rattle.std.specs.Prelude.{OnOk, IfOk}
use Rattle.std.specs.List.{range_with_len}
use Rattle.std.proofs.lemmas.Result.{on_ok_weaker}
use Rattle.dots_settings.specs.Settings.{SettingsValue}
use Rattle.dots_host.specs.declared.event.Event.TheVariants as incoming
use Rattle.dots_host.specs.Acts.{event_of}
use Rattle.dots_machine.specs.Machine.{State, Step}
use Rattle.dots_world.specs.Worlds.{Serves}
use Rattle.dots_world.specs.OneWorld.{StepsWell}
use Rattle.world_play.specs.Parties.{plan_with}
use Rattle.world_play.specs.Playing.{PlayedValue, Goes, IsSound, timed}
use Rattle.world_play.proofs.Leading as leading
use Rattle.world_play.specs.Clients.{AllHanded, ReceivedAt}
use Rattle.world_play.proofs.Routes.{handed_routed, received_routed, sound_changed}
use Rattle.dots_world.specs.declared.plan.PlanClient.{PlanClient}
use Rattle.dots_world.specs.Plans.{to_server, to_gateway}
use Rattle.world_play.specs.Playing.{ComesToServer, ComesToGateway}
use Rattle.world_play.proofs.Handed.{there_at}
use Rattle.std.proofs.Common.{take}
use Rattle.std.proofs.lemmas.List.{take_all}
use Rattle.world_play.proofs.played.Played.to_server.Goals as goal

pub returns-clause-comes : goal.returns-clause-comes
returns-clause-comes c =
    let whole = take_all (length c.args.bytes.now) c.args.bytes.now (omega arith) in
    on_ok_weaker c.serve.result
    (λ done settings.
    let is = subst (λ (was : PlayedValue). to_server (plan_with settings was.parties) c.args.source ≡ Some c.in-Some.from) c.self.view_is
    (sym (leading.to_server_so settings c.self.inside.parties c.args.source) ∙ sym c.for_server.ensures ∙ c.in-Some.is) in
    leading.goes_weaker settings (λ old new. Serves (StepsWell (Step settings)) (plan_with settings c.args.self.now.parties) old (incoming.Datagram c.in-Some.from c.args.bytes.now) new)
    (λ old new. ComesToServer (StepsWell (Step settings)) (plan_with settings c.args.self.now.parties) old c.args.source c.args.bytes.now new) c.args.self.now c.serve.new.self (λ old new comes. (c.in-Some.from, is, comes))
    (subst (λ bytes. Goes settings (λ old new. Serves (StepsWell (Step settings)) (plan_with settings c.args.self.now.parties) old (incoming.Datagram c.in-Some.from bytes) new) c.args.self.now c.serve.new.self) whole (done settings)))
    c.serve.ensures.serves
