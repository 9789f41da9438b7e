use Rattle.std.proofs.Common.{◌≡◌, ◌<◌, ◌∙◌, ℕ, List, length, max, Some, None, slice_get, refl, sym, ap, subst, arith}
use Rattle.std.specs.Prelude.{OnOk, IfOk}
use Rattle.std.specs.List.{range_with_len}
use Rattle.std.proofs.lemmas.Result.{on_ok_weaker}
use Rattle.dots_settings.specs.Settings.{SettingsValue}
use Rattle.dots_host.specs.declared.event.Event.TheVariants as incoming
use Rattle.dots_host.specs.Acts.{event_of}
use Rattle.dots_machine.specs.Machine.{State, Step}
use Rattle.dots_world.specs.OneWorld.{PassesOnWell}
use Rattle.world_play.specs.Parties.{plan_with}
use Rattle.world_play.specs.Playing.{PlayedValue, Goes, IsSound, timed}
use Rattle.world_play.proofs.Leading as leading
use Rattle.world_play.specs.Clients.{AllHanded, ReceivedAt}
use Rattle.world_play.proofs.Routes.{handed_routed, received_routed, sound_changed}
use Rattle.dots_world.specs.declared.plan.PlanClient.{PlanClient}
use Rattle.dots_world.specs.Plans.{to_server, to_gateway}
use Rattle.world_play.specs.Playing.{ComesToServer, ComesToGateway}
use Rattle.world_play.proofs.Handed.{there_at}
use Rattle.world_play.proofs.played.Played.to_gateway.Goals as goal

pub returns-clause-comes : goal.returns-clause-comes
returns-clause-comes c =
    on_ok_weaker c.pass.result
    (λ done settings.
    let is = subst (λ (was : PlayedValue). to_gateway (plan_with settings was.parties) c.args.source ≡ Some c.in-Some.from) c.self.view_is
    (sym (leading.to_gateway_so settings c.self.inside.parties c.args.source) ∙ sym c.for_gateway.ensures ∙ c.in-Some.is) in
    leading.goes_weaker settings (λ old new. PassesOnWell (plan_with settings c.args.self.now.parties) old (incoming.Datagram c.in-Some.from c.args.bytes.now) new) (ComesToGateway (plan_with settings c.args.self.now.parties) c.args.source c.args.bytes.now) c.args.self.now c.pass.new.self (λ old new comes. (c.in-Some.from, is, comes)) (done settings))
    c.pass.ensures.passes
