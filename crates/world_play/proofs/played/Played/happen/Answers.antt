use Rattle.std.proofs.Common.{◌≡◌, ◌<◌, ◌∙◌, ℕ, List, length, max, Some, None, slice_get, refl, sym, ap, subst, arith}
use Rattle.std.specs.Prelude.{OnOk, IfOk}
use Rattle.std.specs.List.{range_with_len}
use Rattle.std.proofs.lemmas.Result.{on_ok_weaker}
use Rattle.dots_settings.specs.Settings.{SettingsValue}
use Rattle.dots_host.specs.declared.event.Event.TheVariants as incoming
use Rattle.dots_host.specs.Acts.{event_of}
use Rattle.dots_machine.specs.Machine.{State, Step}
use Rattle.dots_world.specs.Worlds.{World, Serves, PassesOn, AsksFor, ReceivesPacket, AllHandOut}
use Rattle.world_play.specs.declared.parties.Parties.{Parties}
use Rattle.world_play.specs.Parties.{plan_with}
use Rattle.world_play.specs.Playing.{PlayedValue, Goes, IsSound, timed}
use Rattle.world_play.proofs.Leading as leading
use Rattle.world_play.specs.Clients.{AllHanded, ReceivedAt}
use Rattle.world_play.proofs.Routes.{handed_routed, received_routed, sound_changed}
use Rattle.dots_world.specs.declared.plan.PlanClient.{PlanClient}
use Rattle.dots_world.specs.Plans.{to_server, to_gateway}
use Rattle.world_play.specs.Playing.{ComesToServer, ComesToGateway}
use Rattle.world_play.proofs.Handed.{there_at}
use Rattle.std.proofs.Common.{take}
use Rattle.std.proofs.lemmas.List.{take_all}
use Rattle.dots_world.specs.declared.party.Packet.{Packet}
use Rattle.dots_world.specs.declared.party.Party.TheVariants.{Client as a_client, Gateway as the_gateway, Server as the_server}
use Rattle.dots_world.specs.declared.event.WorldEvent.TheVariants as what_comes
use Rattle.world_play.specs.Playing.{ComesSo, BeginsSo, HappensSo, RunsSo}
use Rattle.world_play.proofs.Handed.{none_at}
use Rattle.dots_machine.specs.Answering.{AreBytes}
use Rattle.world_play.proofs.played.Played.happen.Goals as goal

pub returns-in-Ok-hand_out-clause-happens : goal.returns-in-Ok-hand_out-clause-happens
returns-in-Ok-hand_out-clause-happens c =
    λ settings.
    leading.goes_then settings (BeginsSo settings c.args.self.parties c.args.event.now) (λ old next. AllHandOut {S = State} (plan_with settings c.args.self.parties) (range_with_len 0 (length c.args.self.parties.clients)) old next) (HappensSo settings c.args.self.parties c.args.event.now) c.args.self c.in-Ok.played c.hand_out.new.self
    (leading.happens_by settings c.args.self.parties c.args.event.now) (c.in-Ok.ensures.begins settings)
    (subst (λ (parties : Parties). Goes settings (λ old next. AllHandOut {S = State} (plan_with settings parties) (range_with_len 0 (length parties.clients)) old next) c.in-Ok.played c.hand_out.new.self) c.in-Ok.ensures.parties (c.in-Ok-hand_out.ensures.hands settings))
