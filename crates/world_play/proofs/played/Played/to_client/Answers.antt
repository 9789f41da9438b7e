use Rattle.std.proofs.Common.{◌≡◌, ◌<◌, ◌∙◌, ℕ, List, length, max, Some, None, slice_get, refl, sym, ap, subst, arith}
use Rattle.std.specs.Prelude.{OnOk, IfOk}
use Rattle.std.specs.List.{range_with_len}
use Rattle.std.proofs.lemmas.Result.{on_ok_weaker}
use Rattle.dots_settings.specs.Settings.{SettingsValue}
use Rattle.dots_host.specs.declared.event.Event.TheVariants as incoming
use Rattle.dots_host.specs.Acts.{event_of}
use Rattle.dots_machine.specs.Machine.{State, Step}
use Rattle.dots_world.specs.OneWorld.{ReceivesWell}
use Rattle.world_play.specs.Parties.{plan_with}
use Rattle.world_play.specs.Playing.{PlayedValue, Goes, IsSound, timed}
use Rattle.world_play.proofs.Leading as leading
use Rattle.world_play.specs.Clients.{AllHanded, ReceivedAt}
use Rattle.world_play.proofs.Routes.{handed_routed, received_routed, sound_changed}
use Rattle.dots_world.specs.declared.plan.PlanClient.{PlanClient}
use Rattle.dots_world.specs.Plans.{to_server, to_gateway}
use Rattle.world_play.specs.Playing.{ComesToServer, ComesToGateway}
use Rattle.world_play.proofs.Handed.{there_at}
use Rattle.world_play.proofs.played.Played.to_client.Goals as goal

pub returns-clause-sound : goal.returns-clause-sound
returns-clause-sound c =
    let inside : PlayedValue = record { parties = c.self.inside.parties; time = c.self.inside.time; server = c.self.inside.server; gateway = c.self.inside.gateway; clients = c.self.inside.clients.items; packets = c.self.inside.packets.items } in
    let sound : IsSound inside = subst IsSound (sym c.self.view_is) c.requires.sound in
    let less = subst (λ (was : PlayedValue). c.args.place < length was.parties.clients) (sym c.self.view_is) c.requires.there in
    on_ok_weaker c.receive_at.result (λ done. sound_changed inside c.receive_at.new.clients.items c.receive_at.new.packets.items sound c.receive_at.ensures.length
    (received_routed c.self.inside.parties c.args.place c.index-items-place.result.behind c.args.bytes.now c.self.inside.time c.self.inside.clients.items c.receive_at.new.clients.items c.self.inside.packets.items c.receive_at.new.packets.items less done))
    (subst (λ (k : PlanClient). OnOk c.receive_at.result (ReceivedAt c.self.inside.clients.items c.args.place k.behind c.args.bytes.now c.self.inside.time c.receive_at.new.clients.items c.self.inside.packets.items c.receive_at.new.packets.items)) (sym c.index-items-place.is) c.receive_at.ensures.received)

pub returns-clause-receives : goal.returns-clause-receives
returns-clause-receives c =
    let less = subst (λ (was : PlayedValue). c.args.place < length was.parties.clients) (sym c.self.view_is) c.requires.there in
    let item = c.index-items-place.result in
    let planned = subst (λ (clients : List PlanClient). slice_get clients c.args.place ≡ Some item) c.items.ensures
    (there_at c.items.result.now c.args.place item (subst (λ (clients : List PlanClient). c.args.place < length clients) (sym c.items.ensures) less) c.index-items-place.is) in
    let inside : PlayedValue = record { parties = c.self.inside.parties; time = c.self.inside.time; server = c.self.inside.server; gateway = c.self.inside.gateway; clients = c.self.inside.clients.items; packets = c.self.inside.packets.items } in
    let now : PlayedValue = record { parties = c.self.inside.parties; time = c.self.inside.time; server = c.self.inside.server; gateway = c.self.inside.gateway; clients = c.receive_at.new.clients.items; packets = c.receive_at.new.packets.items } in
    subst (λ (was : PlayedValue). OnOk c.receive_at.result ((settings : SettingsValue) → Goes settings (λ old new. ReceivesWell {S = State} (plan_with settings was.parties) old c.args.place c.args.bytes.now new) was now)) c.self.view_is
    (on_ok_weaker c.receive_at.result (λ done settings. leading.receives settings inside c.args.place item c.args.bytes.now c.receive_at.new.clients.items c.receive_at.new.packets.items planned done) (subst (λ (k : PlanClient). OnOk c.receive_at.result (ReceivedAt c.self.inside.clients.items c.args.place k.behind c.args.bytes.now c.self.inside.time c.receive_at.new.clients.items c.self.inside.packets.items c.receive_at.new.packets.items)) (sym c.index-items-place.is) c.receive_at.ensures.received))
