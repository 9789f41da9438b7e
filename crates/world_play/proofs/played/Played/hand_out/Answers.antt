use Rattle.std.proofs.Common.{◌≡◌, ◌∙◌, ℕ, List, length, max, Some, None, slice_get, refl, sym, ap, subst, arith}
use Rattle.std.specs.Prelude.{OnOk, IfOk}
use Rattle.std.specs.List.{range_with_len}
use Rattle.std.proofs.lemmas.Result.{on_ok_weaker}
use Rattle.dots_settings.specs.Settings.{SettingsValue}
use Rattle.dots_host.specs.declared.event.Event.TheVariants as incoming
use Rattle.dots_host.specs.Acts.{event_of}
use Rattle.dots_machine.specs.Machine.{State, Step}
use Rattle.dots_world.specs.Worlds.{World, Serves, PassesOn, AsksFor, ReceivesPacket, AllHandOut}
use Rattle.world_play.specs.Parties.{plan_with}
use Rattle.world_play.specs.Playing.{PlayedValue, Goes, IsSound, timed}
use Rattle.world_play.proofs.Leading as leading
use Rattle.world_play.specs.Clients.{AllHanded, ReceivedAt}
use Rattle.world_play.proofs.Routes.{handed_routed, received_routed, sound_changed}
use Rattle.world_play.proofs.played.Played.hand_out.Goals as goal

pub returns-clause-sound : goal.returns-clause-sound
returns-clause-sound c =
    let inside : PlayedValue = record { parties = c.self.inside.parties; time = c.self.inside.time; server = c.self.inside.server; gateway = c.self.inside.gateway; clients = c.self.inside.clients.items; packets = c.self.inside.packets.items } in
    let sound : IsSound inside = subst IsSound (sym c.self.view_is) c.requires.sound in
    on_ok_weaker c.hand_all_out.result (λ done. sound_changed inside c.hand_all_out.new.clients.items c.hand_all_out.new.packets.items sound c.hand_all_out.ensures.length
    (handed_routed c.self.inside.parties c.self.inside.time (range_with_len 0 (length c.self.inside.parties.clients)) c.self.inside.clients.items c.hand_all_out.new.clients.items c.self.inside.packets.items c.hand_all_out.new.packets.items (subst (λ clients. AllHanded clients c.self.inside.time (range_with_len 0 (length clients)) c.self.inside.clients.items c.self.inside.packets.items c.hand_all_out.new.clients.items c.hand_all_out.new.packets.items) c.items.ensures done)))
    c.hand_all_out.ensures.handed

pub returns-clause-hands : goal.returns-clause-hands
returns-clause-hands c =
    let inside : PlayedValue = record { parties = c.self.inside.parties; time = c.self.inside.time; server = c.self.inside.server; gateway = c.self.inside.gateway; clients = c.self.inside.clients.items; packets = c.self.inside.packets.items } in
    let now : PlayedValue = record { parties = c.self.inside.parties; time = c.self.inside.time; server = c.self.inside.server; gateway = c.self.inside.gateway; clients = c.hand_all_out.new.clients.items; packets = c.hand_all_out.new.packets.items } in
    subst (λ (was : PlayedValue). OnOk c.hand_all_out.result ((settings : SettingsValue) → Goes settings (λ old new. AllHandOut (plan_with settings was.parties) (range_with_len 0 (length was.parties.clients)) old new) was now)) c.self.view_is
    (on_ok_weaker c.hand_all_out.result (λ done settings. leading.hand_out settings inside c.hand_all_out.new.clients.items c.hand_all_out.new.packets.items (subst (λ clients. AllHanded clients c.self.inside.time (range_with_len 0 (length clients)) c.self.inside.clients.items c.self.inside.packets.items c.hand_all_out.new.clients.items c.hand_all_out.new.packets.items) c.items.ensures done)) c.hand_all_out.ensures.handed)
