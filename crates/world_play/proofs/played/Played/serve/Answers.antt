use Rattle.std.proofs.Common.{◌≡◌, ◌∙◌, ℕ, List, length, max, Some, None, slice_get, refl, sym, ap, subst, arith}
use Rattle.std.specs.Prelude.{OnOk, IfOk}
use Rattle.std.specs.List.{range_with_len}
use Rattle.std.proofs.lemmas.Result.{on_ok_weaker}
use Rattle.dots_settings.specs.Settings.{SettingsValue}
use Rattle.dots_host.specs.declared.event.Event.TheVariants as incoming
use Rattle.dots_host.specs.Acts.{event_of}
use Rattle.dots_machine.specs.Machine.{State, Step}
use Rattle.dots_world.specs.Worlds.{Serves}
use Rattle.dots_world.specs.OneWorld.{StepsWell}
use Rattle.world_play.specs.Parties.{plan_with}
use Rattle.world_play.specs.Playing.{PlayedValue, Goes, IsSound, timed}
use Rattle.world_play.proofs.Leading as leading
use Rattle.world_play.proofs.played.Played.serve.Goals as goal

pub returns-clause-serves : goal.returns-clause-serves
returns-clause-serves c =
    let inside : PlayedValue = record { parties = c.self.inside.parties; time = c.self.inside.time; server = c.self.inside.server; gateway = c.self.inside.gateway; clients = c.self.inside.clients.items; packets = c.self.inside.packets.items } in
    let now : PlayedValue = record { parties = c.self.inside.parties; time = c.self.inside.time; server = c.serve.new.self; gateway = c.self.inside.gateway; clients = c.self.inside.clients.items; packets = c.serve.new.packets.items } in
    subst (λ (was : PlayedValue). OnOk c.serve.result ((settings : SettingsValue) → Goes settings (λ old new. Serves (StepsWell (Step settings)) (plan_with settings was.parties) old (event_of c.args.what c.args.room.now) new) was now)) c.self.view_is
    (on_ok_weaker c.serve.result (λ done settings. leading.serves settings inside c.serve.new.self (event_of c.args.what c.args.room.now) c.serve.new.packets.items (done settings)) c.serve.ensures.served)
