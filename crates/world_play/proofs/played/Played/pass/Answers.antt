use Rattle.std.proofs.Common.{◌≡◌, ◌∙◌, ℕ, List, length, max, Some, None, slice_get, refl, sym, ap, subst, arith}
use Rattle.std.specs.Prelude.{OnOk, IfOk}
use Rattle.std.specs.List.{range_with_len}
use Rattle.std.proofs.lemmas.Result.{on_ok_weaker}
use Rattle.dots_settings.specs.Settings.{SettingsValue}
use Rattle.dots_host.specs.declared.event.Event.TheVariants as incoming
use Rattle.dots_host.specs.Acts.{event_of}
use Rattle.dots_machine.specs.Machine.{State, Step}
use Rattle.dots_world.specs.OneWorld.{PassesOnWell}
use Rattle.world_play.specs.Parties.{plan_with}
use Rattle.world_play.specs.Playing.{PlayedValue, Goes, IsSound, timed}
use Rattle.world_play.proofs.Leading as leading
use Rattle.world_play.proofs.played.Played.pass.Goals as goal

pub returns-clause-passes : goal.returns-clause-passes
returns-clause-passes c =
    let inside : PlayedValue = record { parties = c.self.inside.parties; time = c.self.inside.time; server = c.self.inside.server; gateway = c.self.inside.gateway; clients = c.self.inside.clients.items; packets = c.self.inside.packets.items } in
    let now : PlayedValue = record { parties = c.self.inside.parties; time = c.self.inside.time; server = c.self.inside.server; gateway = c.pass.new.self; clients = c.self.inside.clients.items; packets = c.pass.new.packets.items } in
    subst (λ (was : PlayedValue). OnOk c.pass.result ((settings : SettingsValue) → Goes settings (λ old new. PassesOnWell (plan_with settings was.parties) old (incoming.Datagram c.args.from c.args.bytes.now) new) was now)) c.self.view_is
    (on_ok_weaker c.pass.result (λ done settings. leading.passes_on settings inside c.pass.new.self (incoming.Datagram c.args.from c.args.bytes.now) c.pass.new.packets.items done) c.pass.ensures.passed)
