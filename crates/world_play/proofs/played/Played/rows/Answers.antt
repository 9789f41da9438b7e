use Rattle.std.proofs.Common.{◌≡◌, ◌∙◌, ℕ, List, length, filter, sym, ap, subst}
use Rattle.std.proofs.lemmas.Result.{IfOk-weaker}
use Rattle.acl_lists.specs.declared.rows.ScrubRow.{ScrubRow}
use Rattle.filter_table.specs.TableRows.{is_active, active_rows}
use Rattle.dots_settings.specs.Settings.{SettingsValue}
use Rattle.dots_history.specs.Rows.{plain_rows}
use Rattle.dots_registry.specs.RegistryValues.{RegistryValue}
use Rattle.dots_registry.specs.RegistryValues as registry
use Rattle.dots_machine.specs.Machine.{State}
use Rattle.dots_world.specs.Worlds.{World}
use Rattle.world_play.specs.Playing.{PlayedValue, PlaysAs}
use Rattle.world_play.specs.Rows.{rows_of}
use Rattle.world_play.proofs.played.Played.rows.Goals as goal

pub returns : goal.returns
returns c =
    let inside : PlayedValue = record { parties = c.self.inside.parties; time = c.self.inside.time; server = c.self.inside.server; gateway = c.self.inside.gateway; clients = c.self.inside.clients.items; packets = c.self.inside.packets.items } in
    IfOk-weaker c.count_rows.result (λ (rows : ℕ). rows ≡ length (active_rows c.filters.result.now.scrubs)) (λ (rows : ℕ). (settings : SettingsValue) (world : World State) → PlaysAs settings c.args.self.now world → rows ≡ rows_of world.server)
    (λ rows is settings world plays.
    let so : PlaysAs settings inside world = subst (λ (was : PlayedValue). PlaysAs settings was world) (sym c.self.view_is) plays in
    let stands = so.server.kept.represents.represents in
    let history = world.server.history in
    let listed =
    c.filters.ensures.scrubs history (subst (λ (r : RegistryValue). registry.Represents r history) (sym c.registry.ensures) stands.registry)
    ∙ ap (λ (r : RegistryValue). plain_rows (registry.time_of r) history) c.registry.ensures
    ∙ ap (λ (t : ℕ). plain_rows t history) stands.time_is in
    is ∙ ap (λ (rows : List ScrubRow). length (filter is_active rows)) listed)
    c.count_rows.ensures
