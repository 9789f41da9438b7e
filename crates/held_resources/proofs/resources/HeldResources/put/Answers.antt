use Rattle.std.proofs.Common.{ap, ◌∙◌, sym}
use Rattle.std.specs.Prelude.{slice_get}
use Rattle.held_resources.specs.Tables.{Tables, tables_with}
use Rattle.held_resources.proofs.HistoryTables.{fields_with}
use Rattle.held_resources.proofs.resources.HeldResources.put.Goals as goal

pub change_clients-requires : goal.change_clients-requires
change_clients-requires c =
    λ clients some. c.requires.takes clients (ap (λ (t : Tables). slice_get t.clients c.args.entry.domain) (sym c.self.view_is) ∙ some)

pub returns : goal.returns
returns c =
    fields_with c.self.inside.rooms c.self.inside.domains.items _ c.self.inside.configurations.items _ c.self.inside.signals.items _ c.self.inside.slots _ (record { entry = c.args.entry; slot = c.args.slot })
    c.change_clients.ensures c.configure.ensures c.note.ensures c.take.ensures
    ∙ ap (tables_with (record { entry = c.args.entry; slot = c.args.slot })) c.self.view_is
