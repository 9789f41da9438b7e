use Rattle.live_mitigations.specs.Rows.{noted}
use Rattle.live_mitigations.proofs.Updates.{set_changed}
use Rattle.live_mitigations.proofs.tables.LiveTables.note.Goals as goal

pub returns : goal.returns
returns c =
    set_changed (noted (record { entry = c.args.entry.now; slot = c.args.slot })) c.from.result c.args.entry.now.domain c.self.inside.lists.items c.args.self.now c.index_mut-list.result.now c.note.new.self
    c.from.ensures c.self.view_is c.index_mut-list.ensures.value c.note.ensures
