use Rattle.live_mitigations.specs.Rows.{grown}
use Rattle.live_mitigations.proofs.Updates.{set_changed}
use Rattle.live_mitigations.proofs.tables.LiveTables.put.Goals as goal

pub returns : goal.returns
returns c =
    set_changed (grown (record { entry = c.args.entry; slot = c.args.slot })) c.from.result c.args.entry.domain c.self.inside.lists.items c.args.self.now c.index_mut-list.result.now c.put.new.self
    c.from.ensures c.self.view_is c.index_mut-list.ensures.value c.put.ensures
