use Rattle.live_mitigations.specs.Rows.{aged}
use Rattle.live_mitigations.proofs.Updates.{set_changed}
use Rattle.live_mitigations.proofs.tables.LiveTables.expire.Goals as goal

pub returns : goal.returns
returns c =
    set_changed (aged c.args.now) c.from.result c.args.domain c.self.inside.lists.items c.args.self.now c.index_mut-list.result.now c.expire.new.self
    c.from.ensures c.self.view_is c.index_mut-list.ensures.value c.expire.ensures
