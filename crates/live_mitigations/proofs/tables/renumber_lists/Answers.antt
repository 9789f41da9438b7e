use Rattle.std.proofs.Common.{set, ap, sym, ◌∙◌}
use Rattle.std.proofs.lemmas.List.Edits.{map_over_more}
use Rattle.live_mitigations.specs.Numbers.{table_renumbered}
use Rattle.live_mitigations.proofs.tables.renumber_lists.Goals as goal

pub loop-list-preserved : goal.loop-list-preserved
loop-list-preserved c =
    ap (set c.loop-list.lists c.loop-list.list-index) (c.renumber.ensures ∙ ap (table_renumbered c.args.keep.now) (sym c.list-item.is))
    ∙ map_over_more (table_renumbered c.args.keep.now) _ _ _ _ c.loop-list-test.true c.loop-list.invariant c.list-item.is
