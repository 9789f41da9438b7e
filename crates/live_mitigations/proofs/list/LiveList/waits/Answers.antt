use Rattle.std.proofs.Common.{ap, ◌∙◌, rules, tests}
use Rattle.std.specs.Prelude.{◌==◌, ◌&&◌}
use Rattle.std.specs.List.{list_any}
use Rattle.std.proofs.lemmas.Iterator.{YieldsList-from_slice}
use Rattle.std.proofs.lemmas.Iterator.Search.{any_from_yields_List}
use Rattle.dots_history.specs.Histories.{Mitigation}
use Rattle.dots_history.specs.Rows.{waits}
use Rattle.live_mitigations.specs.declared.live_row.LiveRow.{LiveRow}
use Rattle.live_mitigations.specs.Rows.{LiveTable}
use Rattle.live_mitigations.proofs.LiveRows.{any_alike}
use Rattle.live_mitigations.proofs.list.LiveList.waits.Goals as goal

pub returns : goal.returns
returns c =
    any_from_yields_List (λ (row : LiveRow). (row.mitigation.put.peer == c.args.peer) && waits row.mitigation.put.change) _ _ _ c.any.ensures.ran
    (YieldsList-from_slice c.self.inside.rows.items cc) (λ x b q k. search (rules, tests))
    ∙ any_alike (λ (m : Mitigation). (m.put.peer == c.args.peer) && waits m.put.change) c.self.inside.rows.items
    ∙ ap (λ (t : LiveTable). list_any (λ (m : Mitigation). (m.put.peer == c.args.peer) && waits m.put.change) t.rows) c.self.view_is
