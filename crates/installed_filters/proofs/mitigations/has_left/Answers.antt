use Rattle.std.proofs.Common.{◌∙◌, rules, tests}
use Rattle.std.specs.Prelude.{bytes_eq, ◌&&◌}
use Rattle.std.proofs.lemmas.Iterator.{YieldsList-from_slice}
use Rattle.std.proofs.lemmas.Iterator.Search.{any_from_yields_List}
use Rattle.dots_history.specs.Histories.{Mitigation}
use Rattle.held_resources.specs.Tables.{lost_in}
use Rattle.live_mitigations.specs.declared.live_row.LiveRow.{LiveRow}
use Rattle.live_mitigations.proofs.LiveRows.{any_alike}
use Rattle.installed_filters.specs.Filters.{works_beside}
use Rattle.installed_filters.proofs.mitigations.has_left.Goals as goal

pub returns : goal.returns
returns c =
    any_from_yields_List (λ (row : LiveRow). works_beside (lost_in c.args.held.now) c.args.entry.now row.mitigation && bytes_eq row.mitigation.put.cuid c.args.entry.now.cuid) _ _ _ c.any.ensures.ran (YieldsList-from_slice c.args.rows.now cc) (λ x b q k. search (rules, tests))
    ∙ any_alike (λ (m : Mitigation). works_beside (lost_in c.args.held.now) c.args.entry.now m && bytes_eq m.put.cuid c.args.entry.now.cuid) c.args.rows.now
