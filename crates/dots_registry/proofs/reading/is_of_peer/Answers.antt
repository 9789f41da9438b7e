use Rattle.std.proofs.Common.{◌∙◌, rules, tests}
use Rattle.std.specs.Prelude.{◌==◌}
use Rattle.std.proofs.lemmas.Iterator.{YieldsList-from_slice}
use Rattle.std.proofs.lemmas.Iterator.Search.{any_from_yields_List}
use Rattle.dots_history.specs.Histories.{Mitigation}
use Rattle.live_mitigations.specs.declared.live_row.LiveRow.{LiveRow}
use Rattle.live_mitigations.proofs.LiveRows.{any_alike}
use Rattle.dots_registry.proofs.reading.is_of_peer.Goals as goal

pub returns : goal.returns
returns c =
    any_from_yields_List (λ (row : LiveRow). row.mitigation.put.peer == c.args.peer) _ _ _ c.any.ensures.ran (YieldsList-from_slice c.args.rows.now cc) (λ x b q k. search (rules, tests))
    ∙ any_alike (λ (m : Mitigation). m.put.peer == c.args.peer) c.args.rows.now
