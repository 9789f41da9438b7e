use Rattle.std.proofs.Common.{◌∙◌, append_assoc}
use Rattle.dots_load.proofs.Taken.{text_is}
use Rattle.dots_load.proofs.counting.report_of.Goals as goal

pub returns : goal.returns
returns c =
    let text = c.in_ok-format.ensures.ok in
    let flat = simp append_assoc at text in
    flat
    ∙ text_is c.args.acts.now c.args.rows _ _ _ _ _ _ _ c.count_events-events.ensures c.count_replies-created.ensures c.count_replies-changed.ensures c.count_replies-deleted.ensures
    c.count_replies-content.ensures c.count_replies-conflict.ensures c.count_others-other.ensures
