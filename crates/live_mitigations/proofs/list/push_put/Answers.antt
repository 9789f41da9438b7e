use Rattle.std.proofs.Common.{[], ◌∷◌, ◌++◌, ap, sym, ◌∙◌}
use Rattle.std.proofs.lemmas.List.{append-nil}
use Rattle.live_mitigations.specs.LiveRows.{mitigations_in, slots_in}
use Rattle.live_mitigations.specs.declared.live_row.LiveRow.{LiveRow}
use Rattle.live_mitigations.specs.Slots.{slots_at}
use Rattle.live_mitigations.proofs.Rows.{none_put}
use Rattle.live_mitigations.proofs.LiveRows.{none_first, first_slots}
use Rattle.live_mitigations.proofs.list.push_put.Goals as goal

pub returns-in-None-clause-mitigations : goal.returns-in-None-clause-mitigations
returns-in-None-clause-mitigations c =
    sym (ap (λ ms. mitigations_in c.args.rows.now.items ++ ms) (none_put c.args.entry c.in-None.ensures.none) ∙ append-nil (mitigations_in c.args.rows.now.items))

pub returns-in-None-clause-slots : goal.returns-in-None-clause-slots
returns-in-None-clause-slots c =
    sym (ap (λ ss. slots_in c.args.rows.now.items ++ ss) (none_first c.args.entry c.args.slot c.in-None.ensures.none) ∙ append-nil (slots_in c.args.rows.now.items))

pub returns-in-Some-clause-slots : goal.returns-in-Some-clause-slots
returns-in-Some-clause-slots c =
    c.push_live.ensures.slots
    ∙ ap (λ (row : LiveRow). slots_in c.args.rows.now.items ++ slots_at c.args.entry.time (row.mitigation ∷ []) (row.slots ∷ [])) c.in-Some.ensures.some
    ∙ ap (λ ss. slots_in c.args.rows.now.items ++ ss) (first_slots c.args.entry c.args.slot)
