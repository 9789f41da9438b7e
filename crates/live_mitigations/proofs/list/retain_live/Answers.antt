use Rattle.std.proofs.Common.{ap, ◌∙◌, rules}
use Rattle.std.proofs.lemmas.Fn.{filter_same}
use Rattle.live_mitigations.specs.LiveRows.{mitigations_in, slots_in}
use Rattle.live_mitigations.proofs.LiveRows.{kept_mitigations, kept_slots}
use Rattle.live_mitigations.proofs.list.retain_live.Goals as goal

pub returns-clause-mitigations : goal.returns-clause-mitigations
returns-clause-mitigations c =
    ap mitigations_in (filter_same _ _ _ (λ x b f' k. search rules) _ _ c.retain.ensures.filtered) ∙ kept_mitigations c.args.t c.args.rows.now.items

pub returns-clause-slots : goal.returns-clause-slots
returns-clause-slots c =
    ap slots_in (filter_same _ _ _ (λ x b f' k. search rules) _ _ c.retain.ensures.filtered) ∙ kept_slots c.args.t c.args.rows.now.items
