use Rattle.std.proofs.Common.{sym, ◌∙◌}
use Rattle.held_resources.proofs.Going.{none_undone}
use Rattle.held_resources.proofs.rows.remove_undone.Goals as goal

pub returns-then-is_of_mitigations-clause-items : goal.returns-then-is_of_mitigations-clause-items
returns-then-is_of_mitigations-clause-items c =
    none_undone c.args.rows.now.items c.args.entry.now (sym c.is_of_mitigations.ensures ∙ c.if-is_of_mitigations.true)
