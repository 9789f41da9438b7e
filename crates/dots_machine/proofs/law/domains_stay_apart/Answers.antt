use Rattle.std.proofs.Common.{sym, ap, ◌∙◌}
use Rattle.dots_history.specs.Histories.{alone}
use Rattle.dots_history.specs.Rows.{plain_rows}
use Rattle.dots_history.proofs.Isolating.{plain_rows_alone}
use Rattle.dots_machine.proofs.Apart.{step_apart}
use Rattle.dots_machine.proofs.law.domains_stay_apart.Goals as goal

pub returns : goal.returns
returns c = record {
  step = λ settings domain old other event at owed new same step. step_apart settings domain old other same at new event owed step;
  rows = λ domain one other same.
      sym (plain_rows_alone domain one.time one.history) ∙ ap (λ t. plain_rows t (alone domain one.history)) same.time ∙ ap (λ entries. plain_rows other.time entries) same.entries ∙ plain_rows_alone domain other.time other.history;
}
