use Rattle.dots_lists.proofs.Splits.{no_space_anywhere, first_space}
use Rattle.dots_lists.proofs.fields.split_field.Goals as goal

pub returns-in_err-end : goal.returns-in_err-end
returns-in_err-end c = rw c.from_residual.ensures (no_space_anywhere _ c.in_err-end.ensures)

pub returns : goal.returns
returns c = first_space _ _ c.in_ok-end.ensures.0 c.in_ok-end.ensures.1
