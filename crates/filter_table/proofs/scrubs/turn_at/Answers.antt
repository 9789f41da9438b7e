use Rattle.std.proofs.Common.{arith, sym, ap, length, length-drop}
use Rattle.filter_table.proofs.Found.{turn_after, turn_nowhere}
use Rattle.filter_table.proofs.scrubs.turn_at.Goals as goal

pub returns-in_err-at : goal.returns-in_err-at
returns-in_err-at c =
    rw c.from_residual.ensures
    (turn_nowhere c.args.place c.args.slot c.turns_before-before.result c.args.turns.now _ c.turns_before-before.ensures.value c.turns_before-before.ensures.within c.split_at.ensures.back (sym c.in_err-at.ensures.value))

pub overflow_add-result : goal.overflow_add-result
overflow_add-result c = omega (arith, c.in_ok-at.ensures.within, c.turns_before-before.ensures.within, ap length c.split_at.ensures.back, length-drop c.turns_before-before.result c.args.turns.now)

pub returns : goal.returns
returns c =
    turn_after c.args.place c.args.slot c.turns_before-before.result c.in_ok-at.at c.args.turns.now _ c.turns_before-before.ensures.value c.turns_before-before.ensures.within c.split_at.ensures.back (sym c.in_ok-at.ensures.value)
