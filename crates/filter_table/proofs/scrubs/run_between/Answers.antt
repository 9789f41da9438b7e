use Rattle.std.proofs.Common.{arith, ◌≡◌, ℕ, ◌-◌, nat_lt, nat_le, take, drop, ap, ◌∙◌}
use Rattle.std.specs.List.{prefix_len}
use Rattle.filter_table.specs.declared.turn.Turn.{Turn}
use Rattle.filter_table.proofs.BlocksGone.{parts}
use Rattle.filter_table.proofs.scrubs.run_between.Goals as goal

pub overflow_sub-end : goal.overflow_sub-end
overflow_sub-end c =
    let found = parts c.args.low c.args.high c.args.turns.now c.requires.numbers c.requires.in_order in
    omega (arith, found.order, c.turns_before-start.ensures.value, c.place_after-end.ensures.value)

pub returns : goal.returns
returns c =
    let found = parts c.args.low c.args.high c.args.turns.now c.requires.numbers c.requires.in_order in
    c.split_at-2.ensures.front ∙ ap (take (c.place_after-end.result - c.turns_before-start.result)) c.split_at.ensures.back
    ∙ ap (λ (n : ℕ). take (c.place_after-end.result - n) (drop n c.args.turns.now)) c.turns_before-start.ensures.value
    ∙ ap (λ (n : ℕ). take (n - prefix_len (λ (t : Turn). nat_lt t.place c.args.low) c.args.turns.now) (drop (prefix_len (λ (t : Turn). nat_lt t.place c.args.low) c.args.turns.now) c.args.turns.now)) c.place_after-end.ensures.value
    ∙ found.run
