use Rattle.std.proofs.Common.{arith, ◌≡◌, ◌≤◌, ◌++◌, ℕ, nat_lt, nat_le, take, drop, length, ap, subst, sym, ◌∙◌}
use Rattle.std.specs.List.{prefix_len}
use Rattle.filter_table.specs.declared.turn.Turn.{Turn}
use Rattle.filter_table.specs.Laws.{AreInOrder}
use Rattle.filter_table.specs.Rows.{place_of_turn}
use Rattle.filter_table.proofs.BlocksGone.{parts}
use Rattle.filter_table.proofs.scrubs.cut_between.Goals as goal

pub cut_turns-requires-clause-order : goal.cut_turns-requires-clause-order
cut_turns-requires-clause-order c =
    let found = parts c.args.low c.args.high c.args.turns.now.items c.requires.numbers c.requires.in_order in
    omega (
      arith,
      found.order,
      c.turns_before-start.ensures.value,
      c.place_after-end.ensures.value,
      ap (prefix_len (λ (t : Turn). nat_lt t.place c.args.low)) c.as_slice.ensures.value,
      ap (prefix_len (λ (t : Turn). nat_le t.place c.args.high)) c.as_slice-2.ensures.value,
    )

pub returns-clause-items : goal.returns-clause-items
returns-clause-items c =
    let found = parts c.args.low c.args.high c.args.turns.now.items c.requires.numbers c.requires.in_order in
    c.cut_turns.ensures.items
    ∙ ap (λ (n : ℕ). take n c.args.turns.now.items ++ drop c.place_after-end.result c.args.turns.now.items) (c.turns_before-start.ensures.value ∙ ap (prefix_len (λ (t : Turn). nat_lt t.place c.args.low)) c.as_slice.ensures.value)
    ∙ ap (λ (n : ℕ). take (prefix_len (λ (t : Turn). nat_lt t.place c.args.low) c.args.turns.now.items) c.args.turns.now.items ++ drop n c.args.turns.now.items) (c.place_after-end.ensures.value ∙ ap (prefix_len (λ (t : Turn). nat_le t.place c.args.high)) c.as_slice-2.ensures.value)
    ∙ found.rest
