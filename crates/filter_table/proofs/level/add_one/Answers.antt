use Rattle.std.proofs.Common.{arith, ◌≡◌, ◌<◌, length, ap, ◌∙◌}
use Rattle.std.specs.List.{insert}
use Rattle.std.proofs.lemmas.Grind.{common_steps}
use Rattle.filter_table.specs.declared.level.Level.{Level}
use Rattle.filter_table.proofs.Counting.{below, same_read, more_at, new_at}
use Rattle.filter_table.proofs.level.add_one.Goals as goal
use Rattle.filter_table.proofs.level.add_one.Goals.{else-at-len-via-then-at-len+else-index-kind, else-at-len-via-else-at-len}

pub returns-then-index-kind-clause-items : goal.returns-then-index-kind-clause-items
returns-then-index-kind-clause-items c =
    let within : c.levels_below-at.result < length c.args.levels.now.items = omega (arith, c.if-at-len.true, c.len.ensures) in
    more_at c.args.kind _ c.args.levels.now.items _ _ (c.levels_below-at.ensures.value ∙ ap (below c.args.kind) c.as_slice.ensures.value) within
    c.index_mut.ensures.value c.index.ensures c.if-index-kind.true

pub returns-clause-items : goal.returns-clause-items
returns-clause-items c =
    let items : c.insert-room_was_reserved.new.self.items ≡ insert c.args.levels.now.items c.levels_below-at.result (record { kind = c.args.kind; len = 1 }) = grind (arith, common_steps) in
    items
    ∙ new_at c.args.kind _ c.args.levels.now.items (c.levels_below-at.ensures.value ∙ ap (below c.args.kind) c.as_slice.ensures.value)
    (λ within l is same. elim c.else-at-len.branch [
      | else-at-len-via-then-at-len+else-index-kind w ↦
          w.if-index-kind.false (ap (λ (k : Level). k.kind) (same_read c.args.levels.now.items c.levels_below-at.result w.index.result.now l within w.index.ensures is) ∙ same)
      | else-at-len-via-else-at-len w ↦ absurd (omega (arith, within, c.len.ensures, w.if-at-len.false))
    ])
