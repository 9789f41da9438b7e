use Rattle.std.proofs.Common.{arith, ◌<◌, ◌≤◌, length, ap, sym, ◌∙◌}
use Rattle.filter_table.proofs.Counting.{below, less_at, gone_at, less_none}
use Rattle.filter_table.proofs.level.take_one.Goals as goal

pub returns-then-len-at-clause-items : goal.returns-then-len-at-clause-items
returns-then-len-at-clause-items c =
    let past : length c.args.levels.now.items ≤ below c.args.kind c.args.levels.now.items =
    omega (arith, c.if-len-at.true, c.len.ensures, c.levels_below-at.ensures.value, ap (below c.args.kind) c.as_slice.ensures.value) in
    less_none c.args.kind c.args.levels.now.items past

pub returns-then-index-le1-clause-items : goal.returns-then-index-le1-clause-items
returns-then-index-le1-clause-items c =
    let within : c.levels_below-at.result < length c.args.levels.now.items = omega (arith, c.if-len-at.false, c.len.ensures) in
    c.remove.ensures.items
    ∙ gone_at c.args.kind _ c.args.levels.now.items _ (c.levels_below-at.ensures.value ∙ ap (below c.args.kind) c.as_slice.ensures.value) within c.index.ensures c.if-index-le1.true

pub returns-clause-items : goal.returns-clause-items
returns-clause-items c =
    let within : c.levels_below-at.result < length c.args.levels.now.items = omega (arith, c.if-len-at.false, c.len.ensures) in
    less_at c.args.kind _ c.args.levels.now.items _ _ (c.levels_below-at.ensures.value ∙ ap (below c.args.kind) c.as_slice.ensures.value) within
    c.index_mut.ensures.value c.index.ensures c.if-index-le1.false
