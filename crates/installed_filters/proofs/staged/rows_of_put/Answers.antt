use Rattle.std.proofs.Common.{◌≤◌, ◌<◌, List, length, get_or, ap, ◌∙◌, subst, refl}
use Rattle.dots_history.specs.declared.put.Target.{Target}
use Rattle.installed_filters.specs.Filters.{putting}
use Rattle.installed_filters.proofs.Copies.{copied_step, copied_end}
use Rattle.installed_filters.proofs.staged.rows_of_put.Goals as goal

pub loop-target-preserved : goal.loop-target-preserved
loop-target-preserved c =
    copied_step
    (putting c.args.domain c.args.cuid.now c.args.put.now)
    c.loop-target.target-index
    c.args.put.now.targets
    c.target-item.result
    c.loop-target.rows.items
    c.push_rows.new.rows.items
    _
    (subst (λ (targets : List Target). c.loop-target.target-index < length targets) c.items-target-items.ensures c.loop-target-test.true)
    (c.target-item.is ∙ ap (λ targets. get_or targets c.loop-target.target-index c.target-item.result) c.items-target-items.ensures)
    c.in_ok-push_rows.ensures
    c.loop-target.invariant

pub returns : goal.returns
returns c =
    copied_end
    (putting c.args.domain c.args.cuid.now c.args.put.now)
    c.args.put.now
    c.loop-target.target-index
    c.loop-target.rows.items
    refl
    (subst (λ (targets : List Target). length targets ≤ c.loop-target.target-index) c.items-target-items.ensures c.loop-target-test.false)
    c.loop-target.invariant
