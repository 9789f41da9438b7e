use Rattle.std.proofs.Common.{ℕ, ◌-◌, ap, ◌∙◌}
use Rattle.ip_scope.specs.declared.family.Family.{Family}
use Rattle.ip_scope.specs.Prefix.{block_size}
use Rattle.dots_history.proofs.Reaching.{highest_sum}
use Rattle.dots_history.proofs.reach.last_of.Goals as goal

pub overflow_add-result : goal.overflow_add-result
overflow_add-result c =
    let span = c.span.ensures ∙ ap (λ (f : Family). block_size f c.length.result - 1) c.family.ensures.value
    ∙ ap (λ (n : ℕ). block_size c.args.prefix.now.family n - 1) c.length.ensures.value in
    record { fits = highest_sum c.args.prefix.now c.number.result c.span.result c.number.ensures.valid c.number.ensures.value span }
