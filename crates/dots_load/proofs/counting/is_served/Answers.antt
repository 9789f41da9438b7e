use Rattle.std.proofs.Common.{ℕ, nat_eq, ap, ◌∙◌}
use Rattle.dots_load.specs.Report.{unavailable}
use Rattle.dots_load.proofs.Taken.{count_sends}
use Rattle.dots_load.proofs.counting.is_served.Goals as goal

pub returns : goal.returns
returns c = ap (λ (n : ℕ). nat_eq n 0) (c.count_replies.ensures ∙ count_sends unavailable 0 c.args.acts.now)
