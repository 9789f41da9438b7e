use Rattle.std.proofs.Common.{get_or, ap, ◌∙◌}
use Rattle.wire_figures.specs.Counting.{with_status}
use Rattle.wire_figures.proofs.tally.Tally.with_status.Goals as goal

pub returns : goal.returns
returns c =
    c.at.ensures ∙ ap (λ number. get_or c.self.inside.statuses number 0) c.from.ensures
    ∙ c.self.invariant.7.1 c.args.status c.requires ∙ ap (with_status c.args.status) c.self.view_is
