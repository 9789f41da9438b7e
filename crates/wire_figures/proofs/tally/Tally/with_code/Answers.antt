use Rattle.std.proofs.Common.{get_or, ap, ◌∙◌, arith}
use Rattle.wire_figures.specs.Counting.{with_code}
use Rattle.wire_figures.proofs.tally.Tally.with_code.Goals as goal

pub returns : goal.returns
returns c =
    c.at.ensures ∙ ap (λ number. get_or c.self.inside.codes number 0) c.from.ensures
    ∙ c.self.invariant.6.1 c.args.code (omega (arith, c.ranges.code.fits)) ∙ ap (with_code c.args.code) c.self.view_is
