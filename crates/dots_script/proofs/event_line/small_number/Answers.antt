use Rattle.std.proofs.Common.{arith, sym, ◌∙◌}
use Rattle.std.proofs.lemmas.Fmt.{decimal_injective}
use Rattle.dots_script.proofs.event_line.small_number.Goals as goal

pub returns-then-number-from-clause-none : goal.returns-then-number-from-clause-none
returns-then-number-from-clause-none c = λ number h.
    let is = decimal_injective _ number (omega (arith, c.in-Some.ensures.found.0)) (omega (arith, h.small)) (sym c.in-Some.ensures.found.1 ∙ h.spelled) in
    absurd (omega (arith, is, h.small, c.if-number-from.true))
