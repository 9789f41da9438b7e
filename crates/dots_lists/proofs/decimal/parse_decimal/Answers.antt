use Rattle.std.proofs.Common.{◌<◌, length, refl, arith}
use Rattle.std.proofs.lemmas.Grind.{common_steps}
use Rattle.dots_lists.proofs.Decimals.{IsDecimal-of, one_digit, decimal-found, decimal-none}
use Rattle.dots_lists.proofs.decimal.parse_decimal.Goals as goal

pub returns-then-is_empty-clause-none : goal.returns-then-is_empty-clause-none
returns-then-is_empty-clause-none c = λ n small is.
    let some = (IsDecimal-of c.args.text.now n small is).some in
    grind (arith, common_steps)

pub returns-then-text-gt-MAX_DIGITS-clause-none : goal.returns-then-text-gt-MAX_DIGITS-clause-none
returns-then-text-gt-MAX_DIGITS-clause-none c = λ n small is.
    let few = (IsDecimal-of c.args.text.now n small is).few in
    absurd (omega arith)

pub returns-then-has_leading_zero-clause-none : goal.returns-then-has_leading_zero-clause-none
returns-then-has_leading_zero-clause-none c = λ n small is.
    let two = c.if-has_leading_zero.ensures.0 refl in
    let one = (IsDecimal-of c.args.text.now n small is).no_leading_zero two.1 in
    absurd (omega (arith, two.0))

pub returns-clause-found : goal.returns-clause-found
returns-clause-found c =
    let some : 0 < length c.args.text.now = grind (arith, common_steps) in
    decimal-found _ _ c.value_of.ensures.found some (omega arith) (one_digit _ some c.if-has_leading_zero.ensures.1)

pub returns-clause-none : goal.returns-clause-none
returns-clause-none c = decimal-none _ _ c.value_of.ensures.none
