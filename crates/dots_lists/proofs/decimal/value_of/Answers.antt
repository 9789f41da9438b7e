use Rattle.std.proofs.Common.{◌-◌, ◌+◌, ◌*◌, ◌<◌, ◌≤◌, ap, ◌∙◌, sym, arith, get_or, length, take}
use Rattle.std.specs.Str.Parse.{digits_value}
use Rattle.std.proofs.lemmas.Grind.{common_steps}
use Rattle.std.proofs.lemmas.Str.Parse.{digit_at}
use Rattle.std.proofs.lemmas.Int.Digits.{digits_more, digits_value_more}
use Rattle.dots_lists.proofs.Decimals.{digit_value-ascii, before_digit}
use Rattle.dots_lists.proofs.decimal.value_of.Goals as goal

pub returns-then-not-is_ascii_digit-clause-none : goal.returns-then-not-is_ascii_digit-clause-none
returns-then-not-is_ascii_digit-clause-none c = λ all.
    let here = digit_at c.args.digits.now c.loop-digit.digit-index all (omega arith) in
    grind (arith, common_steps)

pub loop-digit-preserved : goal.loop-digit-preserved
loop-digit-preserved c =
    let digits = c.args.digits.now in
    let i = c.loop-digit.digit-index in
    let within : i < length digits = c.loop-digit-test.true in
    let ascii : (48 ≤ get_or digits i 0) × (get_or digits i 0 ≤ 57) = grind (arith, common_steps) in
    let worth = digit_value-ascii (get_or digits i 0) ascii.0 ascii.1 in (
      digits_more 10 digits i within c.loop-digit.invariant.0 (omega arith),
      ap (λ n. n * 10 + (get_or digits i 0 - 48)) c.loop-digit.invariant.1
          ∙ ap (λ d. digits_value 10 (take i digits) * 10 + d) (sym worth)
          ∙ sym (digits_value_more 10 digits i within),
    )

pub overflow_mul-number : goal.overflow_mul-number
overflow_mul-number c =
    omega (arith, c.loop-digit.invariant.1, before_digit c.args.digits.now c.loop-digit.digit-index c.loop-digit-test.true c.requires c.loop-digit.invariant.0)

pub overflow_add-number : goal.overflow_add-number
overflow_add-number c =
    let digits = c.args.digits.now in
    let i = c.loop-digit.digit-index in
    let ascii : (48 ≤ get_or digits i 0) × (get_or digits i 0 ≤ 57) = grind (arith, common_steps) in
    omega (arith, c.loop-digit.invariant.1, before_digit digits i c.loop-digit-test.true c.requires c.loop-digit.invariant.0)
