use Rattle.std.proofs.Common.{◌≡◌, ◌≤◌, length, sym, ◌∙◌, arith}
use Rattle.std.specs.Prelude.{nat_le}
use Rattle.std.proofs.lemmas.Bool.{cond-true, cond-false, eqb-true, eqb-false, le-leb, lt-leb}
use Rattle.http_cut.proofs.Values.{announces, announces_none}
use Rattle.http_cut.proofs.fields.announced.Goals as goal

pub returns-then-is_empty-clause-value : goal.returns-then-is_empty-clause-value
returns-then-is_empty-clause-value c =
    let value = c.args.value.now in
    let none : length value ≡ 0 = eqb-true (length value) 0 (sym c.if-is_empty.ensures) in
    sym (announces_none value (λ some few digits. absurd (omega (arith, none, some))))

pub returns-then-value-gt-MOST_DIGITS-clause-value : goal.returns-then-value-gt-MOST_DIGITS-clause-value
returns-then-value-gt-MOST_DIGITS-clause-value c =
    sym (announces_none c.args.value.now (λ some few digits. absurd (omega (arith, c.if-value-gt-MOST_DIGITS.true, few))))

pub returns-in-None-clause-value : goal.returns-in-None-clause-value
returns-in-None-clause-value c = sym (announces_none c.args.value.now (λ some few digits. c.in-None.ensures.none digits))

pub returns-then-size-gt-GREATEST_BODY-clause-value : goal.returns-then-size-gt-GREATEST_BODY-clause-value
returns-then-size-gt-GREATEST_BODY-clause-value c =
    let value = c.args.value.now in
    let n = c.in-Some.size in
    let some : 1 ≤ length value = omega (arith, eqb-false (length value) 0 (sym c.if-is_empty.ensures)) in
    sym (announces value n c.in-Some.ensures.found.0 c.in-Some.ensures.found.1 some c.if-value-gt-MOST_DIGITS.false ∙ cond-false (nat_le n 8192) _ _ (lt-leb n 8192 c.if-size-gt-GREATEST_BODY.true))

pub returns-in-Some-clause-value : goal.returns-in-Some-clause-value
returns-in-Some-clause-value c =
    let value = c.args.value.now in
    let n = c.in-Some.size in
    let some : 1 ≤ length value = omega (arith, eqb-false (length value) 0 (sym c.if-is_empty.ensures)) in
    sym (announces value n c.in-Some.ensures.found.0 c.in-Some.ensures.found.1 some c.if-value-gt-MOST_DIGITS.false ∙ cond-true (nat_le n 8192) _ _ (le-leb n 8192 c.if-size-gt-GREATEST_BODY.false))
