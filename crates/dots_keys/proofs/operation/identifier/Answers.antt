use Rattle.std.proofs.Common.{◌≤◌, ◌<◌, ◌^◌, length, sym, arith}
use Rattle.std.proofs.lemmas.Bool.{eqb-false}
use Rattle.dots_keys.proofs.Identifiers.{identifies, no_identifier}
use Rattle.dots_keys.proofs.operation.identifier.Goals as goal

pub returns-in_default : goal.returns-in_default
returns-in_default c = sym (no_identifier c.args.text.now (λ some most digits below. c.in_default.ensures.none digits))

pub returns : goal.returns
returns c =
    let text = c.args.text.now in
    let found = c.in-Some.ensures.found in
    let some : 1 ≤ length text = omega (arith, eqb-false (length text) 0 (sym c.if-is_empty.ensures)) in
    let below : c.in-Some.number < 2 ^ 32 = omega arith in
    sym (identifies text c.in-Some.number found.0 found.1 some c.if-text-gt10.false below)
