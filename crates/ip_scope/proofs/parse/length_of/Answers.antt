use Rattle.std.proofs.Common.{sym, ◌∙◌, arith}
use Rattle.std.proofs.lemmas.Fmt.{decimal_injective}
use Rattle.ip_scope.proofs.parse.length_of.Goals as goal

pub returns-then-length-gt-MAX_LENGTH-clause-none : goal.returns-then-length-gt-MAX_LENGTH-clause-none
returns-then-length-gt-MAX_LENGTH-clause-none c = λ n small is.
    let found = c.in_ok-length.ensures.found in
    let same = decimal_injective n c.in_ok-length.length (omega arith) (omega (arith, found.0)) (sym is ∙ found.1) in
    absurd (omega arith)
