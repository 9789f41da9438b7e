use Rattle.std.proofs.Common.{List, ℕ, sym, subst, ◌≡◌, IfSome}
use Rattle.dots_script.proofs.Wholes.{checks_script}
use Rattle.dots_script.proofs.script_check.check_script.Goals as goal

pub returns-in-Ok-check_lines-clause-checks : goal.returns-in-Ok-check_lines-clause-checks
returns-in-Ok-check_lines-clause-checks g c =
    checks_script (g.S.Source.left c.args.source.now) c.as_slice.result.now _
    (subst (λ (xs : List ℕ). IfSome (g.S.Source.left c.args.source.now) (λ script. xs ≡ script)) (sym c.as_slice.ensures.value) c.in-Ok.ensures.bytes)
    c.in-Ok-check_lines.ensures
