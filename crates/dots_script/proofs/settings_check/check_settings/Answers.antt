use Rattle.std.proofs.Common.{List, ℕ, sym, subst, take, ◌≡◌, ◌+◌, ◌^◌, IfSome}
use Rattle.dots_script.proofs.Wholes.{checks_settings}
use Rattle.dots_script.proofs.settings_check.check_settings.Goals as goal

pub returns-in-Ok-check_content-clause-checks : goal.returns-in-Ok-check_content-clause-checks
returns-in-Ok-check_content-clause-checks g c =
    checks_settings (g.S.Source.left c.args.source.now) c.as_slice.result.now _
    (subst (λ (xs : List ℕ). IfSome (g.S.Source.left c.args.source.now) (λ file. xs ≡ take (2 ^ 16 + 1) file)) (sym c.as_slice.ensures.value) c.in-Ok.ensures.bytes)
    c.in-Ok-check_content.ensures
