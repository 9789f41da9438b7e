use Rattle.std.proofs.Common.{List, ℕ, sym, subst, take, ◌≡◌}
use Rattle.std.specs.Prelude.{IfSome}
use Rattle.host_checks.specs.HostChecks.{ChecksFiles}
use Rattle.host_checks.proofs.Fronts.{of_fronts}
use Rattle.host_checks.proofs.files.check_files.Goals as goal

pub returns-in-Ok-clause-checks : goal.returns-in-Ok-clause-checks
returns-in-Ok-clause-checks g c =
    of_fronts (λ file host. ChecksFiles c.args.task file host c.in-Ok.told) 65537 (g.S.Source.left c.args.settings.now) (g.T.Source.left c.args.host.now) c.as_slice.result.now c.as_slice-2.result.now
    (subst (λ (xs : List ℕ). IfSome (g.S.Source.left c.args.settings.now) (λ file. xs ≡ take 65537 file)) (sym c.as_slice.ensures.value) c.in_ok-content.ensures.bytes)
    (subst (λ (xs : List ℕ). IfSome (g.T.Source.left c.args.host.now) (λ file. xs ≡ take 65537 file)) (sym c.as_slice-2.ensures.value) c.in_ok-text.ensures.bytes)
    c.in-Ok.ensures
