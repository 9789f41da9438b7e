use Rattle.std.proofs.Common.{List, ℕ, sym, subst, take, ◌≡◌}
use Rattle.std.specs.Prelude.{IfSome}
use Rattle.host_checks.specs.Moving.{EndsBy}
use Rattle.host_checks.proofs.Fronts.{of_three}
use Rattle.host_checks.proofs.moving_files.migrate_files.Goals as goal

pub returns-in-Ok-clause-ends : goal.returns-in-Ok-clause-ends
returns-in-Ok-clause-ends g c =
    of_three (λ former later lines. EndsBy former later lines c.in-Ok.migration.end c.in-Ok.migration.text) 65537 (g.S.Source.left c.args.old.now) (g.T.Source.left c.args.new.now)
    (g.U.Source.left c.args.host.now) c.as_slice.result.now c.as_slice-2.result.now c.as_slice-3.result.now
    (subst (λ (xs : List ℕ). IfSome (g.S.Source.left c.args.old.now) (λ file. xs ≡ take 65537 file)) (sym c.as_slice.ensures.value) c.in_ok-former.ensures.bytes)
    (subst (λ (xs : List ℕ). IfSome (g.T.Source.left c.args.new.now) (λ file. xs ≡ take 65537 file)) (sym c.as_slice-2.ensures.value) c.in_ok-later.ensures.bytes)
    (subst (λ (xs : List ℕ). IfSome (g.U.Source.left c.args.host.now) (λ file. xs ≡ take 65537 file)) (sym c.as_slice-3.ensures.value) c.in_ok-lines.ensures.bytes)
    c.in-Ok.ensures
