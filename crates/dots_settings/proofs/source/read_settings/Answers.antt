use Rattle.std.proofs.Common.{List, ℕ, sym, subst, take, ◌≡◌, ◌+◌, ◌^◌, IfSome}
use Rattle.dots_settings.proofs.Files.{read_settings_are, read_fault_is}
use Rattle.dots_settings.proofs.source.read_settings.Goals as goal

pub returns-in-Ok-clause-ok : goal.returns-in-Ok-clause-ok
returns-in-Ok-clause-ok g c =
    read_settings_are (g.S.Source.left c.args.source.now) c.as_slice.result.now _
    (subst (λ (xs : List ℕ). IfSome (g.S.Source.left c.args.source.now) (λ file. xs ≡ take (2 ^ 16 + 1) file)) (sym c.as_slice.ensures.value) c.in-Ok.ensures.bytes) c.settings_of.ensures.ok

pub returns-in-Ok-clause-refused : goal.returns-in-Ok-clause-refused
returns-in-Ok-clause-refused g c =
    read_fault_is (g.S.Source.left c.args.source.now) c.as_slice.result.now _
    (subst (λ (xs : List ℕ). IfSome (g.S.Source.left c.args.source.now) (λ file. xs ≡ take (2 ^ 16 + 1) file)) (sym c.as_slice.ensures.value) c.in-Ok.ensures.bytes) c.settings_of.ensures.refused
