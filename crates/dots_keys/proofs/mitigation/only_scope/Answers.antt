use Rattle.std.proofs.Common.{sym, ap, ◌∙◌, Option}
use Rattle.std.specs.Prelude.{ok_or}
use Rattle.cbor_profile.specs.Tree.{Tree, Trees}
use Rattle.dots_keys.specs.Mitigations.{only_item, scope_of}
use Rattle.dots_keys.specs.Results.{◌>>=◌, invalid}
use Rattle.dots_keys.proofs.Arrays.{not_only}
use Rattle.dots_keys.proofs.mitigation.only_scope.Goals as goal

pub returns-in_default-only : goal.returns-in_default-only
returns-in_default-only c =
    rw c.invalid-in_default-only.ensures (
    ap (λ (o : Option Trees). ok_or (only_item o) (invalid 2) >>= scope_of c.args.gateway) (sym c.in-Some.ensures)
    ∙ ap (λ (o : Option Tree). ok_or o (invalid 2) >>= scope_of c.args.gateway) (not_only c.in-Some.items.now c.in_default-only.ensures)
    )
