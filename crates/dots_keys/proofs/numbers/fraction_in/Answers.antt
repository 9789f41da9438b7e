use Rattle.std.proofs.Common.{sym, ap, ◌∙◌, arith, Option}
use Rattle.cbor_profile.specs.Tree.{Trees}
use Rattle.dots_keys.specs.Configurations.{fraction_in}
use Rattle.dots_keys.proofs.Arrays.{no_fraction}
use Rattle.dots_keys.proofs.numbers.fraction_in.Goals as goal

pub returns-in_default-items : goal.returns-in_default-items
returns-in_default-items c =
    sym (ap (λ (o : Option Trees). fraction_in o) (sym c.in-Some.ensures) ∙ no_fraction c.in-Some.items.now (λ two. absurd (omega (arith, two, c.in_default-items.len_below))))

pub returns-in_default-items-2 : goal.returns-in_default-items-2
returns-in_default-items-2 c =
    sym (ap (λ (o : Option Trees). fraction_in o) (sym c.in-Some.ensures) ∙ no_fraction c.in-Some.items.now (λ two. absurd (omega (arith, two, c.in_default-items.len_at_least))))
