use Rattle.std.proofs.Common.{ap, ◌∙◌}
use Rattle.ip_scope.specs.declared.family.Family.TheVariants.{V4, V6}
use Rattle.ip_scope.specs.PrefixText.{address_text}
use Rattle.ip_scope.proofs.Putting.{Puts-as}
use Rattle.ip_scope.proofs.write.put_address.Goals as goal

pub returns-in-V4-clause-text : goal.returns-in-V4-clause-text
unfolding address_text
returns-in-V4-clause-text c =
    let same = ap (address_text V4) c.number.ensures.value ∙ ap (λ family. address_text family c.args.prefix.now.number) c.in-V4.ensures.value in
    Puts-as _ _ _ _ _ _ same c.put_v4.ensures.text

pub returns-in-V6-clause-text : goal.returns-in-V6-clause-text
unfolding address_text
returns-in-V6-clause-text c =
    let same = ap (address_text V6) c.number-in-V6.ensures.value ∙ ap (λ family. address_text family c.args.prefix.now.number) c.in-V6.ensures.value in
    Puts-as _ _ _ _ _ _ same c.put_v6.ensures.text
