use Rattle.std.proofs.Common.{◌++◌, codes, decimal, ap, ◌∙◌}
use Rattle.ip_scope.specs.PrefixText.{address_text}
use Rattle.ip_scope.proofs.Putting.{Puts-then}
use Rattle.ip_scope.proofs.AsciiTexts.{prefix_text_is_utf8}
use Rattle.ip_scope.proofs.write.write_prefix.Goals as goal

pub returns-clause-text : goal.returns-clause-text
returns-clause-text c =
    let first = Puts-then _ _ _ _ _ _ _ _ c.put_address-end.ensures.text c.put_all-end.ensures in
    let all = Puts-then _ _ _ _ _ _ _ _ first c.put_decimal.ensures.text in
    all.front ∙ ap (λ n. address_text c.args.prefix.now.family c.args.prefix.now.number ++ codes "/" ++ decimal n) c.length.ensures.value

pub returns-clause-rest : goal.returns-clause-rest
returns-clause-rest c =
    let first = Puts-then _ _ _ _ _ _ _ _ c.put_address-end.ensures.text c.put_all-end.ensures in
    let all = Puts-then _ _ _ _ _ _ _ _ first c.put_decimal.ensures.text in
    all.rest

pub returns-clause-utf8 : goal.returns-clause-utf8
returns-clause-utf8 c = prefix_text_is_utf8 c.args.prefix.now c.length.ensures.valid
