use Rattle.std.proofs.Common.{◌∙◌, sym, ap, subst, List, ℕ}
use Rattle.ip_scope.specs.PrefixText.{IsPrefixText}
use Rattle.ip_scope.proofs.PrefixTexts.{reading_unique, reading_of-itself, IsPrefixText-prefix_text}
use Rattle.std.specs.Result.{result_ok}
use Rattle.ip_scope.proofs.PrefixReading.{prefix_of_reading, no_prefix}
use Rattle.ip_scope.proofs.parse.parse_prefix.Goals as goal

pub returns-in_default-clause-only : goal.returns-in_default-clause-only
returns-in_default-clause-only c = λ family number len is. absurd (c.in_default.ensures.none family number len is)

pub returns-in_default-clause-written : goal.returns-in_default-clause-written
returns-in_default-clause-written c = λ p valid is.
    absurd (c.in_default.ensures.none p.family p.number p.length
    (subst (λ (text : List ℕ). IsPrefixText text p.family p.number p.length) (sym is) (IsPrefixText-prefix_text p valid)))

pub returns-clause-only : goal.returns-clause-only
returns-clause-only c = λ family number len is.
    c.with_length.ensures ∙ reading_unique c.args.text.now _ _ _ _ _ _ c.in-Some.ensures.found is

pub returns-clause-written : goal.returns-clause-written
returns-clause-written c = λ p valid is.
    let spelled = subst (λ (text : List ℕ). IsPrefixText text p.family p.number p.length) (sym is) (IsPrefixText-prefix_text p valid) in
    c.with_length.ensures ∙ reading_unique c.args.text.now _ _ _ _ _ _ c.in-Some.ensures.found spelled ∙ reading_of-itself p valid

pub returns-in_default-clause-value : goal.returns-in_default-clause-value
returns-in_default-clause-value c = no_prefix c.args.text.now c.in_default.ensures.none

pub returns-clause-value : goal.returns-clause-value
returns-clause-value c = ap result_ok c.with_length.ensures ∙ prefix_of_reading c.args.text.now _ _ _ c.in-Some.ensures.found
