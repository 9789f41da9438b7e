use Rattle.std.proofs.Common.{ℕ, List, ◌∷◌, sym, ap, ◌∙◌}
use Rattle.http_cut.specs.Fields.{body_length}
use Rattle.http_cut.proofs.fields.body_length.Goals as goal

pub returns-in-None-clause-value : goal.returns-in-None-clause-value
unfolding body_length
returns-in-None-clause-value c = sym (ap (λ (y : List (List ℕ)). body_length y) c.in-None.ensures.found)

pub returns-in-None-find_field-clause-value : goal.returns-in-None-find_field-clause-value
unfolding body_length
returns-in-None-find_field-clause-value c =
    c.announced.ensures.value ∙ sym (ap (λ (y : List (List ℕ)). body_length y) (c.in-Some.ensures.found ∙ ap (λ (y : List (List ℕ)). c.in-Some.value.now ∷ y) c.in-None-find_field.ensures.found))

pub returns-in-Some-find_field-clause-value : goal.returns-in-Some-find_field-clause-value
unfolding body_length
returns-in-Some-find_field-clause-value c =
    sym (ap (λ (y : List (List ℕ)). body_length y) (c.in-Some.ensures.found ∙ ap (λ (y : List (List ℕ)). c.in-Some.value.now ∷ y) c.in-Some-find_field.ensures.found))
