use Rattle.std.proofs.Common.{ℕ, List, sym, ap, ◌∙◌}
use Rattle.std.specs.Prelude.{codes}
use Rattle.http_cut.specs.Fields.{framed, body_length, values_of}
use Rattle.http_cut.specs.SpanValues.{fields_at}
use Rattle.http_cut.proofs.fields.framing.Goals as goal

pub returns-in-None-clause-value : goal.returns-in-None-clause-value
unfolding framed
returns-in-None-clause-value c =
    c.body_length.ensures.value ∙ sym (ap (λ (y : List (List ℕ)). framed y (body_length (values_of (codes "content-length") (fields_at c.args.head.now c.args.fields.now)))) c.in-None.ensures.found)

pub returns-in-Some-clause-value : goal.returns-in-Some-clause-value
unfolding framed
returns-in-Some-clause-value c =
    sym (ap (λ (y : List (List ℕ)). framed y (body_length (values_of (codes "content-length") (fields_at c.args.head.now c.args.fields.now)))) c.in-Some.ensures.found)
