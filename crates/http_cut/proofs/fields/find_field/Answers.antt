use Rattle.std.proofs.Common.{◌≡◌, ℕ, List, ◌∷◌, length, sym, ap, subst, ◌∙◌, arith}
use Rattle.std.specs.Prelude.{All}
use Rattle.std.proofs.lemmas.Grind.{common_steps}
use Rattle.std.proofs.lemmas.List.{nil_from_length}
use Rattle.std.proofs.lemmas.List.Elements.{All-tail}
use Rattle.httparse.specs.declared.spans.HeaderSpan.{HeaderSpan}
use Rattle.httparse.specs.Spans.{IsHeaderWithin}
use Rattle.http_cut.specs.Fields.{values_of}
use Rattle.http_cut.specs.SpanValues.{fields_at}
use Rattle.http_cut.proofs.Values.{values_here, values_later}
use Rattle.http_cut.proofs.fields.find_field.Goals as goal

within : (n : ℕ) (rest behind : List HeaderSpan) (field : HeaderSpan) → rest ≡ field ∷ behind → All (IsHeaderWithin n) rest → All (IsHeaderWithin n) behind
within n rest behind field is all = All-tail (IsHeaderWithin n) field behind (subst (λ (y : List HeaderSpan). All (IsHeaderWithin n) y) is all)

pub returns-then-is_same_word-clause-found : goal.returns-then-is_same_word-clause-found
returns-then-is_same_word-clause-found c =
    sym c.loop-field.invariant.same
    ∙ values_here c.args.name.now c.args.head.now c.of.result.now c.of-then-is_same_word.result.now c.loop-field.rest.now c.in-Some.behind.now c.in-Some.field.now c.in-Some.ensures.cases.0 c.of.ensures c.if-is_same_word.ensures c.of-then-is_same_word.ensures

pub returns-then-is_same_word-clause-within : goal.returns-then-is_same_word-clause-within
returns-then-is_same_word-clause-within c = within (length c.args.head.now) c.loop-field.rest.now c.in-Some.behind.now c.in-Some.field.now c.in-Some.ensures.cases.0 c.loop-field.invariant.within

pub loop-field-preserved : goal.loop-field-preserved
loop-field-preserved c = record {
  same = sym (values_later c.args.name.now c.args.head.now c.of.result.now c.loop-field.rest.now c.in-Some.behind.now c.in-Some.field.now c.in-Some.ensures.cases.0 c.of.ensures c.if-is_same_word.ensures) ∙ c.loop-field.invariant.same;
  within = within (length c.args.head.now) c.loop-field.rest.now c.in-Some.behind.now c.in-Some.field.now c.in-Some.ensures.cases.0 c.loop-field.invariant.within;
  fewer = omega (arith, c.in-Some.ensures.cases.1, c.loop-field.invariant.fewer);
}

pub returns-clause-found : goal.returns-clause-found
unfolding values_of
returns-clause-found c =
    let empty : length c.loop-field.rest.now ≡ 0 = grind (arith, common_steps) in
    sym c.loop-field.invariant.same ∙ ap (λ (y : List HeaderSpan). values_of c.args.name.now (fields_at c.args.head.now y)) (nil_from_length c.loop-field.rest.now empty)
