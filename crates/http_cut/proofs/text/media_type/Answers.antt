use Rattle.std.proofs.Common.{◌≡◌, ℕ, List, length, take, sym, ap, ◌∙◌, arith}
use Rattle.std.specs.Prelude.{◌==◌}
use Rattle.std.specs.List.{before_first}
use Rattle.std.proofs.lemmas.Bool.{eq-eqb}
use Rattle.std.proofs.lemmas.List.{take_all}
use Rattle.std.proofs.lemmas.List.Sums.{position_or_len_is}
use Rattle.httparse.specs.Grammar.{trim_ows}
use Rattle.http_cut.specs.Fields.{media_type}
use Rattle.http_cut.proofs.text.media_type.Goals as goal

pub returns-then-value-at-eq59 : goal.returns-then-value-at-eq59
unfolding media_type
returns-then-value-at-eq59 c =
    let value = c.args.value.now in
    let place = position_or_len_is (λ (byte : ℕ). byte == 59) value c.loop-at.at 0 c.loop-at.invariant.0 c.loop-at.invariant.1 (λ lt. eq-eqb _ 59 c.if-value-at-eq59.true) in
    c.trim.ensures ∙ ap (λ (n : ℕ). trim_ows (take n value)) (sym place)

pub returns : goal.returns
unfolding media_type
returns c =
    let value = c.args.value.now in
    let place = position_or_len_is (λ (byte : ℕ). byte == 59) value (length value) 0 (omega arith) (λ k lt. c.loop-at.invariant.1 k (omega (arith, lt, c.loop-at-test.false, c.loop-at.invariant.0))) (λ lt. absurd (omega (arith, lt))) in
    let all : before_first (λ (byte : ℕ). byte == 59) value ≡ value = take_all _ value (omega (arith, place)) in
    c.trim-2.ensures ∙ ap (λ (y : List ℕ). trim_ows y) (sym all)
