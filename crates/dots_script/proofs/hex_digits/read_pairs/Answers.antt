use Rattle.std.proofs.Common.{◌≡◌, ◌*◌, ◌%◌, ◌+◌, ◌<◌, ℕ, length, slice_index, ap, ◌∙◌, arith}
use Rattle.std.specs.Prelude.{max}
use Rattle.dots_script.proofs.DecodingPairs.{counted_as, one_more_is_decoded, all_are_decoded, one_is_refused, answers_whether}
use Rattle.dots_script.proofs.hex_digits.read_pairs.Goals as goal

pub pairs-preserved : goal.pairs-preserved
pairs-preserved c =
    let digits = c.args.digits.now in
    let at : ℕ = c.pairs.at in
    let greatest : ℕ = c.pairs.greatest in
    let high : ℕ = counted_as (slice_index digits (2 * at)) in
    let low : ℕ = counted_as (slice_index digits (2 * at + 1)) in
    let first : c.digit_value-high.result ≡ high = c.digit_value-high.ensures in
    let second : c.digit_value-low.result ≡ low = c.digit_value-low.ensures in
    let byte : c.digit_value-high.result % 16 * 16 + c.digit_value-low.result % 16 ≡ high % 16 * 16 + low % 16 =
    ap (λ (v : ℕ). v % 16 * 16 + c.digit_value-low.result % 16) first ∙ ap (λ (v : ℕ). high % 16 * 16 + v % 16) second in
    let most : c.max-greatest.result ≡ max (max greatest high) low =
    c.max-greatest.ensures ∙ ap (λ (v : ℕ). max v c.digit_value-low.result) (c.max.ensures ∙ ap (λ (v : ℕ). max greatest v) first)
    ∙ ap (λ (v : ℕ). max (max greatest high) v) second in
    let room : at < length c.pairs.into = omega (arith, c.pairs-test.true) in
    let fits : 2 * at + 1 < length digits = omega (arith, c.requires, c.pairs-test.true, c.pairs.auto.into) in
    one_more_is_decoded digits c.pairs.into at greatest _ _ fits room byte most c.pairs.invariant

pub returns : goal.returns
returns c =
    answers_whether c.pairs.greatest _ _
    (all_are_decoded _ _ c.pairs.at c.pairs.greatest (omega (arith, c.requires, c.pairs.auto.into)) (omega (arith, c.pairs-test.false)) c.pairs.invariant)
    (one_is_refused _ _ c.pairs.at c.pairs.greatest (omega (arith, c.requires, c.pairs.auto.into)) c.pairs.invariant)
