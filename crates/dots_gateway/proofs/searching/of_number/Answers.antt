use Rattle.std.proofs.Common.{◌≡◌, ℕ, ◌+◌, ◌-◌, ◌/◌, length, refl, sym, subst, arith, inl, inr}
use Rattle.std.specs.Prelude.{Some}
use Rattle.std.specs.List.{find}
use Rattle.std.proofs.lemmas.Bool.{ne_eqb, cases_lt}
use Rattle.std.proofs.lemmas.Option.{slice_get_read}
use Rattle.dots_gateway.specs.Finding.{has_number}
use Rattle.dots_gateway.proofs.Orders.{number_at, below_then, above_then, nowhere_found}
use Rattle.dots_gateway.proofs.searching.of_number.Goals as goal

pub returns-then-here-number : goal.returns-then-here-number
returns-then-here-number c =
    let ks = c.args.waiting.now.items in
    let middle = c.loop-low.low + (c.loop-low.high - c.loop-low.low) / 2 in
    let there = slice_get_read ks (length ks) middle c.index-here.result.now refl (omega (arith, c.loop-low-test.true, c.loop-low.invariant.within)) c.index-here.ensures in
    sym (subst (λ (n : ℕ). find (has_number n) ks ≡ Some c.index-here.result.now) c.if-here-number.true (number_at ks middle c.index-here.result.now c.requires there))

pub loop-low-preserved-then-here-number-2 : goal.loop-low-preserved-then-here-number-2
loop-low-preserved-then-here-number-2 c =
    let ks = c.args.waiting.now.items in
    let middle = c.loop-low.low + (c.loop-low.high - c.loop-low.low) / 2 in
    let there = slice_get_read ks (length ks) middle c.index-here.result.now refl (omega (arith, c.loop-low-test.true, c.loop-low.invariant.within)) c.index-here.ensures in
    record {
      within = c.loop-low.invariant.within;
      below = below_then ks middle c.index-here.result.now c.args.number c.requires there (omega (arith, c.if-here-number-2.true));
      above = c.loop-low.invariant.above;
    }

pub loop-low-preserved : goal.loop-low-preserved
loop-low-preserved c =
    let ks = c.args.waiting.now.items in
    let middle = c.loop-low.low + (c.loop-low.high - c.loop-low.low) / 2 in
    let there = slice_get_read ks (length ks) middle c.index-here.result.now refl (omega (arith, c.loop-low-test.true, c.loop-low.invariant.within)) c.index-here.ensures in
    record {
      within = omega (arith, c.loop-low.invariant.within);
      below = c.loop-low.invariant.below;
      above = above_then ks middle c.index-here.result.now c.args.number c.requires there (omega (arith, c.if-here-number.false, c.if-here-number-2.false));
    }

pub returns : goal.returns
returns c =
    sym (nowhere_found (has_number c.args.number) c.args.waiting.now.items
    (λ i k there.
    ne_eqb k.exchange.number c.args.number
    (λ same.
    elim (cases_lt i c.loop-low.low) [
      | inl less ↦ omega (arith, same, c.loop-low.invariant.below i k there less)
      | inr more ↦ omega (arith, same, c.loop-low.invariant.above i k there (omega (arith, more, c.loop-low-test.false)))
    ])))
