use Rattle.std.proofs.Common.{ℕ, sym, arith}
use Rattle.std.specs.Prelude.{◌==◌}
use Rattle.std.proofs.lemmas.Bool.{eq-eqb}
use Rattle.std.proofs.lemmas.List.Sums.{position_or_len_is}
use Rattle.data_channel.proofs.place.place_of_first.Goals as goal

pub returns-then-bytes-at-clause-place : goal.returns-then-bytes-at-clause-place
returns-then-bytes-at-clause-place c =
    sym (position_or_len_is (λ (byte : ℕ). byte == c.args.wanted) c.args.bytes.now c.loop-at.at 0 c.loop-at.invariant.0 c.loop-at.invariant.1 (λ lt. eq-eqb _ c.args.wanted c.if-bytes-at.true))

pub returns-clause-place : goal.returns-clause-place
returns-clause-place c =
    let bytes = c.args.bytes.now in
    sym (position_or_len_is (λ (byte : ℕ). byte == c.args.wanted) bytes c.loop-at.at 0 c.loop-at.invariant.0 c.loop-at.invariant.1 (λ lt. absurd (omega (arith, lt, c.loop-at-test.false))))
