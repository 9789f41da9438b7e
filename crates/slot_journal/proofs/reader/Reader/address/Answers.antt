use Rattle.std.proofs.Common.{◌≡◌, ℕ, ◌+◌, ◌-◌, ◌*◌, ◌%◌, ◌^◌, ◌<◌, ◌∙◌, subst, arith}
use Rattle.std.proofs.lemmas.Result.{err_from_is_err_and}
use Rattle.slot_journal.proofs.Loops.{address_stop, address_go, address_done, fits_more, fits_wide}
use Rattle.slot_journal.proofs.Digits.{zeros_more}
use Rattle.slot_journal.proofs.reader.Reader.address.Goals as goal

pub returns-in_err-byte-clause-value : goal.returns-in_err-byte-clause-value
returns-in_err-byte-clause-value c =
    let p = err_from_is_err_and c.from_residual.result c.from_residual.ensures.1 in
    rw (p.1, p.2) (address_stop c.in_err-byte.field-0.0 (c.args.count - c.loop.counter) c.loop.bits c.loop.self.end c.loop.number c.loop.self.rest.now _ (omega (arith, c.loop-test.true)) c.in_err-byte.ensures.value c.loop.invariant.read)

pub overflow_mul-number : goal.overflow_mul-number
overflow_mul-number c = omega (arith, fits_wide c.loop.number c.loop.counter 0 c.loop.invariant.fits (omega (arith, c.loop-test.true, c.requires)) (omega arith))

pub overflow_add-number : goal.overflow_add-number
overflow_add-number c = omega (arith, fits_wide c.loop.number c.loop.counter c.from.result c.loop.invariant.fits (omega (arith, c.loop-test.true, c.requires)) (omega (arith, c.from.ensures)))

pub loop-preserved : goal.loop-preserved
loop-preserved c =
    let go = address_go (c.args.count - c.loop.counter) (c.args.count - (c.loop.counter + 1)) c.loop.bits c.loop.self.end c.loop.number c.in_ok-byte.byte c.loop.self.rest.now c.leading.new.self.rest.now _
    (omega (arith, c.loop-test.true)) c.in_ok-byte.ensures.value c.loop.invariant.read in
    record {
      read = rw (c.in_ok-byte.ensures.end, c.saturating_sub-bits.ensures, c.from.ensures) go;
      fits = fits_more c.loop.number c.loop.counter c.from.result c.loop.invariant.fits (omega (arith, c.from.ensures));
      end = c.in_ok-byte.ensures.end ∙ c.loop.invariant.end;
      bits = omega (arith, c.saturating_sub-bits.ensures, c.loop.invariant.bits);
      zeros =
          zeros_more c.loop.counter c.args.bits c.loop.number c.from.result c.loop.invariant.zeros
          (rw (c.from.ensures, ← c.loop.invariant.bits) c.in_ok-byte.ensures.zeros) (omega (arith, c.from.ensures));
    }

pub returns-clause-value : goal.returns-clause-value
returns-clause-value c = address_done (c.args.count - c.loop.counter) c.loop.bits c.loop.self.end c.loop.number c.loop.self.rest.now _ (omega (arith, c.loop-test.false)) c.loop.invariant.read

pub returns-clause-fits : goal.returns-clause-fits
returns-clause-fits c =
    let all : c.loop.counter ≡ c.args.count = omega (arith, c.loop-test.false, c.loop.auto.counter-end) in
    subst (λ (k : ℕ). c.loop.number < 256 ^ k) all c.loop.invariant.fits

pub returns-clause-zeros : goal.returns-clause-zeros
returns-clause-zeros c =
    let all : c.loop.counter ≡ c.args.count = omega (arith, c.loop-test.false, c.loop.auto.counter-end) in
    subst (λ (k : ℕ). c.loop.number % 2 ^ (8 * k - c.args.bits) ≡ 0) all c.loop.invariant.zeros
