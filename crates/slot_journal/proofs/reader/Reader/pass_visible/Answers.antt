use Rattle.std.proofs.Common.{◌≡◌, ◌+◌, ◌-◌, ◌++◌, ◌∷◌, [], ℕ, take, add-one, length, Ok, sym, ap, ◌∙◌, arith}
use Rattle.std.specs.Char.{is_ascii_graphic}
use Rattle.std.proofs.lemmas.Result.{err_from_is_err_and}
use Rattle.slot_journal.specs.RecordReading.{byte_at}
use Rattle.slot_journal.proofs.Loops.{items_stop, items_go, items_done, next_front}
use Rattle.slot_journal.proofs.reader.Reader.pass_visible.Goals as goal

pub returns-in_err-visible-clause-value : goal.returns-in_err-visible-clause-value
returns-in_err-visible-clause-value c =
    let p = err_from_is_err_and c.from_residual.result c.from_residual.ensures.1 in
    rw (p.1, p.2) (items_stop c.in_err-visible.field-0.0 (byte_at is_ascii_graphic) (c.args.count - c.loop.counter) c.loop.self.end (take c.loop.counter c.args.self.now.rest.now) c.loop.self.rest.now _ (omega (arith, c.loop-test.true)) c.in_err-visible.ensures.value c.loop.invariant.read)

pub loop-preserved : goal.loop-preserved
loop-preserved c =
    let next = next_front c.loop.counter c.args.self.now.rest.now c.in_ok-visible.field-0 c.visible.new.self.rest.now (sym c.loop.invariant.rest ∙ c.in_ok-visible.ensures.front) in
    let go = items_go (byte_at is_ascii_graphic) (c.args.count - c.loop.counter) (c.args.count - (c.loop.counter + 1)) c.loop.self.end (take c.loop.counter c.args.self.now.rest.now) c.in_ok-visible.field-0 c.loop.self.rest.now c.visible.new.self.rest.now _
    (omega (arith, c.loop-test.true)) c.in_ok-visible.ensures.value c.loop.invariant.read in
    let front : take (c.loop.counter + 1) c.args.self.now.rest.now ≡ take c.loop.counter c.args.self.now.rest.now ++ (c.in_ok-visible.field-0 ∷ []) = rw (add-one c.loop.counter) next.0 in
    record {
      read = rw (c.in_ok-visible.ensures.end, front) go;
      rest = rw (add-one c.loop.counter) (sym next.1);
      size = omega (arith, c.loop.invariant.size, ap (length {A = ℕ}) c.in_ok-visible.ensures.front);
      end = c.in_ok-visible.ensures.end ∙ c.loop.invariant.end;
    }

pub returns-clause-value : goal.returns-clause-value
returns-clause-value c =
    let all : c.loop.counter ≡ c.args.count = omega (arith, c.loop-test.false, c.loop.auto.counter-end) in
    items_done (byte_at is_ascii_graphic) (c.args.count - c.loop.counter) c.loop.self.end (take c.loop.counter c.args.self.now.rest.now) c.loop.self.rest.now _ (omega (arith, c.loop-test.false)) c.loop.invariant.read
    ∙ ap (λ (k : ℕ). Ok (take k c.args.self.now.rest.now, c.loop.self.rest.now)) all
