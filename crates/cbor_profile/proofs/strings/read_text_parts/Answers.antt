use Rattle.std.proofs.Common.{◌-◌, ◌+◌, length, sym, ap, ◌∙◌, arith}
use Rattle.std.specs.Prelude.{string_bytes}
use Rattle.std.proofs.lemmas.Result.{err_from_is_err_and}
use Rattle.cbor_profile.specs.declared.major.Major.TheVariants as major_type
use Rattle.cbor_profile.specs.ItemReading.{parts_at, as_text}
use Rattle.cbor_profile.proofs.Made.{text_fails, text_made}
use Rattle.cbor_profile.proofs.Loops.{parts_short, parts_spent, parts_end, parts_reserved, parts_fail, parts_go}
use Rattle.cbor_profile.proofs.strings.read_text_parts.Goals as goal

pub returns-in_default-clause-value : goal.returns-in_default-clause-value
returns-in_default-clause-value c = ap as_text (parts_short (length c.args.bytes.now - c.loop.counter) c.args.end major_type.Text (string_bytes c.loop.string) c.loop.rest.now _ c.in_default.ensures.cases c.loop.invariant.read)

pub returns-then-first-clause-value : goal.returns-then-first-clause-value
returns-then-first-clause-value c =
    let end = parts_end (length c.args.bytes.now - c.loop.counter) c.args.end major_type.Text (string_bytes c.loop.string) c.loop.rest.now c.in-Some.behind.now c.in-Some.first.now _ (omega (arith, c.loop-test.true)) c.in-Some.ensures.cases.0 c.if-first.true c.loop.invariant.read in
    text_made (parts_at (length c.args.bytes.now) c.args.end major_type.Text c.args.bytes.now) c.from_string.result c.in-Some.behind.now (rw c.from_string.ensures end)

pub returns-then-not-is_part-clause-value : goal.returns-then-not-is_part-clause-value
returns-then-not-is_part-clause-value c =
    let other = sym c.is_part.ensures ∙ c.if-not-is_part.true in
    ap as_text (parts_reserved (length c.args.bytes.now - c.loop.counter) c.args.end major_type.Text (string_bytes c.loop.string) c.loop.rest.now c.in-Some.behind.now c.in-Some.first.now _ (omega (arith, c.loop-test.true)) c.in-Some.ensures.cases.0 c.if-first.false other c.loop.invariant.read)

pub returns-in_err-part-clause-value : goal.returns-in_err-part-clause-value
returns-in_err-part-clause-value c =
    let part = sym c.is_part.ensures ∙ c.if-not-is_part.false in
    let p = err_from_is_err_and c.from_residual.result c.from_residual.ensures.1 in
    rw (p.1, p.2) (
    text_fails c.in_err-part.field-0.0 (parts_at (length c.args.bytes.now) c.args.end major_type.Text c.args.bytes.now) (
    parts_fail c.in_err-part.field-0.0 (length c.args.bytes.now - c.loop.counter) c.args.end major_type.Text (string_bytes c.loop.string) c.loop.rest.now c.in-Some.behind.now c.in-Some.first.now _ (omega (arith, c.loop-test.true)) c.in-Some.ensures.cases.0
    c.if-first.false part c.in_err-part.ensures.value c.loop.invariant.read
    ))

pub loop-preserved : goal.loop-preserved
loop-preserved c =
    let part = sym c.is_part.ensures ∙ c.if-not-is_part.false in
    let rest = ap length c.in-Some.ensures.cases.0 in
    rw c.in_ok-push_str.ensures.bytes (
    record {
      read =
          parts_go (length c.args.bytes.now - c.loop.counter) (length c.args.bytes.now - (c.loop.counter + 1)) c.args.end major_type.Text (string_bytes c.loop.string) c.loop.rest.now c.in-Some.behind.now c.in_ok-part.part.now c.in_ok-part.after.now c.in-Some.first.now _
          (omega (arith, c.loop-test.true)) c.in-Some.ensures.cases.0 c.if-first.false part c.in_ok-part.ensures.value c.loop.invariant.read;
      shorter = omega (arith, c.in_ok-part.ensures.shorter, c.loop.invariant.shorter);
    }
    )

pub returns-clause-value : goal.returns-clause-value
returns-clause-value c = ap as_text (parts_spent (length c.args.bytes.now - c.loop.counter) c.args.end major_type.Text (string_bytes c.loop.string) c.loop.rest.now _ (omega (arith, c.loop-test.false)) c.loop.invariant.read)
