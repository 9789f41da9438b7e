use Rattle.std.proofs.Common.{◌≡◌, [], length, sym, ◌∙◌, arith, append-nil, vec_len}
use Rattle.std.proofs.KnownBytes.{Consumes-trans}
use Rattle.dots_settings.proofs.Bytes.{read_to_end, read_enough}
use Rattle.dots_script.proofs.Wholes.{read_whole}
use Rattle.dots_script.proofs.reading.read_front.Goals as goal

pub returns-then-count-eq0-clause-bytes : goal.returns-then-count-eq0-clause-bytes
returns-then-count-eq0-clause-bytes g c =
    let none = rw c.if-count-eq0.true at c.in-Ok.ensures.bytes.0 in
    let all = rw append-nil at (Consumes-trans _ _ _ c.loop-block.bytes.items [] c.loop-block.invariant.read none) in
    let size : length c.loop-block.bytes.items ≡ vec_len c.loop-block.bytes = sym c.loop-block.bytes.ok.0 in
    read_to_end _ _ c.loop-block.bytes.items c.args.most all (c.in-Ok.ensures.bytes.1 c.if-count-eq0.true (omega arith)) (omega (arith, c.len.ensures, size))

pub returns-clause-bytes : goal.returns-clause-bytes
returns-clause-bytes g c =
    let size : length c.loop-block.bytes.items ≡ vec_len c.loop-block.bytes = sym c.loop-block.bytes.ok.0 in
    rw c.truncate.ensures.items (read_enough _ _ c.loop-block.bytes.items c.args.most c.loop-block.invariant.read (omega (arith, c.len.ensures, size)))

pub returns-then-count-eq0-clause-whole : goal.returns-then-count-eq0-clause-whole
returns-then-count-eq0-clause-whole g c = λ short.
    let none = rw c.if-count-eq0.true at c.in-Ok.ensures.bytes.0 in
    let all = rw append-nil at (Consumes-trans _ _ _ c.loop-block.bytes.items [] c.loop-block.invariant.read none) in
    read_whole _ _ c.loop-block.bytes.items all (c.in-Ok.ensures.bytes.1 c.if-count-eq0.true (omega arith))

pub returns-in_default : goal.returns-in_default
returns-in_default g c = record {
  bytes = tt;
  few = tt;
  whole = tt;
  same = tt;
  cause = λ _. rw c.loop-block.invariant.same at c.in_default.ensures.cause.rose;
}

pub loop-block-preserved : goal.loop-block-preserved
loop-block-preserved g c = record {
  same = c.in-Ok.ensures.cause.same ∙ c.loop-block.invariant.same;
  read = rw c.in_ok-extend_from_slice.ensures.items (Consumes-trans _ _ _ c.loop-block.bytes.items _ c.loop-block.invariant.read c.in-Ok.ensures.bytes.0);
}
