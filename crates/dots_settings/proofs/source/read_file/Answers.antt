use Rattle.std.proofs.Common.{◌≡◌, [], length, rules, sym, ◌∙◌, arith, append-nil, vec_len}
use Rattle.std.proofs.KnownBytes.{Consumes-trans}
use Rattle.dots_settings.proofs.Bytes.{read_to_end, read_enough, through_to_end, through_enough, less_left}
use Rattle.dots_settings.proofs.source.read_file.Goals as goal

pub returns-then-count-eq0-clause-bytes : goal.returns-then-count-eq0-clause-bytes
returns-then-count-eq0-clause-bytes g c =
    let none = rw c.if-count-eq0.true at c.in-Ok.ensures.bytes.0 in
    let all = rw append-nil at (Consumes-trans _ _ _ c.loop-block.bytes.items [] c.loop-block.invariant.read none) in
    let size : length c.loop-block.bytes.items ≡ vec_len c.loop-block.bytes = sym c.loop-block.bytes.ok.0 in
    read_to_end _ _ c.loop-block.bytes.items 65537 all (c.in-Ok.ensures.bytes.1 c.if-count-eq0.true (omega arith)) (omega (arith, c.len.ensures, size))

pub returns-clause-bytes : goal.returns-clause-bytes
returns-clause-bytes g c =
    let size : length c.loop-block.bytes.items ≡ vec_len c.loop-block.bytes = sym c.loop-block.bytes.ok.0 in
    rw c.truncate.ensures.items (read_enough _ _ c.loop-block.bytes.items 65537 c.loop-block.invariant.read (omega (arith, c.len.ensures, size)))

pub returns-then-count-eq0-clause-through : goal.returns-then-count-eq0-clause-through
returns-then-count-eq0-clause-through g c =
    let none = rw c.if-count-eq0.true at c.in-Ok.ensures.bytes.0 in
    let all = rw append-nil at (Consumes-trans _ _ _ c.loop-block.bytes.items [] c.loop-block.invariant.read none) in
    through_to_end _ _ c.loop-block.bytes.items all (c.in-Ok.ensures.bytes.1 c.if-count-eq0.true (omega arith))

pub returns-clause-through : goal.returns-clause-through
returns-clause-through g c =
    let size : length c.loop-block.bytes.items ≡ vec_len c.loop-block.bytes = sym c.loop-block.bytes.ok.0 in
    through_enough _ _ c.loop-block.bytes.items c.loop-block.invariant.read (omega (arith, c.len.ensures, size))

pub returns-in_default : goal.returns-in_default
returns-in_default g c =
    let cause = rw c.loop-block.invariant.same at c.in_default.ensures.cause in record {
      bytes = tt;
      few = tt;
      through = tt;
      same = tt;
      unread = search rules;
      cause = λ _. cause.rose;
      later = cause.later;
    }

pub loop-block-preserved : goal.loop-block-preserved
loop-block-preserved g c = record {
  same = c.in-Ok.ensures.cause.same ∙ c.loop-block.invariant.same;
  read = rw c.in_ok-extend_from_slice.ensures.items (Consumes-trans _ _ _ c.loop-block.bytes.items _ c.loop-block.invariant.read c.in-Ok.ensures.bytes.0);
}

pub returns-then-count-eq0-clause-same : goal.returns-then-count-eq0-clause-same
returns-then-count-eq0-clause-same g c = c.in-Ok.ensures.cause.same ∙ c.loop-block.invariant.same

pub returns-then-count-eq0-clause-later : goal.returns-then-count-eq0-clause-later
returns-then-count-eq0-clause-later g c = rw c.loop-block.invariant.same at c.in-Ok.ensures.cause.later

pub returns-clause-same : goal.returns-clause-same
returns-clause-same g c = c.loop-block.invariant.same

pub loop-block-smaller : goal.loop-block-smaller
loop-block-smaller g c = less_left 65537 _ _ c.in-Ok.count _ c.in_ok-extend_from_slice.ensures.len c.in-Ok.ensures.bound.1 c.if-count-eq0.false (rw c.len.ensures at c.loop-block-test.true)
