use Rattle.std.proofs.Common.{◌<◌, Some, ap, sym, ◌∙◌, drop, arith}
use Rattle.std.specs.Prelude.{slice_get}
use Rattle.held_resources.specs.Tables.{lost_in}
use Rattle.live_mitigations.specs.LiveRows.{mitigations_in}
use Rattle.dots_registry.specs.ObserverViews.{seen_among}
use Rattle.live_mitigations.proofs.LiveRows.{within, there}
use Rattle.dots_registry.proofs.Seeing.{skipped, passed, found_here}
use Rattle.dots_registry.proofs.viewing.seen_at.Goals as goal

pub returns-then-before-eq0 : goal.returns-then-before-eq0
returns-then-before-eq0 c = λ t.
    ap Some (c.seen.ensures t)
    ∙ sym (found_here
    (lost_in c.args.among.now.held.now)
    c.args.among.now.domain
    t
    c.args.cuid.now
    c.args.mid
    c.row-item.result.mitigation
    (mitigations_in c.args.among.now.rows.now)
    c.loop-row.row-index
    (within c.args.among.now.rows.now c.loop-row.row-index c.loop-row-test.true)
    (there c.args.among.now.rows.now c.loop-row.row-index c.row-item.result c.loop-row-test.true c.row-item.is)
    (sym (c.is_seen.ensures (lost_in c.args.among.now.held.now) c.args.among.now.domain t) ∙ c.if-not-is_seen.false))
    ∙ ap (slice_get (seen_among (lost_in c.args.among.now.held.now) c.args.among.now.domain t c.args.cuid.now c.args.mid (drop c.loop-row.row-index (mitigations_in c.args.among.now.rows.now)))) (sym c.if-before-eq0.true)
    ∙ c.loop-row.invariant.so_far t

pub loop-row-preserved : goal.loop-row-preserved
loop-row-preserved c =
    let some : 0 < c.loop-row.before = omega arith in
    record {
      so_far = λ t.
          passed
          (lost_in c.args.among.now.held.now)
          c.args.among.now.domain
          t
          c.args.cuid.now
          c.args.mid
          c.row-item.result.mitigation
          (mitigations_in c.args.among.now.rows.now)
          c.loop-row.row-index
          c.loop-row.before
          (slice_get (seen_among (lost_in c.args.among.now.held.now) c.args.among.now.domain t c.args.cuid.now c.args.mid (mitigations_in c.args.among.now.rows.now)) c.args.place)
          (within c.args.among.now.rows.now c.loop-row.row-index c.loop-row-test.true)
          (there c.args.among.now.rows.now c.loop-row.row-index c.row-item.result c.loop-row-test.true c.row-item.is)
          (sym (c.is_seen.ensures (lost_in c.args.among.now.held.now) c.args.among.now.domain t) ∙ c.if-not-is_seen.false)
          some
          (c.loop-row.invariant.so_far t);
    }

pub loop-row-preserved-then-not-is_seen : goal.loop-row-preserved-then-not-is_seen
loop-row-preserved-then-not-is_seen c = record {
  so_far = λ t.
      skipped
      (lost_in c.args.among.now.held.now)
      c.args.among.now.domain
      t
      c.args.cuid.now
      c.args.mid
      c.row-item.result.mitigation
      (mitigations_in c.args.among.now.rows.now)
      c.loop-row.row-index
      c.loop-row.before
      (slice_get (seen_among (lost_in c.args.among.now.held.now) c.args.among.now.domain t c.args.cuid.now c.args.mid (mitigations_in c.args.among.now.rows.now)) c.args.place)
      (within c.args.among.now.rows.now c.loop-row.row-index c.loop-row-test.true)
      (there c.args.among.now.rows.now c.loop-row.row-index c.row-item.result c.loop-row-test.true c.row-item.is)
      (sym (c.is_seen.ensures (lost_in c.args.among.now.held.now) c.args.among.now.domain t) ∙ c.if-not-is_seen.true)
      (c.loop-row.invariant.so_far t);
}
