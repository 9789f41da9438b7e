use Rattle.std.proofs.Common.{◌+◌, ◌*◌, ◌^◌, ◌<◌, map, ap, ◌∙◌, if◌then◌else◌, arith}
use Rattle.std.proofs.lemmas.List.{length-map}
use Rattle.conflict_rules.specs.ByOverlap.{meets_another, bits}
use Rattle.conflict_rules.proofs.Bits.{bit_more, bits_fit}
use Rattle.conflict_rules.proofs.meeting.marks.Goals as goal

pub loop-index-preserved : goal.loop-index-preserved
loop-index-preserved g c =
    bit_more (meets_another (map g.T.Mitigates.live c.args.live.now) c.args.cuid.now) c.index-prefixes-index.result c.args.prefixes.now
    c.args.place c.loop-index.index c.loop-index.marks c.bit-marks.result _
    c.loop-index-test.true c.index-prefixes-index.is
    (c.bit-marks.ensures ∙ ap (λ b. 2 ^ (c.args.place + c.loop-index.index) * (if b then 1 else 0)) c.meets_another.ensures)
    c.loop-index.invariant

pub overflow_add-marks : goal.overflow_add-marks
overflow_add-marks g c =
    let all = map (meets_another (map g.T.Mitigates.live c.args.live.now) c.args.cuid.now) c.args.prefixes.now in
    let fit : 2 ^ c.args.place * bits all < 2 ^ 128 = bits_fit c.args.place all (rw (length-map c.args.prefixes.now (meets_another (map g.T.Mitigates.live c.args.live.now) c.args.cuid.now)) c.requires) in
    let more = loop-index-preserved g c in
    omega (arith, fit, more)
