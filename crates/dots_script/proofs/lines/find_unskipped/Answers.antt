use Rattle.std.proofs.Common.{◌+◌, refl, arith, take, sym, subst, List, ℕ}
use Rattle.dots_script.specs.Script.{IsSkipped}
use Rattle.dots_script.specs.Lines.{Skips, to_come}
use Rattle.dots_script.proofs.LineReading.{skips_more}
use Rattle.dots_script.proofs.lines.find_unskipped.Goals as goal

pub skips-preserved : goal.skips-preserved
skips-preserved g c =
    let left = g.S.Source.left in
    let skip = subst (λ (bytes : List ℕ). IsSkipped (take c.in-Line.len bytes)) c.bytes.ensures (c.if-not-is_skipped.ensures.0 refl) in
    let more = skips_more _ _ (left c.find_line-found.new.source) c.find_line-found.new.block c.in-Line.len c.skips.count c.skips.invariant.passed c.in-Line.ensures.kept c.in-Line.ensures.found skip in
    record {
      passed = subst (λ (ahead : List ℕ). Skips (to_come c.args.block.now (left c.args.source.now)) (to_come ahead (left c.find_line-found.new.source)) (c.skips.count + 1)) (sym c.pass.ensures) more;
      later = omega (arith, c.skips.invariant.later, c.in-Line.ensures.later);
    }
