use Rattle.std.proofs.Common.{◌+◌, ◌-◌, sym, ap, ◌∙◌, ◌++◌, append-nil, arith}
use Rattle.server_figures.specs.Figures.{code_line}
use Rattle.server_figures.proofs.Ranges.{from_none, from_next}
use Rattle.server_figures.proofs.sent.add_each_code.Goals as goal

pub loop-code-init : goal.loop-code-init
loop-code-init c = record {
  low = omega arith;
  added = sym (append-nil c.args.text.now.items) ∙ ap (λ more. c.args.text.now.items ++ more) (sym (from_none (code_line c.args.tally.now) 64));
}

pub loop-code-preserved : goal.loop-code-preserved
loop-code-preserved c = record {
  low = omega (arith, c.loop-code.invariant.low);
  added = from_next (code_line c.args.tally.now) 64 (c.loop-code.code - 64) c.loop-code.code (c.loop-code.code + 1 - 64) c.args.text.now.items c.loop-code.text.items c.add_code.new.text.items
      (omega (arith, c.loop-code.invariant.low)) (omega (arith, c.loop-code.invariant.low)) c.loop-code.invariant.added c.in_ok-add_code.ensures;
}
