use Rattle.std.proofs.Common.{◌+◌, ◌-◌, sym, ap, ◌∙◌, ◌++◌, append-nil, arith}
use Rattle.server_figures.specs.Figures.{status_line}
use Rattle.server_figures.proofs.Ranges.{from_none, from_next}
use Rattle.server_figures.proofs.sent.add_each_status.Goals as goal

pub loop-status-init : goal.loop-status-init
loop-status-init c = record {
  low = omega arith;
  added = sym (append-nil c.args.text.now.items) ∙ ap (λ more. c.args.text.now.items ++ more) (sym (from_none (status_line c.args.tally.now) 100));
}

pub loop-status-preserved : goal.loop-status-preserved
loop-status-preserved c = record {
  low = omega (arith, c.loop-status.invariant.low);
  added = from_next (status_line c.args.tally.now) 100 (c.loop-status.status - 100) c.loop-status.status (c.loop-status.status + 1 - 100) c.args.text.now.items c.loop-status.text.items c.add_status.new.text.items
      (omega (arith, c.loop-status.invariant.low)) (omega (arith, c.loop-status.invariant.low)) c.loop-status.invariant.added c.in_ok-add_status.ensures;
}
