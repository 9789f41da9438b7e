use Rattle.std.proofs.Common.{[], ap, sym, add-one, take_all, append-nil}
use Rattle.dots_machine.specs.Report.{ports_text}
use Rattle.dots_server.proofs.CommaTexts.{behind_comma, first_and_others}
use Rattle.dots_server.proofs.Puts.{puts_same, puts_more}
use Rattle.dots_server.proofs.report.put_ports.Goals as goal

pub loop-range-init : goal.loop-range-init
loop-range-init g c = record {
  before = ports_text c.in-Some.first.now;
  whole = first_and_others ports_text [] _ c.in-Some.first.now c.in-Some.others.now c.in-Some.ensures.cases.0;
  puts = puts_same _ _ _ _ _ _ (sym (append-nil _)) c.put_range.ensures;
}

pub loop-range-preserved : goal.loop-range-preserved
loop-range-preserved g c =
    let i = c.loop-range.range-index in record {
      before = c.loop-range.invariant.before;
      whole = c.loop-range.invariant.whole;
      puts = rw (add-one i) (
          puts_more (behind_comma ports_text) _ _ _ _ _ _ c.loop-range.invariant.before c.in-Some.others.now i c.range-item.result (behind_comma ports_text c.range-item.result) c.loop-range-test.true (ap (behind_comma ports_text) c.range-item.is)
          c.loop-range.invariant.puts c.put_range-in-loop-range.ensures
          );
    }

pub returns : goal.returns
returns g c =
    let all = rw (take_all c.loop-range.range-index c.in-Some.others.now c.loop-range-test.false) at c.loop-range.invariant.puts in
    puts_same _ _ _ _ _ _ (sym c.loop-range.invariant.whole) all
