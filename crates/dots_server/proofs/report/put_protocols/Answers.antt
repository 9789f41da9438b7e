use Rattle.std.proofs.Common.{[], sym, refl, get_or, decimal, add-one, take_all, append-nil}
use Rattle.dots_server.proofs.CommaTexts.{behind_comma, first_and_others}
use Rattle.dots_server.proofs.Puts.{puts_same, puts_more}
use Rattle.dots_server.proofs.report.put_protocols.Goals as goal

pub loop-protocol-init : goal.loop-protocol-init
loop-protocol-init g c = record {
  before = decimal c.in-Some.first.now;
  whole = first_and_others decimal [] _ c.in-Some.first.now c.in-Some.others.now c.in-Some.ensures.cases.0;
  puts = puts_same _ _ _ _ _ _ (sym (append-nil _)) c.put_protocol.ensures;
}

pub loop-protocol-preserved : goal.loop-protocol-preserved
loop-protocol-preserved g c =
    let i = c.loop-protocol.protocol-index in record {
      before = c.loop-protocol.invariant.before;
      whole = c.loop-protocol.invariant.whole;
      puts = rw (add-one i) (
          puts_more (behind_comma decimal) _ _ _ _ _ _ c.loop-protocol.invariant.before c.in-Some.others.now i 0 (behind_comma decimal (get_or c.in-Some.others.now i 0)) c.loop-protocol-test.true refl
          c.loop-protocol.invariant.puts c.put_protocol-in-loop-protocol.ensures
          );
    }

pub returns : goal.returns
returns g c =
    let all = rw (take_all c.loop-protocol.protocol-index c.in-Some.others.now c.loop-protocol-test.false) at c.loop-protocol.invariant.puts in
    puts_same _ _ _ _ _ _ (sym c.loop-protocol.invariant.whole) all
