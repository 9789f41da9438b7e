-- those from the place on have been put back
use Rattle.std.proofs.Common.{◌≡◌, ◌+◌, ◌-◌, ◌≤◌, length, drop, map}
use Rattle.std.specs.HashMap.{spare}
use Rattle.std.specs.VecDeque.{deque_capacity}
use Rattle.dots_gateway.specs.Exchanges.{waiting_again}
use Rattle.dots_gateway.specs.Finding.{AreLinked, AreNumbered}
use Rattle.dots_gateway.proofs.restoring.put_back.Given as goal

abbrev pub invariant-loop-at : goal.invariant-loop-at
invariant-loop-at l = record {
  within : l.at ≤ length l.exchanges;
  waiting : l.waiting.items ≡ map waiting_again (drop l.at l.exchanges);
  linked : AreLinked l.links.items l.waiting.items;
  numbered : AreNumbered l.numbers.entries l.waiting.items;
  capacity : deque_capacity l.waiting ≡ deque_capacity l.fn.waiting;
  reserved : deque_capacity l.links ≡ deque_capacity l.fn.links;
  spared : spare l.fn.numbers ≤ spare l.numbers + (length l.exchanges - l.at);
  none : l.at ≡ length l.exchanges → spare l.numbers ≡ spare l.fn.numbers;
}

abbrev pub decreases-loop-at : goal.decreases-loop-at
decreases-loop-at l = l.at
