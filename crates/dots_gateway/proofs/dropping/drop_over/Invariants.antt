-- those that were over have gone so far
use Rattle.std.proofs.Common.{◌≡◌, [], length}
use Rattle.std.specs.HashMap.{spare}
use Rattle.std.specs.VecDeque.{deque_capacity}
use Rattle.dots_gateway.specs.Exchanges.{left_at}
use Rattle.dots_gateway.specs.Finding.{AreInOrder, AreLinked, AreNumbered}
use Rattle.dots_gateway.proofs.dropping.drop_over.Given as goal

abbrev pub invariant-loop-waiting : goal.invariant-loop-waiting
invariant-loop-waiting l = record {
  left : left_at l.now l.waiting.items ≡ left_at l.now l.fn.waiting.items;
  order : AreInOrder l.waiting.items;
  linked : AreLinked l.links.items l.waiting.items;
  numbered : AreNumbered l.numbers.entries l.waiting.items;
  capacity : deque_capacity l.waiting ≡ deque_capacity l.fn.waiting;
  reserved : deque_capacity l.links ≡ deque_capacity l.fn.links;
  none : l.fn.waiting.items ≡ [] → (l.waiting.items ≡ []) × (spare l.numbers ≡ spare l.fn.numbers);
}

abbrev pub decreases-loop-waiting : goal.decreases-loop-waiting
decreases-loop-waiting l = length l.waiting.items
