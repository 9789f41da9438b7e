-- what is still to come comes to the same
use Rattle.std.proofs.Common.{◌≡◌, length}
use Rattle.std.specs.Prelude.{vec_capacity}
use Rattle.dots_client.specs.Waiting.{pairs}
use Rattle.dots_client.specs.Client.{repeat_answer, repeat_after}
use Rattle.dots_client.proofs.waiting.repeat_next.Given as goal

abbrev pub invariant-loop-turn : goal.invariant-loop-turn
invariant-loop-turn l = record {
  beside : length l.requests.items ≡ length l.sender.sent;
  after : repeat_after l.now (pairs l.requests.items l.sender.sent) ≡ repeat_after l.now (pairs l.fn.requests.items l.fn.sender.sent);
  answer : repeat_answer l.now (pairs l.requests.items l.sender.sent) ≡ repeat_answer l.now (pairs l.fn.requests.items l.fn.sender.sent);
  capacity : vec_capacity l.requests ≡ vec_capacity l.fn.requests;
  room : l.sender.room ≡ l.fn.sender.room;
}

abbrev pub decreases-loop-turn : goal.decreases-loop-turn
decreases-loop-turn l = length l.sender.sent
