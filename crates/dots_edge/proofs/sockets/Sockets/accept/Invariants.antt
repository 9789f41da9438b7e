use Rattle.std.proofs.Common.{◌≡◌, ℕ, ◌+◌, ◌<◌, ◌≤◌, vec_len}
use Rattle.dots_edge.specs.declared.listener.Accepted.TheVariants as accepted
use Rattle.dots_edge.specs.Turns.{whose_turn}
use Rattle.dots_edge.specs.Accepts.{HasGivenAt, listener_at, times_tried}
use Rattle.dots_edge.proofs.TurnLemmas.{wrapped, ahead_of}
use Rattle.dots_edge.proofs.sockets.Sockets.accept.Given as goal

abbrev pub invariant-loop : goal.invariant-loop
invariant-loop l =
    let count = vec_len l.initial.self.listeners in
    let first = whose_turn l.initial.self.listener_turn count in
    record {
      many : vec_len l.self.listeners ≡ count;
      kept : l.self ≡ record l.initial.self { listeners = l.self.listeners; listener_turn = l.self.listener_turn };
      turn : whose_turn l.self.listener_turn count ≡ wrapped count (first + l.counter);
      empty : (at : ℕ) → at < count → ahead_of count first at < l.counter → HasGivenAt accepted.Nothing at l.initial.self l.self;
      same : (at : ℕ) → at < count → l.counter ≤ ahead_of count first at → listener_at l.self at ≡ listener_at l.initial.self at;
      tried : times_tried l.initial.self ≤ times_tried l.self;
    }
