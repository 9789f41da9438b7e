use Rattle.std.proofs.Common.{◌≡◌, ℕ, ◌+◌, ◌<◌, ◌≤◌, [], vec_len}
use Rattle.dots_edge.specs.declared.signal.Received.TheVariants as received
use Rattle.dots_edge.specs.Turns.{whose_turn}
use Rattle.dots_edge.specs.Datagrams.{HasReceivedAt, signal_at, times_asked}
use Rattle.dots_edge.proofs.TurnLemmas.{wrapped, ahead_of}
use Rattle.dots_edge.proofs.sockets.Sockets.receive.Given as goal

abbrev pub invariant-loop : goal.invariant-loop
invariant-loop l =
    let count = vec_len l.initial.self.signals in
    let first = whose_turn l.initial.self.signal_turn count in
    record {
      many : vec_len l.self.signals ≡ count;
      kept : l.self ≡ record l.initial.self { signals = l.self.signals; signal_turn = l.self.signal_turn };
      turn : whose_turn l.self.signal_turn count ≡ wrapped count (first + l.counter);
      empty : (place : ℕ) → place < count → ahead_of count first place < l.counter → HasReceivedAt received.Nothing place [] l.initial.self l.self;
      same : (place : ℕ) → place < count → l.counter ≤ ahead_of count first place → signal_at l.self place ≡ signal_at l.initial.self place;
      asked : times_asked l.initial.self ≤ times_asked l.self;
    }
