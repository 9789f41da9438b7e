use Rattle.std.proofs.Common.{◌≡◌, ◌+◌, ◌≤◌}
use Rattle.dots_edge.specs.declared.waiting.Accepting.TheVariants as accepting
use Rattle.dots_edge.specs.Accepts.{times_tried}
use Rattle.dots_edge.proofs.ends.Ends.next_opened.Given as goal

abbrev pub invariant-loop : goal.invariant-loop
invariant-loop l = record {
  connections : l.self.connections ≡ l.initial.self.connections;
  clock : l.self.clock ≡ l.initial.self.clock;
  waited : l.self.sockets.waits ≡ l.initial.self.sockets.waits;
  ticks : l.self.ticks ≡ l.initial.self.ticks;
  time : l.self.time ≡ l.initial.self.time;
  signals : l.self.sockets.signals ≡ l.initial.self.sockets.signals;
  waits : l.self.waiting.connections ≡ accepting.Yes;
  tried : times_tried l.initial.self.sockets + l.counter ≤ times_tried l.self.sockets;
}
