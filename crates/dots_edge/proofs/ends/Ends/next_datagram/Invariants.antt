use Rattle.std.proofs.Common.{◌≡◌, ◌+◌, ◌≤◌, true}
use Rattle.dots_edge.specs.Datagrams.{times_asked}
use Rattle.dots_edge.proofs.ends.Ends.next_datagram.Given as goal

abbrev pub invariant-loop : goal.invariant-loop
invariant-loop l = record {
  connections : l.self.connections ≡ l.initial.self.connections;
  clock : l.self.clock ≡ l.initial.self.clock;
  ticks : l.self.ticks ≡ l.initial.self.ticks;
  time : l.self.time ≡ l.initial.self.time;
  listeners : l.self.sockets.listeners ≡ l.initial.self.sockets.listeners;
  waits : l.self.waiting.datagrams ≡ true;
  asked : times_asked l.initial.self.sockets + l.counter ≤ times_asked l.self.sockets;
}
