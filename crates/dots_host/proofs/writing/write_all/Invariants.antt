use Rattle.std.proofs.Common.{◌≡◌, ◌-◌, ◌≤◌, length, take}
use Rattle.std.specs.Io.KnownBytes.{Appends}
use Rattle.dots_host.proofs.writing.write_all.Given as goal

abbrev pub invariant-loop-written : goal.invariant-loop-written
invariant-loop-written g l = record { within : l.written ≤ length l.bytes; so_far : Appends (g.K.Sink.holds l.fn.sink) (g.K.Sink.holds l.sink) (take l.written l.bytes); same : g.K.Sink.faults l.sink ≡ g.K.Sink.faults l.fn.sink }

abbrev pub decreases-loop-written : goal.decreases-loop-written
decreases-loop-written g l = length l.bytes - l.written
