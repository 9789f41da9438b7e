use Rattle.std.proofs.Common.{◌≡◌, ◌≤◌, length, take}
use Rattle.dots_host.specs.Writing.{Owes}
use Rattle.dots_script.proofs.HexPieces.{owed}
use Rattle.dots_script.proofs.send_line.write_hex.Given as goal

abbrev pub invariant-loop-rest : goal.invariant-loop-rest
invariant-loop-rest g l = record { end : l.end ≤ 16; owes : Owes (g.K.Sink.holds l.fn.sink) (g.K.Sink.holds l.sink) (owed (take l.fn.head l.fn.room) l.fn.bytes) (owed (take l.end l.room) l.rest); same : g.K.Sink.faults l.sink ≡ g.K.Sink.faults l.fn.sink }

abbrev pub decreases-loop-rest : goal.decreases-loop-rest
decreases-loop-rest g l = length l.rest
