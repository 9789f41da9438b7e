use Rattle.std.proofs.Common.{◌≡◌, ◌++◌, map, take, drop}
use Rattle.held_resources.specs.Tables.{signal_with}
use Rattle.held_resources.proofs.signals.note_all.Given as goal

abbrev pub invariant-loop-signal : goal.invariant-loop-signal
invariant-loop-signal l =
    l.signals ≡ map (signal_with l.entry) (take l.signal-index l.fn.signals) ++ drop l.signal-index l.fn.signals
