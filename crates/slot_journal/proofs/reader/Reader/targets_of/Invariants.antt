use Rattle.std.proofs.Common.{◌≡◌, ◌-◌, ◌≤◌}
use Rattle.slot_journal.specs.RecordReading.{targets_at}
use Rattle.slot_journal.proofs.Loops.{with_front}
use Rattle.slot_journal.proofs.reader.Reader.targets_of.Given as goal

-- the targets so far and those to come are all of them
abbrev pub invariant-loop : goal.invariant-loop
invariant-loop l = record {
  read : with_front l.targets (targets_at (l.count - l.counter) l.room l.self.end l.self.rest.now) ≡ targets_at l.count 128 l.fn.self.end l.fn.self.rest.now;
  end : l.self.end ≡ l.fn.self.end;
  room : l.room ≤ 128;
}
