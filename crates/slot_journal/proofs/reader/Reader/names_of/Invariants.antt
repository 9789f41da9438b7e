use Rattle.std.proofs.Common.{◌≡◌, ◌-◌}
use Rattle.slot_journal.specs.RecordReading.{items_at, name_at}
use Rattle.slot_journal.proofs.Loops.{with_front}
use Rattle.slot_journal.proofs.reader.Reader.names_of.Given as goal

-- the items so far and those to come are all of them
abbrev pub invariant-loop : goal.invariant-loop
invariant-loop l = record {
  read : with_front l.names (items_at name_at (l.count - l.counter) l.self.end l.self.rest.now) ≡ items_at name_at l.count l.fn.self.end l.fn.self.rest.now;
  end : l.self.end ≡ l.fn.self.end;
}
