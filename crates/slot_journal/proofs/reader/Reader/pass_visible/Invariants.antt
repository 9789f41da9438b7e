use Rattle.std.proofs.Common.{◌≡◌, ◌+◌, ◌-◌, length, take, drop}
use Rattle.std.specs.Char.{is_ascii_graphic}
use Rattle.slot_journal.specs.RecordReading.{byte_at, items_at}
use Rattle.slot_journal.proofs.Loops.{with_front}
use Rattle.slot_journal.proofs.reader.Reader.pass_visible.Given as goal

-- the characters so far and those to come are all of them
abbrev pub invariant-loop : goal.invariant-loop
invariant-loop l = record {
  read : with_front (take l.counter l.fn.self.rest.now) (items_at (byte_at is_ascii_graphic) (l.count - l.counter) l.self.end l.self.rest.now) ≡ items_at (byte_at is_ascii_graphic) l.count l.fn.self.end l.fn.self.rest.now;
  rest : l.self.rest.now ≡ drop l.counter l.fn.self.rest.now;
  size : length l.self.rest.now + l.counter ≡ length l.fn.self.rest.now;
  end : l.self.end ≡ l.fn.self.end;
}
