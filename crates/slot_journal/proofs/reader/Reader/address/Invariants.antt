use Rattle.std.proofs.Common.{◌≡◌, ◌-◌, ◌*◌, ◌%◌, ◌^◌, ◌<◌}
use Rattle.slot_journal.specs.RecordReading.{address_at}
use Rattle.slot_journal.proofs.Loops.{with_number}
use Rattle.slot_journal.proofs.reader.Reader.address.Given as goal

-- the bytes so far and those to come are all of them
abbrev pub invariant-loop : goal.invariant-loop
invariant-loop l = record {
  read : with_number (l.number * 256 ^ (l.count - l.counter)) (address_at (l.count - l.counter) l.bits l.self.end l.self.rest.now) ≡ address_at l.count l.fn.bits l.fn.self.end l.fn.self.rest.now;
  fits : l.number < 256 ^ l.counter;
  end : l.self.end ≡ l.fn.self.end;
  bits : l.bits ≡ l.fn.bits - 8 * l.counter;
  zeros : l.number % 2 ^ (8 * l.counter - l.fn.bits) ≡ 0;
}
