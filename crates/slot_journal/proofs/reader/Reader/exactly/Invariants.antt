use Rattle.std.proofs.Common.{◌≡◌, drop}
use Rattle.slot_journal.specs.RecordReading.{exactly_at}
use Rattle.slot_journal.proofs.reader.Reader.exactly.Given as goal

-- the bytes that are still to come are those that are left
abbrev pub invariant-loop-byte : goal.invariant-loop-byte
invariant-loop-byte l = record {
  read : exactly_at (drop l.byte-index l.bytes) l.self.end l.self.rest.now ≡ exactly_at l.bytes l.fn.self.end l.fn.self.rest.now;
  end : l.self.end ≡ l.fn.self.end;
}
