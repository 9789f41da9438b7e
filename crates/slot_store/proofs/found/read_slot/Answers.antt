use Rattle.std.proofs.Common.{arith, ◌≡◌, ◌≤◌, ◌<◌, ◌+◌, ◌*◌, ◌∙◌, length}
use Rattle.slot_store.proofs.DiskReading.{reads_none, reads_more, reads_lost, bytes_seen}
use Rattle.slot_store.proofs.FoundLemmas.{room_byte, found_record}
use Rattle.slot_store.proofs.found.read_slot.Goals as goal

pub returns-in_err-read-clause-keeps : goal.returns-in_err-read-clause-keeps
returns-in_err-read-clause-keeps g c = reads_lost _ _ _ (reads_none _) c.in_err-read.ensures.err

pub returns-then-len-gt-MAX_RECORD-clause-keeps : goal.returns-then-len-gt-MAX_RECORD-clause-keeps
returns-then-len-gt-MAX_RECORD-clause-keeps g c = reads_more _ _ _ (reads_none _) c.in_ok-read.ensures.ok

pub returns-clause-keeps : goal.returns-clause-keeps
returns-clause-keeps g c = reads_more _ _ _ (reads_none _) c.in_ok-read.ensures.ok

pub returns-then-len-gt-MAX_RECORD-clause-record : goal.returns-then-len-gt-MAX_RECORD-clause-record
returns-then-len-gt-MAX_RECORD-clause-record g c = λ seen sees.
    let size : length c.args.room.now ≡ 8192 = omega arith in
    let one : 1 < length c.args.room.now = omega arith in
    let two : 2 < length c.args.room.now = omega arith in
    let read = bytes_seen _ seen c.args.at (length c.args.room.now) c.read.new.into c.in_ok-read.ensures.bytes sees in
    let high = c.from.ensures ∙ room_byte seen c.args.at c.read.new.into (length c.args.room.now) 1 read one in
    let low = c.from-2.ensures ∙ room_byte seen c.args.at c.read.new.into (length c.args.room.now) 2 read two in
    omega (arith, high, low)

pub returns-clause-record : goal.returns-clause-record
returns-clause-record g c = λ seen sees.
    let size : length c.args.room.now ≡ 8192 = omega arith in
    let one : 1 < length c.args.room.now = omega arith in
    let two : 2 < length c.args.room.now = omega arith in
    let read = bytes_seen _ seen c.args.at (length c.args.room.now) c.read.new.into c.in_ok-read.ensures.bytes sees in
    let high = c.from.ensures ∙ room_byte seen c.args.at c.read.new.into (length c.args.room.now) 1 read one in
    let low = c.from-2.ensures ∙ room_byte seen c.args.at c.read.new.into (length c.args.room.now) 2 read two in
    let fits : 256 * c.from.result + c.from-2.result ≤ 8189 = omega arith in
    let within : 256 * c.from.result + c.from-2.result + 3 ≤ length c.args.room.now = omega arith in
    let whole : 256 * seen (c.args.at + 1) + seen (c.args.at + 2) ≡ 256 * c.from.result + c.from-2.result = omega (arith, high, low) in
    (whole, fits, found_record seen c.args.at c.read.new.into (length c.args.room.now) (256 * c.from.result + c.from-2.result) read within)
