use Rattle.std.proofs.Common.{arith}
use Rattle.slot_journal.proofs.Answered.{is_found, is_only, is_broken, is_first}
use Rattle.slot_journal.proofs.Writings.{bytes_are}
use Rattle.slot_journal.proofs.record_reading.entry_of.Goals as goal

pub returns-clause-found : goal.returns-clause-found
returns-clause-found c = is_found c.args.format c.args.bytes.now c.read_record.result (bytes_are c.args.bytes.now (λ i. omega (arith, c.type_inv.bytes i))) c.read_record.ensures

pub returns-clause-only : goal.returns-clause-only
returns-clause-only c = is_only c.args.format c.args.bytes.now c.read_record.result c.read_record.ensures

pub returns-clause-broken : goal.returns-clause-broken
returns-clause-broken c = is_broken c.args.format c.args.bytes.now c.read_record.result (bytes_are c.args.bytes.now (λ i. omega (arith, c.type_inv.bytes i))) c.read_record.ensures

pub returns-clause-first : goal.returns-clause-first
returns-clause-first c = is_first c.args.format c.args.bytes.now c.read_record.result (bytes_are c.args.bytes.now (λ i. omega (arith, c.type_inv.bytes i))) c.read_record.ensures
