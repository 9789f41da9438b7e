use Rattle.std.proofs.Common.{◌∙◌, length, ap, arith, ℕ}
use Rattle.slot_store.specs.Formats.{sealed}
use Rattle.slot_journal.proofs.Writings.{alone_is, record_one, record_two, sealed_short}
use Rattle.slot_journal.proofs.writer.Writer.entry.Goals as goal

pub returns-in-One-clause-written : goal.returns-in-One-clause-written
returns-in-One-clause-written c = alone_is c.requires.empty c.body.ensures.written (omega arith) ∙ record_one c.args.format c.args.entry.now c.in-One.is

pub returns-in-Two-clause-written : goal.returns-in-Two-clause-written
returns-in-Two-clause-written c =
    c.seal.ensures ∙ ap sealed (alone_is c.requires.empty c.body.ensures.written (omega arith)) ∙ record_two c.args.format c.args.entry.now c.in-Two.is

pub returns-in-Two-clause-short : goal.returns-in-Two-clause-short
returns-in-Two-clause-short c =
    omega (
      arith,
      c.body.ensures.written.short,
      ap (length {A = ℕ}) (alone_is c.requires.empty c.body.ensures.written (omega arith)),
      ap (length {A = ℕ}) c.seal.ensures,
      sealed_short c.body.new.self,
    )
