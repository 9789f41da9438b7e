use Rattle.std.proofs.Common.{refl, arith}
use Rattle.cbor_profile.proofs.WholeReading.{short_bytes, reading, one_fault, not_spelled, spelled_valid}
use Rattle.cbor_profile.proofs.law.one_reading.Goals as goal

pub returns-clause-either : goal.returns-clause-either
returns-clause-either c = reading c.args.bytes.now (short_bytes c.args.bytes.now (λ i. omega (arith, c.type_inv.bytes i)) (omega arith)) _ refl

pub returns-clause-one_fault : goal.returns-clause-one_fault
returns-clause-one_fault c = λ f g a b. one_fault c.args.bytes.now f g (short_bytes c.args.bytes.now (λ i. omega (arith, c.type_inv.bytes i)) (omega arith)) a b

pub returns-clause-not_both : goal.returns-clause-not_both
returns-clause-not_both c = λ front rest tree f is spelled b. not_spelled c.args.bytes.now front rest tree f (short_bytes c.args.bytes.now (λ i. omega (arith, c.type_inv.bytes i)) (omega arith)) is spelled b

pub returns-clause-valid : goal.returns-clause-valid
returns-clause-valid c = λ tree spelled. spelled_valid c.args.bytes.now tree (short_bytes c.args.bytes.now (λ i. omega (arith, c.type_inv.bytes i)) (omega arith)) spelled
