use Rattle.std.proofs.Common.{arith}
use Rattle.cbor_profile.proofs.Decoded.{found_is, only_is, fault_is, first_is}
use Rattle.cbor_profile.proofs.WholeReading.{short_bytes}
use Rattle.cbor_profile.proofs.reading.decode.Goals as goal

pub returns-clause-found : goal.returns-clause-found
returns-clause-found c = found_is c.args.bytes.now c.read_whole.result (short_bytes c.args.bytes.now (λ i. omega (arith, c.type_inv.bytes i)) (omega arith)) c.read_whole.ensures

pub returns-clause-only : goal.returns-clause-only
returns-clause-only c = λ tree spelled. only_is c.args.bytes.now c.read_whole.result tree spelled c.read_whole.ensures

pub returns-clause-fault : goal.returns-clause-fault
returns-clause-fault c = fault_is c.args.bytes.now c.read_whole.result (short_bytes c.args.bytes.now (λ i. omega (arith, c.type_inv.bytes i)) (omega arith)) c.read_whole.ensures

pub returns-clause-first : goal.returns-clause-first
returns-clause-first c = λ fault refuses. first_is c.args.bytes.now c.read_whole.result fault (short_bytes c.args.bytes.now (λ i. omega (arith, c.type_inv.bytes i)) (omega arith)) refuses c.read_whole.ensures
