use Rattle.std.proofs.Common.{arith}
use Rattle.slot_journal.proofs.Writings.{bytes_are}
use Rattle.world_play.proofs.askable.are_protocols.Goals as goal

pub returns : goal.returns
returns c = bytes_are c.args.protocols.now (λ i. omega (arith, c.type_inv.protocols i))
