use Rattle.std.proofs.Common.{arith}
use Rattle.dots_load.proofs.Byting.{each_bytes}
use Rattle.dots_load.proofs.laws.events_are_bytes.Goals as goal

pub returns : goal.returns
returns c = λ seed. each_bytes seed 20000 (omega arith)
