use Rattle.std.proofs.Common.{refl}
use Rattle.dots_gateway.proofs.PassedOn.{fresh_number}
use Rattle.dots_gateway.proofs.laws.numbers_rise.Goals as goal

pub returns-clause-fresh : goal.returns-clause-fresh
returns-clause-fresh c = fresh_number

pub returns-clause-next : goal.returns-clause-next
returns-clause-next c = λ g datagram bytes exchange. refl
