use Rattle.std.proofs.Common.{List, sym, subst}
use Rattle.dots_host.specs.declared.out.OwnedOut.{OwnedOut}
use Rattle.dots_host.specs.Runs.{Added, Gives}
use Rattle.dots_gateway.specs.declared.passed.GatewayFault.{GatewayFault}
use Rattle.gateway_agent.specs.Passing.{FaultSends}
use Rattle.gateway_agent.proofs.refusing.refuse_for.Goals as goal

pub returns-in-TableFull-clause-refuses : goal.returns-in-TableFull-clause-refuses
returns-in-TableFull-clause-refuses g c =
    subst
    (λ (why : GatewayFault). (outs : List OwnedOut) × FaultSends c.args.peer c.args.datagram.now why outs
    × Added (g.W.Wire.acts c.args.wire.now) (g.W.Wire.acts c.refuse.new.wire) (Gives (g.W.Wire.moment c.args.wire.now) outs))
    (sym c.in-TableFull.is) c.refuse.ensures.refuses

pub returns-in-NoMemory-clause-refuses : goal.returns-in-NoMemory-clause-refuses
returns-in-NoMemory-clause-refuses g c =
    subst
    (λ (why : GatewayFault). (outs : List OwnedOut) × FaultSends c.args.peer c.args.datagram.now why outs
    × Added (g.W.Wire.acts c.args.wire.now) (g.W.Wire.acts c.refuse-in-NoMemory.new.wire) (Gives (g.W.Wire.moment c.args.wire.now) outs))
    (sym c.in-NoMemory.is) c.refuse-in-NoMemory.ensures.refuses
