use Rattle.std.proofs.Common.{ap, ◌∙◌, subst}
use Rattle.dots_machine.specs.Domains.{is_stranger}
use Rattle.dots_server.specs.Asking.{IsCome}
use Rattle.dots_server.proofs.Received.{does_decided, lacking_decided, stranger_decided}
use Rattle.dots_server.proofs.Verdicts.{known_is}
use Rattle.dots_server.proofs.server.Server.decide.Goals as goal

pub decide_on-requires : goal.decide_on-requires
decide_on-requires c =
    let is = subst (IsCome c.args.self.now.settings c.args.peer c.requires.came.0) c.in-Received.is c.requires.came.1 in
    record { own = is.0; grantable = is.2 }

pub returns-in-FromStranger-clause-does : goal.returns-in-FromStranger-clause-does
returns-in-FromStranger-clause-does c = λ settings state datagram represents came.
    rw c.unobserved.ensures (stranger_decided settings state c.args.peer datagram (subst (IsCome settings c.args.peer datagram) c.in-FromStranger.is came))

pub returns-in-Lacking-clause-does : goal.returns-in-Lacking-clause-does
returns-in-Lacking-clause-does c = λ settings state datagram represents came.
    let is = subst (IsCome settings c.args.peer datagram) c.in-Lacking.is came in
    rw c.unobserved-in-Lacking.ensures (lacking_decided settings state c.args.peer datagram is.0 c.in-Lacking.exchange _ is.1 c.unavailable.ensures)

pub returns-in-Received-clause-does : goal.returns-in-Received-clause-does
returns-in-Received-clause-does c = λ settings state datagram represents came.
    let is = subst (IsCome settings c.args.peer datagram) c.in-Received.is came in
    does_decided settings state c.args.peer datagram (ap is_stranger is.0.role ∙ known_is c.in-Received.own) c.in-Received.received c.decide_on.result.watching c.decide_on.result.verdict is.1
    (c.decide_on.ensures.does settings state represents)
