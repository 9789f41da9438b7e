use Rattle.std.proofs.Common.{sym, ap, ◌∙◌}
use Rattle.dots_machine.specs.Domains.{is_gateway, is_stranger}
use Rattle.dots_server.proofs.Verdicts.{known_is, gateway_is}
use Rattle.dots_server.proofs.server.Server.receive_known.Goals as goal

pub returns-in-Ok : goal.returns-in-Ok
returns-in-Ok c =
    let gateway = gateway_is c.args.own c.is_none.result c.is_none.ensures ∙ sym (ap is_gateway c.requires.role) in
    (c.requires, rw gateway at c.in-Ok.ensures.received, c.in-Ok.ensures.grantable)

pub returns-in-Err : goal.returns-in-Err
returns-in-Err c =
    let gateway = gateway_is c.args.own c.is_none.result c.is_none.ensures ∙ sym (ap is_gateway c.requires.role) in
    (ap is_stranger c.requires.role ∙ known_is c.args.own, rw gateway at c.in-Err.ensures.lacks)
