use Rattle.std.proofs.Common.{sym}
use Rattle.dots_server.proofs.Acting.{may_act_for}
use Rattle.dots_server.proofs.server.Server.asks_for.Goals as goal

pub returns-in-Some-clause-acts : goal.returns-in-Some-clause-acts
returns-in-Some-clause-acts c = may_act_for c.args.self.now.settings c.args.peer c.args.own c.args.path.cdid c.in-Some.domain c.requires.own (sym c.in-Some.ensures.domain) c.in-Some.ensures.within
