use Rattle.std.proofs.Common.{ap}
use Rattle.dots_script.proofs.Accounting.{accounts_begun}
use Rattle.dots_script.proofs.Beginning.{begins}
use Rattle.dots_script.proofs.script_host.ScriptHost.new.Goals as goal

pub returns-clause-host : goal.returns-clause-host
returns-clause-host g c =
    begins c.args.source c.args.sink c.in_ok-block.block c.new-2.result c.in_ok-block.ensures c.new-2.ensures

pub returns-clause-accounts : goal.returns-clause-accounts
returns-clause-accounts g c =
    let source = c.args.source in
    accounts_begun (g.S.Source.left source) (g.K.Sink.holds c.args.sink) (g.S.Source.faults source) c.in_ok-block.block c.new-2.result.acts c.in_ok-block.ensures (ap (λ disk. disk.acts) c.new-2.ensures)
