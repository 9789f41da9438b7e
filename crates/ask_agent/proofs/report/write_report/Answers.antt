use Rattle.std.proofs.Common.{◌∙◌, ap}
use Rattle.dots_client.specs.Client.{ClientValue}
use Rattle.ask_agent.proofs.Ran.{report_both, report_lost}
use Rattle.ask_agent.proofs.report.write_report.Goals as goal

pub returns-in-Ok : goal.returns-in-Ok
returns-in-Ok g c =
    report_both _ c.args.asker.now c.unsent.result.now c.ledger.result.now _ _ _ _ _ _ c.unsent.ensures
    (c.ledger.ensures ∙ ap (λ (client : ClientValue). client.ledger) c.client.ensures) c.in-Ok.ensures c.write_granted.ensures

pub returns-in-Err : goal.returns-in-Err
returns-in-Err g c = report_lost _ c.args.asker.now c.unsent.result.now _ _ _ _ c.unsent.ensures c.in-Err.ensures
