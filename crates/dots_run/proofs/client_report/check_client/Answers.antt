use Rattle.std.proofs.Common.{option_and_then, subst}
use Rattle.std.specs.Fn.{FnReturnsAt}
use Rattle.std.proofs.lemmas.Fn.{says_at}
use Rattle.std.proofs.Common.{refl}
use Rattle.dots_host.specs.Causes.{Rose}
use Rattle.dots_run.specs.Clients.{ReportsClient}
use Rattle.dots_run.proofs.ClientReporting.{reports_client}
use Rattle.dots_run.proofs.client_report.check_client.Goals as goal

pub returns : goal.returns
returns g c =
    let left = option_and_then g.F.Read.remaining in
    let settings = c.new-settings.result in
    let report = c.new-report.result in
    let read = c.check_ask_settings-found.new.source in
    let written = c.report_found.new.report in
    let status = c.status-status.result in
    let whole = reports_client (left settings.reader) (g.K.Write.contents report.writer) (g.K.Write.contents written.writer) (Rose settings.faults read.faults) (Rose report.faults written.faults)
    c.check_ask_settings-found.result c.report_found.result status c.check_ask_settings-found.ensures.checks c.check_ask_settings-found.ensures.cause c.report_found.ensures c.status-status.ensures in (
      c.opening.result,
      subst (λ name. FnReturnsAt g.Open.Fn c.args.opening name c.opening.result) c.checked_name.ensures (says_at g.Open.Fn c.opening.ensures refl),
      subst (λ sink. ReportsClient status (left c.opening.result) (g.K.Write.contents sink.writer) (g.K.Write.contents written.writer) (Rose 0 read.faults) (Rose sink.faults written.faults)) c.new-report.ensures
          (subst (λ source. ReportsClient status (left source.reader) (g.K.Write.contents report.writer) (g.K.Write.contents written.writer) (Rose source.faults read.faults) (Rose report.faults written.faults))
          c.new-settings.ensures whole),
    )
