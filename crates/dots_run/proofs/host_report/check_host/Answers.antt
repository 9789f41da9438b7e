use Rattle.std.proofs.Common.{option_and_then, refl, subst}
use Rattle.std.specs.Fn.{FnReturnsAt}
use Rattle.std.proofs.lemmas.Fn.{says_at}
use Rattle.dots_host.specs.Causes.{Rose}
use Rattle.dots_run.specs.HostReports.{ReportsHost}
use Rattle.dots_run.proofs.HostReporting.{reports_host}
use Rattle.dots_run.proofs.host_report.check_host.Goals as goal

pub returns : goal.returns
returns g c =
    let left = option_and_then g.F.Read.remaining in
    let asked = c.asked_of-task.result.0 in
    let settings = c.new-settings.result in
    let host = c.new-host_file.result in
    let report = c.new-report.result in
    let read = c.check_files-found.new in
    let written = c.report_found.new.report in
    let status = c.status-status.result in
    let whole = reports_host asked (left settings.reader) (left host.reader) (g.K.Write.contents report.writer) (g.K.Write.contents written.writer) (Rose settings.faults read.settings.faults)
    (Rose host.faults read.host.faults) (Rose report.faults written.faults) c.check_files-found.result c.report_found.result status c.check_files-found.ensures.checks
    c.check_files-found.ensures.cause c.report_found.ensures c.status-status.ensures in (
      asked,
      c.asked_of-task.ensures.task,
      c.opening.result,
      c.opening-2.result,
      subst (λ name. FnReturnsAt g.Open.Fn c.args.opening name c.opening.result) c.asked_of-task.ensures.settings (says_at g.Open.Fn c.opening.ensures refl),
      subst (λ name. FnReturnsAt g.Open.Fn c.args.opening name c.opening-2.result) c.asked_of-task.ensures.host (says_at g.Open.Fn c.opening-2.ensures refl),
      subst (λ sink. ReportsHost asked status (left c.opening.result) (left c.opening-2.result) (g.K.Write.contents sink.writer) (g.K.Write.contents written.writer) (Rose 0 read.settings.faults)
          (Rose 0 read.host.faults) (Rose sink.faults written.faults)) c.new-report.ensures
          (subst (λ source. ReportsHost asked status (left c.opening.result) (left source.reader) (g.K.Write.contents report.writer) (g.K.Write.contents written.writer) (Rose 0 read.settings.faults)
          (Rose source.faults read.host.faults) (Rose report.faults written.faults)) c.new-host_file.ensures
          (subst (λ source. ReportsHost asked status (left source.reader) (left host.reader) (g.K.Write.contents report.writer) (g.K.Write.contents written.writer) (Rose source.faults read.settings.faults)
          (Rose host.faults read.host.faults) (Rose report.faults written.faults)) c.new-settings.ensures whole)),
    )
