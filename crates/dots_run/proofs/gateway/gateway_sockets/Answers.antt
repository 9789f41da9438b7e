use Rattle.std.proofs.Common.{map, string_bytes, option_and_then, refl, ap, subst}
use Rattle.std.specs.Fn.{FnReturnsAt}
use Rattle.std.proofs.lemmas.Fn.{says_at}
use Rattle.dots_host.specs.Causes.{Rose}
use Rattle.dots_machine.specs.Outside.{Outside}
use Rattle.dots_run.specs.OverSockets.{IsOpenedFrom, outside_at}
use Rattle.dots_run.specs.Gateways.{PassesOver}
use Rattle.dots_run.proofs.Gateways.{known_over}
use Rattle.dots_run.proofs.gateway.gateway_sockets.Goals as goal

pub returns-in_default : goal.returns-in_default
returns-in_default g c = (
  c.opening.result,
  c.opening-2.result,
  subst (λ name. FnReturnsAt g.Open.Fn c.args.opening name c.opening.result) c.gateway_names.ensures.settings (says_at g.Open.Fn c.opening.ensures refl),
  subst (λ name. FnReturnsAt g.Open.Fn c.args.opening name c.opening-2.result) c.gateway_names.ensures.host (says_at g.Open.Fn c.opening-2.ensures refl),
  (
    refl,
    ap (λ source. option_and_then g.F.Read.remaining source.reader) c.new-settings.ensures,
    ap (λ source. source.faults) c.new-settings.ensures,
    ap (λ sink. g.K.Write.contents sink.writer) c.new-report.ensures,
    ap (λ sink. sink.faults) c.new-report.ensures,
  ),
)

pub returns : goal.returns
returns g c =
    let words = map string_bytes c.args.words.now in
    let said = c.run_gateway_command-status.ensures in
    let status = c.run_gateway_command-status.result in
    let host = c.in-Ok.host in
    let ended = c.run_gateway_command-status.new.host in
    let settings = c.new-settings.result in
    let report = c.new-report.result in
    let left = option_and_then g.F.Read.remaining in
    let before : Outside = outside_at (left settings.reader) settings.faults host (g.K.Write.contents report.writer) report.faults in
    let after : Outside =
    outside_at (left c.run_gateway_command-status.new.settings.reader) c.run_gateway_command-status.new.settings.faults ended (g.K.Write.contents c.run_gateway_command-status.new.report.writer) c.run_gateway_command-status.new.report.faults in
    let runs : PassesOver words status before after host ended = record { runs = said.machine c.requires.asks; known = known_over host ended said.leads; outcome = said.outcome } in (
      c.opening.result,
      c.opening-2.result,
      subst (λ name. FnReturnsAt g.Open.Fn c.args.opening name c.opening.result) c.gateway_names.ensures.settings (says_at g.Open.Fn c.opening.ensures refl),
      subst (λ name. FnReturnsAt g.Open.Fn c.args.opening name c.opening-2.result) c.gateway_names.ensures.host (says_at g.Open.Fn c.opening-2.ensures refl),
      (
        host,
        subst (λ source. IsOpenedFrom (left source.reader) (Rose source.faults c.open_host.new.file.faults) host) c.new-host_file.ensures c.in-Ok.ensures,
        subst (λ sink. PassesOver words status (outside_at (left c.opening.result) 0 host (g.K.Write.contents sink.writer) sink.faults) after host ended) c.new-report.ensures
            (subst (λ source. PassesOver words status (outside_at (left source.reader) source.faults host (g.K.Write.contents report.writer) report.faults) after host ended) c.new-settings.ensures runs),
      ),
    )
