use Rattle.std.proofs.Common.{◌≡◌, map, string_bytes, option_and_then, refl, ap, subst}
use Rattle.std.specs.Fn.{FnReturnsAt}
use Rattle.std.proofs.lemmas.Fn.{says_at}
use Rattle.dots_host.specs.Causes.{Rose}
use Rattle.ask_agent.specs.Numbers.{mid_at, number_at}
use Rattle.ask_agent.specs.Outcomes.{RunsAsk}
use Rattle.ask_agent.specs.Running.{Around}
use Rattle.dots_run.specs.OverSockets.{IsOpenedFrom}
use Rattle.dots_run.specs.Clients.{around_at, AsksOver}
use Rattle.dots_run.proofs.ClientReporting.{firsts_are}
use Rattle.dots_run.proofs.client.ask_sockets.Goals as goal

pub returns-in_default : goal.returns-in_default
returns-in_default g c = (
  c.opening.result,
  c.opening-2.result,
  subst (λ name. FnReturnsAt g.Open.Fn c.args.opening name c.opening.result) c.ask_names.ensures.settings (says_at g.Open.Fn c.opening.ensures refl),
  subst (λ name. FnReturnsAt g.Open.Fn c.args.opening name c.opening-2.result) c.ask_names.ensures.host (says_at g.Open.Fn c.opening-2.ensures refl),
  (
    refl,
    ap (λ source. option_and_then g.F.Read.remaining source.reader) c.new-settings.ensures,
    ap (λ source. source.faults) c.new-settings.ensures,
    ap (λ sink. g.K.Write.contents sink.writer) c.new-report.ensures,
    ap (λ sink. sink.faults) c.new-report.ensures,
  ),
)

pub returns : goal.returns
returns g c =
    let words = map string_bytes c.args.words.now in
    let said = c.run_client-status.ensures in
    let status = c.run_client-status.result in
    let host = c.in-Ok.host in
    let ended = c.run_client-status.new.wire in
    let settings = c.new-settings.result in
    let report = c.new-report.result in
    let left = option_and_then g.F.Read.remaining in
    let second = c.start_second.result in
    let before : Around = around_at (left settings.reader) settings.faults host (g.K.Write.contents report.writer) report.faults in
    let after : Around =
    around_at (left c.run_client-status.new.settings.reader) c.run_client-status.new.settings.faults ended (g.K.Write.contents c.run_client-status.new.report.writer) c.run_client-status.new.report.faults in
    let runs : AsksOver words status before after host ended = record {
      second = second;
      early = c.start_second.ensures;
      runs = subst (λ firsts. RunsAsk status firsts before after (ended ≡ host)) (firsts_are c.at-firsts.result (mid_at second) (number_at second) c.at-firsts.ensures.mid c.at-firsts.ensures.number)
          (said.machine c.requires.asks);
      outcome = said.outcome;
    } in (
      c.opening.result,
      c.opening-2.result,
      subst (λ name. FnReturnsAt g.Open.Fn c.args.opening name c.opening.result) c.ask_names.ensures.settings (says_at g.Open.Fn c.opening.ensures refl),
      subst (λ name. FnReturnsAt g.Open.Fn c.args.opening name c.opening-2.result) c.ask_names.ensures.host (says_at g.Open.Fn c.opening-2.ensures refl),
      (
        host,
        subst (λ source. IsOpenedFrom (left source.reader) (Rose source.faults c.open_host.new.file.faults) host) c.new-host_file.ensures c.in-Ok.ensures,
        subst (λ sink. AsksOver words status (around_at (left c.opening.result) 0 host (g.K.Write.contents sink.writer) sink.faults) after host ended) c.new-report.ensures
            (subst (λ source. AsksOver words status (around_at (left source.reader) source.faults host (g.K.Write.contents report.writer) report.faults) after host ended) c.new-settings.ensures runs),
      ),
    )
