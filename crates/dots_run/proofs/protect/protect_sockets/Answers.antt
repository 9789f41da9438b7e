use Rattle.std.proofs.Common.{None, map, string_bytes, option_and_then, refl, ap, subst}
use Rattle.std.specs.Fn.{FnReturnsAt}
use Rattle.std.proofs.lemmas.Fn.{says_at}
use Rattle.dots_host.specs.Causes.{Rose}
use Rattle.ask_agent.specs.Numbers.{mid_at, number_at}
use Rattle.ask_agent.specs.Protecting.{HasDone}
use Rattle.ask_agent.specs.Running.{Around}
use Rattle.dots_run.specs.OverSockets.{IsOpenedFrom}
use Rattle.dots_run.specs.Clients.{around_at, ProtectsOver}
use Rattle.dots_run.proofs.ClientReporting.{firsts_are}
use Rattle.dots_run.proofs.protect.protect_sockets.Goals as goal

pub returns-in_default : goal.returns-in_default
returns-in_default g c = (
  c.opening.result,
  subst (λ name. FnReturnsAt g.Open.Fn c.args.opening name c.opening.result) c.protect_host.ensures (says_at g.Open.Fn c.opening.ensures refl),
  (
    refl,
    ap (λ sink. g.K.Write.contents sink.writer) c.new-report.ensures,
    ap (λ sink. sink.faults) c.new-report.ensures,
  ),
)

pub returns : goal.returns
returns g c =
    let words = map string_bytes c.args.words.now in
    let said = c.run_protect-ending.ensures in
    let ending = c.run_protect-ending.result in
    let host = c.in-Ok.host in
    let ended = c.run_protect-ending.new.wire in
    let report = c.new-report.result in
    let left = option_and_then g.F.Read.remaining in
    let second = c.start_second.result in
    let before : Around = around_at None 0 host (g.K.Write.contents report.writer) report.faults in
    let after : Around = around_at None 0 ended (g.K.Write.contents c.run_protect-ending.new.report.writer) c.run_protect-ending.new.report.faults in
    let runs : ProtectsOver words c.status.result before after host ended = record {
      second = second;
      early = c.start_second.ensures;
      ending = ending;
      status_is = c.status.ensures;
      does = subst (λ firsts. HasDone words ending firsts before after) (firsts_are c.at-firsts.result (mid_at second) (number_at second) c.at-firsts.ensures.mid c.at-firsts.ensures.number) said.machine;
      idle = said.uncalled;
      refused = said.refused;
      complete = said.complete;
    } in (
      c.opening.result,
      subst (λ name. FnReturnsAt g.Open.Fn c.args.opening name c.opening.result) c.protect_host.ensures (says_at g.Open.Fn c.opening.ensures refl),
      (
        host,
        subst (λ source. IsOpenedFrom (left source.reader) (Rose source.faults c.open_host.new.file.faults) host) c.new-host_file.ensures c.in-Ok.ensures,
        subst (λ sink. ProtectsOver words c.status.result (around_at None 0 host (g.K.Write.contents sink.writer) sink.faults) after host ended) c.new-report.ensures runs,
      ),
    )
