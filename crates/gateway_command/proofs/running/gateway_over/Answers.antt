use Rattle.std.proofs.Common.{refl, sym, subst}
use Rattle.dots_machine.specs.Outside.{outside}
use Rattle.gateway_command.specs.declared.ending.CommandEnding.{CommandEnding}
use Rattle.gateway_command.specs.Running.{Behaves}
use Rattle.gateway_command.proofs.Judging.{without, behind_is_line, behaves_hosted}
use Rattle.gateway_command.proofs.running.gateway_over.Goals as goal

pub returns-in-Some-clause-machine : goal.returns-in-Some-clause-machine
returns-in-Some-clause-machine g c =
    let source = c.args.settings.now in
    let read = c.read_settings.new.source in
    let host = c.args.host.now in
    let left = c.pass_requests.new.host in
    let before =
    outside (g.S.Source.left source) (g.S.Source.faults source) (g.H.Wire.acts host) (g.H.Wire.faults host) (g.H.Disk.media host) (g.H.Disk.extent host) (g.H.Disk.faults host)
    (g.K.Sink.holds c.args.report.now) (g.K.Sink.faults c.args.report.now) in
    let now =
    outside (g.S.Source.left read) (g.S.Source.faults read) (g.H.Wire.acts left) (g.H.Wire.faults left) (g.H.Disk.media left) (g.H.Disk.extent left) (g.H.Disk.faults left)
    (g.K.Sink.holds c.pass_requests.new.report) (g.K.Sink.faults c.pass_requests.new.report) in
    behaves_hosted before now c.pass_requests.result c.pass_requests.ensures.hosted c.in-Ok.settings c.in-Ok.ensures.ok c.in-Some.upstream (sym c.in-Some.ensures.value)
    (c.pass_requests.ensures.runs before.left now.left before.source_faults now.source_faults)

pub returns-in-None-clause-machine : goal.returns-in-None-clause-machine
returns-in-None-clause-machine g c =
    let source = c.args.settings.now in
    let read = c.read_settings.new.source in
    let host = c.args.host.now in
    let before =
    outside (g.S.Source.left source) (g.S.Source.faults source) (g.H.Wire.acts host) (g.H.Wire.faults host) (g.H.Disk.media host) (g.H.Disk.extent host) (g.H.Disk.faults host)
    (g.K.Sink.holds c.args.report.now) (g.K.Sink.faults c.args.report.now) in
    let now =
    outside (g.S.Source.left read) (g.S.Source.faults read) (g.H.Wire.acts host) (g.H.Wire.faults host) (g.H.Disk.media host) (g.H.Disk.extent host) (g.H.Disk.faults host)
    (g.K.Sink.holds c.refuse.new.report) (g.K.Sink.faults c.refuse.new.report) in
    let why = c.behind.result in
    subst (λ (how : CommandEnding). Behaves how before now) (sym c.refuse.ensures.ending)
    (refl, behind_is_line why _ c.behind.ensures, without before.left c.in-Ok.settings why (sym c.in-None.ensures.value) c.behind.ensures c.in-Ok.ensures.ok, c.refuse.ensures.writes)
