use Rattle.std.proofs.Common.{◌∙◌, [], sym, ap, subst}
use Rattle.std.specs.Io.KnownBytes.{Appends}
use Rattle.dots_host.specs.Writing.{AppendsBeginning}
use Rattle.dots_history.specs.Rows.{plain_rows, acl_rows}
use Rattle.dots_machine.specs.Machine.{State}
use Rattle.dots_registry.specs.RegistryValues as registry
use Rattle.dots_server.specs.Gathering.{sunk}
use Rattle.dots_server.specs.ServerValues.{ServerValue, Represents}
use Rattle.dots_server.proofs.Puts.{puts_then}
use Rattle.dots_server.proofs.Reports.{report_is, nothing_written}
use Rattle.dots_server.proofs.server.Server.write_report.Goals as goal

pub returns-in-Ok-clause-ok : goal.returns-in-Ok-clause-ok
returns-in-Ok-clause-ok g c = λ settings state represents.
    let start = sunk g.K.Sink.holds g.K.Sink.faults c.args.report.now in
    let here = subst (λ server. Represents server settings state) (sym c.self.view_is) represents in
    let lines = puts_then _ _ _ _ _ _ _ _ c.put_rows.ensures c.put_packets.ensures start [] (rw c.new-gatherer.ensures (nothing_written start)) in
    let is = report_is (record { settings = c.self.inside.settings; registry = c.self.inside.ledger.registry; journal = c.self.inside.ledger.journal; watch = c.self.inside.watch; lines = c.self.inside.lines }) settings state c.filters-table.result.now.scrubs c.filters-table.result.now.acls here
    (c.filters-table.ensures.scrubs state.history (subst (λ r. registry.Represents r state.history) (sym c.registry.ensures) here.registry)
    ∙ ap (λ r. plain_rows (registry.time_of r) state.history) c.registry.ensures ∙ ap (λ t. plain_rows t state.history) here.time_is)
    (c.filters-table.ensures.acls state.history (subst (λ r. registry.Represents r state.history) (sym c.registry.ensures) here.registry)
    ∙ ap (λ r. acl_rows (registry.time_of r) state.history) c.registry.ensures ∙ ap (λ t. acl_rows t state.history) here.time_is) in
    subst (Appends (g.K.Sink.holds c.args.report.now) (g.K.Sink.holds c.finish.new.sink)) is (c.in-Ok.ensures start _ lines).0

pub returns-in-Ok-clause-cause : goal.returns-in-Ok-clause-cause
returns-in-Ok-clause-cause g c =
    let start = sunk g.K.Sink.holds g.K.Sink.faults c.args.report.now in
    let lines = puts_then _ _ _ _ _ _ _ _ c.put_rows.ensures c.put_packets.ensures start [] (rw c.new-gatherer.ensures (nothing_written start)) in
    let cause = (c.in-Ok.ensures start _ lines).2 in
    record { later = cause.later; same = cause.same; rose = tt }

pub returns-in-Err-clause-err : goal.returns-in-Err-clause-err
returns-in-Err-clause-err g c = λ settings state represents.
    let start = sunk g.K.Sink.holds g.K.Sink.faults c.args.report.now in
    let here = subst (λ server. Represents server settings state) (sym c.self.view_is) represents in
    let lines = puts_then _ _ _ _ _ _ _ _ c.put_rows.ensures c.put_packets.ensures start [] (rw c.new-gatherer.ensures (nothing_written start)) in
    let is = report_is (record { settings = c.self.inside.settings; registry = c.self.inside.ledger.registry; journal = c.self.inside.ledger.journal; watch = c.self.inside.watch; lines = c.self.inside.lines }) settings state c.filters-table.result.now.scrubs c.filters-table.result.now.acls here
    (c.filters-table.ensures.scrubs state.history (subst (λ r. registry.Represents r state.history) (sym c.registry.ensures) here.registry)
    ∙ ap (λ r. plain_rows (registry.time_of r) state.history) c.registry.ensures ∙ ap (λ t. plain_rows t state.history) here.time_is)
    (c.filters-table.ensures.acls state.history (subst (λ r. registry.Represents r state.history) (sym c.registry.ensures) here.registry)
    ∙ ap (λ r. acl_rows (registry.time_of r) state.history) c.registry.ensures ∙ ap (λ t. acl_rows t state.history) here.time_is) in
    subst (AppendsBeginning (g.K.Sink.holds c.args.report.now) (g.K.Sink.holds c.finish.new.sink)) is (c.in-Err.ensures start _ lines).1

pub returns-in-Err-clause-cause : goal.returns-in-Err-clause-cause
returns-in-Err-clause-cause g c =
    let start = sunk g.K.Sink.holds g.K.Sink.faults c.args.report.now in
    let lines = puts_then _ _ _ _ _ _ _ _ c.put_rows.ensures c.put_packets.ensures start [] (rw c.new-gatherer.ensures (nothing_written start)) in
    let cause = (c.in-Err.ensures start _ lines).2 in
    record { later = cause.later; same = tt; rose = cause.rose }

pub returns-in-Ok-clause-any : goal.returns-in-Ok-clause-any
returns-in-Ok-clause-any g c = subst (λ (server : ServerValue). (state : State) × Represents server server.settings state) c.self.view_is (c.self.invariant.state, c.self.invariant.represents.represents)

pub returns-in-Err-clause-any : goal.returns-in-Err-clause-any
returns-in-Err-clause-any g c = subst (λ (server : ServerValue). (state : State) × Represents server server.settings state) c.self.view_is (c.self.invariant.state, c.self.invariant.represents.represents)
