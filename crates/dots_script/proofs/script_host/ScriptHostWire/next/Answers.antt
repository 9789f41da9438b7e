use Rattle.std.proofs.Common.{refl, subst, length}
use Rattle.dots_host.specs.Acts.{event_of, wire_acts}
use Rattle.dots_script.specs.Lines.{to_come}
use Rattle.dots_script.specs.Accounts.{Outer, AccountsSince, Accounts}
use Rattle.dots_script.proofs.Accounting.{accounts_taken}
use Rattle.dots_script.proofs.script_host.ScriptHostWire.next.Goals as goal

pub returns-clause-leads : goal.returns-clause-leads
returns-clause-leads g c = λ start.
    let left = g.S.Source.left in
    let faults = g.S.Source.faults in
    let holds = g.K.Sink.holds in
    let inside = c.self.inside in
    let got = c.next_event-got.result in
    let old : Outer = record { script = to_come inside.block (left inside.source); written = holds inside.sink; failures = faults inside.source } in
    let new : Outer = record { script = to_come c.next_event-got.new.block (left c.next_event-got.new.source); written = holds inside.sink; failures = faults c.next_event-got.new.source } in
    let disk = c.note_taken.new.self in
    let step = accounts_taken start old new (wire_acts 0 inside.disk.acts) (wire_acts 0 disk.acts) (length inside.disk.acts) (length disk.acts) (event_of got.what c.next_event-got.new.into) got.at c.note_taken.ensures.adds c.next_event-got.ensures.answer c.next_event-got.ensures.later refl in
    subst (λ host. AccountsSince left faults holds start host → Accounts start new (wire_acts 0 disk.acts)) c.self.view_is step
