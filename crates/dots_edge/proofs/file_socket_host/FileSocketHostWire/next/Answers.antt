use Rattle.std.proofs.Common.{ap, length}
use Rattle.dots_host.specs.declared.event.Event.TheVariants as event
use Rattle.dots_host.specs.Acts.{took, event_of}
use Rattle.dots_edge.proofs.CallLemmas.{event_is_none, restarts_none}
use Rattle.dots_edge.proofs.file_socket_host.FileSocketHostWire.next.Goals as goal

pub returns-in-Some-Tick-clause-leads : goal.returns-in-Some-Tick-clause-leads
returns-in-Some-Tick-clause-leads g c =
    let acts = c.self.inside.log.acts in
    let later = c.note_taken.new.log.acts in
    let done = took event.Tick c.read-at.result in
    restarts_none c.args.self.now acts later (length acts) (length later) done (ap (λ host. host.calls) c.self.view_is) c.note_taken.ensures.adds tt

pub returns-in-Some-clause-leads : goal.returns-in-Some-clause-leads
returns-in-Some-clause-leads g c =
    let acts = c.self.inside.log.acts in
    let later = c.note_taken-in-Some.new.log.acts in
    let room = c.next_event-what.new.into in
    let at = c.read-at.result in
    let done = took (event_of c.in-Some.what room) at in
    let none = event_is_none c.in-Some.what room at c.in-Some.ensures.restart in
    restarts_none c.args.self.now acts later (length acts) (length later) done (ap (λ host. host.calls) c.self.view_is) c.note_taken-in-Some.ensures.adds none

pub returns-in-None-clause-leads : goal.returns-in-None-clause-leads
returns-in-None-clause-leads g c =
    let acts = c.self.inside.log.acts in
    let later = c.note_taken-in-None.new.log.acts in
    let done = took event.Failed c.read-at.result in
    restarts_none c.args.self.now acts later (length acts) (length later) done (ap (λ host. host.calls) c.self.view_is) c.note_taken-in-None.ensures.adds tt
