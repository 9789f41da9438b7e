use Rattle.std.proofs.Common.{map}
use Rattle.std.specs.Borrow.{Bor}
use Rattle.mio.specs.declared.event.event.Event.{Event}
use Rattle.dots_edge.specs.Noted.{IsNoted, AreMarked}
use Rattle.dots_edge.specs.Places.{SameOpen}
use Rattle.dots_edge.specs.Gone.{AreOn}
use Rattle.dots_edge.proofs.waiting.note.Given as goal

abbrev pub invariant-loop-event : goal.invariant-loop-event
invariant-loop-event l =
    let events = map (λ (event : Bor Event). event.now) l.yielded in
    record {
      same : SameOpen l.initial.connections l.connections;
      on : AreOn l.initial.connections l.connections;
      waits : IsNoted events l.initial.waiting l.waiting;
      marks : AreMarked events l.initial.connections l.connections;
    }
