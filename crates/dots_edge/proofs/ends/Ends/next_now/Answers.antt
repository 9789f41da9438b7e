use Rattle.std.proofs.Common.{refl}
use Rattle.dots_edge.specs.Came.{Passed}
use Rattle.dots_edge.proofs.CameLemmas.{some_come_then, passed_steps, ticks_begun}
use Rattle.dots_edge.proofs.ends.Ends.next_now.Goals as goal

pub returns-clause-came : goal.returns-clause-came
returns-clause-came c =
    let old = c.args.self.now in
    let asked = c.next_datagram.new.self in
    let looked = c.in_ok-what.ensures.passed c.in_default-2.is in
    let later = c.in_ok-what-2.ensures.passed c.in_default-3.is in
    let none : Passed c.next_after_a_look.new.self asked = record {
      connections = later.connections;
      asked = later.asked;
      tried = later.tried;
      ticks = later.ticks;
    } in
    let ticks = ticks_begun c.is_due.result old.ticks.since c.is_due.new.self.since old.time c.if-is_due.false c.is_due.ensures.since in
    let passed = passed_steps old _ c.next_after_a_look.new.self asked (c.next_stale.ensures.on c.in_default.is) refl ticks looked none in
    some_come_then c.next_of_connections.result _ old asked c.next_of_connections.new.self passed c.next_of_connections.ensures.follows c.next_of_connections.ensures.came
