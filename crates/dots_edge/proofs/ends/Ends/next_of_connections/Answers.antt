use Rattle.dots_edge.specs.Came.{Passed}
use Rattle.dots_edge.proofs.CameLemmas.{some_come_then}
use Rattle.dots_edge.proofs.ends.Ends.next_of_connections.Goals as goal

pub returns-clause-came : goal.returns-clause-came
returns-clause-came c =
    let old = c.args.self.now in
    let between = c.next_piece-2.new.self in
    let later = c.next_piece-2.ensures.passed c.in_default-next_piece.is in
    let passed : Passed old between = record {
      connections = later.connections;
      asked = later.asked;
      tried = later.tried;
      ticks = later.ticks;
    } in
    some_come_then c.next_opened-2.result _ old between c.next_opened-2.new.self passed c.next_opened-2.ensures.follows (c.next_opened-2.ensures.came _)
