use Rattle.dots_edge.proofs.CameLemmas.{come_of_them}
use Rattle.dots_edge.proofs.ends.Ends.next_piece.Goals as goal

pub returns-clause-whence : goal.returns-clause-whence
returns-clause-whence c = come_of_them c.next_piece.result _ _ _ c.next_piece.ensures.whence
