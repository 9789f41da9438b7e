use Rattle.std.proofs.Common.{refl}
use Rattle.held_resources.proofs.Going.{rows_more, rows_moved, rows_many}
use Rattle.held_resources.proofs.laws.rows_go_on.Goals as goal

pub returns : goal.returns
returns c = record {
  none = refl;
  more = rows_more;
  moved = rows_moved;
  many = rows_many;
}
