use Rattle.std.proofs.Common.{sym, subst}
use Rattle.stream_table.specs.Places.{AreApart}
use Rattle.stream_table.proofs.Apart.{apart_emptied}
use Rattle.stream_table.proofs.table.StreamTable.clear.Goals as goal

pub invariant_of-self : goal.invariant_of-self
invariant_of-self g c = subst AreApart (sym c.clear_in.ensures) (apart_emptied c.self.inside.rows.items)
