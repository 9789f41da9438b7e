use Rattle.std.proofs.Common.{sym, subst}
use Rattle.stream_table.specs.Places.{AreApart}
use Rattle.stream_table.proofs.Apart.{apart_forgotten}
use Rattle.stream_table.proofs.table.StreamTable.forget.Goals as goal

pub invariant_of-self : goal.invariant_of-self
invariant_of-self g c = subst AreApart (sym c.forget_in.ensures) (apart_forgotten c.args.conn c.self.inside.rows.items c.self.invariant)
