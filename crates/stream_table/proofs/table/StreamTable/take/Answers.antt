use Rattle.std.proofs.Common.{sym, subst}
use Rattle.stream_table.specs.Places.{AreApart}
use Rattle.stream_table.proofs.Apart.{apart_placed, buffers_placed}
use Rattle.stream_table.proofs.table.StreamTable.take.Goals as goal

pub invariant_of-self : goal.invariant_of-self
invariant_of-self g c =
    subst AreApart (sym c.take_in.ensures.rows) (apart_placed c.args.place.row c.args.place.seat _ c.self.inside.rows.items c.self.invariant)

pub returns-clause-held : goal.returns-clause-held
returns-clause-held g c = buffers_placed c.args.place _ c.self.inside.rows.items c.args.self.now _ c.self.view_is c.take_in.ensures.rows c.self.invariant
