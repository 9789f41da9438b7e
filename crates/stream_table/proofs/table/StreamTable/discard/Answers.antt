use Rattle.std.proofs.Common.{sym, subst}
use Rattle.stream_table.specs.Places.{AreApart}
use Rattle.stream_table.proofs.Apart.{apart_placed, buffers_placed}
use Rattle.stream_table.proofs.table.StreamTable.discard.Goals as goal

pub invariant_of-self : goal.invariant_of-self
invariant_of-self g c =
    subst AreApart (sym c.discard_in.ensures) (apart_placed c.args.place.row c.args.place.seat _ c.self.inside.rows.items c.self.invariant)

pub returns : goal.returns
returns g c = buffers_placed c.args.place _ c.self.inside.rows.items c.args.self.now _ c.self.view_is c.discard_in.ensures c.self.invariant
