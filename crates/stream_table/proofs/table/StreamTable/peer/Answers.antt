use Rattle.std.proofs.Common.{sym, ap, ◌∙◌, subst}
use Rattle.std.specs.Prelude.{option_map, slice_get}
use Rattle.stream_table.specs.Lines.{peer_in}
use Rattle.stream_table.specs.Places.{AreApart}
use Rattle.stream_table.proofs.Apart.{peer_there}
use Rattle.stream_table.proofs.table.StreamTable.peer.Goals as goal

pub returns : goal.returns
returns g c = λ conn is.
    peer_there c.args.place c.args.self.now conn _ (subst AreApart c.self.view_is c.self.invariant) is
    (ap (λ rows. option_map peer_in (slice_get rows c.args.place.row)) (sym c.self.view_is) ∙ c.peer_at.ensures)
