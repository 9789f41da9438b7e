use Rattle.std.proofs.Common.{arith}
use Rattle.installed_filters.proofs.Places.{installed_rows, installed_placed, room_left}
use Rattle.installed_filters.proofs.filters.InstalledFilters.install_rows.Goals as goal

pub install_all-requires-clause-room : goal.install_all-requires-clause-room
install_all-requires-clause-room c =
    room_left c.args.own.items c.self.inside.table c.fresh_place-place.new.table c.args.self.now c.self.view_is c.fresh_place-place.ensures.rows c.requires

pub install_all-requires-clause-places : goal.install_all-requires-clause-places
install_all-requires-clause-places c =
    omega (
      arith,
      c.fresh_place-place.ensures.low,
      (c.fresh_place-place.ensures.placed).scrub_room,
      room_left c.args.own.items c.self.inside.table c.fresh_place-place.new.table c.args.self.now c.self.view_is c.fresh_place-place.ensures.rows c.requires,
    )

pub invariant_of-self : goal.invariant_of-self
invariant_of-self c =
    installed_placed
    c.fresh_place-place.result
    _
    c.args.own.items
    c.fresh_place-place.new.table
    c.install_all.new.self
    c.fresh_place-place.ensures.placed
    c.install_all.ensures.rows
    c.install_all.ensures.others
    (room_left c.args.own.items c.self.inside.table c.fresh_place-place.new.table c.args.self.now c.self.view_is c.fresh_place-place.ensures.rows c.requires)
    (omega arith)

pub returns : goal.returns
returns c =
    installed_rows
    c.fresh_place-place.result
    c.args.own.items
    c.self.inside.table
    c.fresh_place-place.new.table
    c.install_all.new.self
    c.args.self.now
    c.self.view_is
    c.fresh_place-place.ensures.rows
    c.fresh_place-place.ensures.placed
    c.install_all.ensures.rows
    c.install_all.ensures.others
