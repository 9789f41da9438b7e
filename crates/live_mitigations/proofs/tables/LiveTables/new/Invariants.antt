-- so many lists are made, each with its deadline
use Rattle.std.proofs.Common.{◌≡◌, ◌≤◌, vec_capacity}
use Rattle.lifetime_clock.specs.Times.{count}
use Rattle.live_mitigations.specs.Rows.{AreEmpty, Tied}
use Rattle.live_mitigations.proofs.tables.LiveTables.new.Given as goal

abbrev pub invariant-loop-domain : goal.invariant-loop-domain
invariant-loop-domain l = record {
  empty : AreEmpty l.domain l.room l.lists.items;
  tied : Tied l.deadlines l.lists.items;
  counted : count l.deadlines ≡ l.domain;
  room_is : l.deadlines.room ≡ l.count;
  fits : l.count ≤ vec_capacity l.lists;
}
