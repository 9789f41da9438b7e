-- what is left, put to what is there, comes to all
use Rattle.std.proofs.Common.{◌≡◌, drop}
use Rattle.dots_history.specs.KeptPlaces.{union}
use Rattle.held_resources.specs.Rows.{slots_in}
use Rattle.held_resources.proofs.rows.put_slots.Given as goal

abbrev pub invariant-loop-row : goal.invariant-loop-row
invariant-loop-row l = record {
  all : union (slots_in (drop l.row-index l.rows)) l.into.items ≡ union (slots_in l.rows) l.fn.into.items;
  room : l.into.room ≡ l.fn.into.room;
}
