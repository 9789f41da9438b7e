-- what is left, put to what is there, comes to all
use Rattle.std.proofs.Common.{◌≡◌, drop}
use Rattle.dots_history.specs.KeptPlaces.{union}
use Rattle.live_mitigations.specs.Numbers.{numbers_in}
use Rattle.live_mitigations.specs.LiveRows.{slots_in}
use Rattle.live_mitigations.proofs.list.put_slots.Given as goal

abbrev pub invariant-loop-row : goal.invariant-loop-row
invariant-loop-row l = record {
  all : union (numbers_in (drop l.row-index (slots_in l.rows))) l.into.items ≡ union (numbers_in (slots_in l.rows)) l.fn.into.items;
  room : l.into.room ≡ l.fn.into.room;
}
