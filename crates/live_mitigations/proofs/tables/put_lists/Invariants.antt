-- what is left, put to what is there, comes to all
use Rattle.std.proofs.Common.{◌≡◌, drop}
use Rattle.dots_history.specs.KeptPlaces.{union}
use Rattle.live_mitigations.specs.Numbers.{all_numbers}
use Rattle.live_mitigations.proofs.tables.put_lists.Given as goal

abbrev pub invariant-loop-list : goal.invariant-loop-list
invariant-loop-list l = record {
  all : union (all_numbers (drop l.list-index l.lists)) l.into.items ≡ union (all_numbers l.lists) l.fn.into.items;
  room : l.into.room ≡ l.fn.into.room;
}
