use Rattle.std.proofs.Common.{◌≡◌, ◌+◌, ◌-◌, ◌*◌, ◌≤◌, [], length}
use Rattle.std.specs.List.{AllByRecursion}
use Rattle.cbor_profile.specs.Tree.{pairs_of}
use Rattle.cbor_profile.specs.Valid.{IsSound, KeysRise}
use Rattle.cbor_profile.specs.ItemTrees.{trees, tree_pairs}
use Rattle.cbor_profile.specs.Gathering.{gathered, IsGathered}
use Rattle.cbor_profile.specs.ItemReading.{items_at, open_items_at, pairs_at, open_pairs_at, item_at}
use Rattle.cbor_profile.proofs.Loops.{with_front}
use Rattle.cbor_profile.proofs.reading.+reader.Given as goal

-- A part nests one level less, and on one level the calls go down this list.
abbrev pub decreases-read_array : goal.decreases-read_array
decreases-read_array l = 16 * l.levels + 9

abbrev pub decreases-read_map : goal.decreases-read_map
decreases-read_map l = 16 * l.levels + 9

abbrev pub decreases-read_tag : goal.decreases-read_tag
decreases-read_tag l = 16 * l.levels + 9

abbrev pub decreases-read_items : goal.decreases-read_items
decreases-read_items l = 16 * l.levels + 8

abbrev pub decreases-read_open_array : goal.decreases-read_open_array
decreases-read_open_array l = 16 * l.levels + 8

abbrev pub decreases-read_pairs : goal.decreases-read_pairs
decreases-read_pairs l = 16 * l.levels + 8

abbrev pub decreases-read_other_pairs : goal.decreases-read_other_pairs
decreases-read_other_pairs l = 16 * l.levels + 7

abbrev pub decreases-read_late_pairs : goal.decreases-read_late_pairs
decreases-read_late_pairs l = 16 * l.levels + 6

abbrev pub decreases-read_open_map : goal.decreases-read_open_map
decreases-read_open_map l = 16 * l.levels + 8

abbrev pub decreases-read_pair : goal.decreases-read_pair
decreases-read_pair l = 16 * l.levels + 5

abbrev pub decreases-read_item : goal.decreases-read_item
decreases-read_item l = 16 * l.levels + 3

abbrev pub decreases-read_long_item : goal.decreases-read_long_item
decreases-read_long_item l = 16 * l.levels + 2

abbrev pub decreases-read_value : goal.decreases-read_value
decreases-read_value l = 16 * l.levels + 1

abbrev pub decreases-read_indefinite : goal.decreases-read_indefinite
decreases-read_indefinite l = 16 * l.levels + 1

-- the parts so far and those to come are all of them
abbrev pub invariant-read_items-loop : goal.invariant-read_items-loop
invariant-read_items-loop l = record {
  read : with_front (trees l.items) (items_at (item_at l.levels l.fn.end) (l.count - l.counter) l.rest) ≡ items_at (item_at l.levels l.fn.end) l.count l.bytes;
  shorter : length l.rest ≤ length l.bytes;
}

abbrev pub invariant-read_open_array-loop : goal.invariant-read_open_array-loop
invariant-read_open_array-loop l = record {
  read : with_front (trees l.items) (open_items_at (item_at l.levels l.fn.end) (length l.bytes - l.counter) l.fn.end l.rest) ≡ open_items_at (item_at l.levels l.fn.end) (length l.bytes) l.fn.end l.bytes;
  shorter : length l.rest ≤ length l.bytes;
}

abbrev pub invariant-read_pairs-loop-done : goal.invariant-read_pairs-loop-done
invariant-read_pairs-loop-done l = record {
  read : pairs_at (item_at l.levels l.fn.end) l.fn.end (l.count - l.done) (tree_pairs l.pairs) l.rest ≡ pairs_at (item_at l.levels l.fn.end) l.fn.end l.count [] l.bytes;
  rise : KeysRise (pairs_of (tree_pairs l.pairs));
  sound : AllByRecursion (λ p. IsSound p.0) (tree_pairs l.pairs);
  shorter : length l.rest ≤ length l.bytes;
}

abbrev pub invariant-read_other_pairs-loop-done : goal.invariant-read_other_pairs-loop-done
invariant-read_other_pairs-loop-done l = record {
  read : pairs_at (item_at l.levels l.fn.end) l.fn.end (l.count - l.done) (tree_pairs l.pairs) l.rest ≡ pairs_at (item_at l.levels l.fn.end) l.fn.end l.count (tree_pairs l.fn.pairs) l.bytes;
  rise : KeysRise (pairs_of (tree_pairs l.pairs));
  sound : AllByRecursion (λ p. IsSound p.0) (tree_pairs l.pairs);
  shorter : length l.rest ≤ length l.bytes;
}

abbrev pub invariant-read_late_pairs-loop : goal.invariant-read_late_pairs-loop
invariant-read_late_pairs-loop l = record {
  read : pairs_at (item_at l.levels l.fn.end) l.fn.end (l.count - l.counter) (gathered l.pairs) l.rest ≡ pairs_at (item_at l.levels l.fn.end) l.fn.end l.count (tree_pairs l.fn.pairs) l.bytes;
  gathered : IsGathered l.pairs;
  shorter : length l.rest ≤ length l.bytes;
}

abbrev pub invariant-read_open_map-loop : goal.invariant-read_open_map-loop
invariant-read_open_map-loop l = record {
  read : open_pairs_at (item_at l.levels l.fn.end) (length l.bytes - l.counter) l.fn.end (gathered l.pairs) l.rest ≡ open_pairs_at (item_at l.levels l.fn.end) (length l.bytes) l.fn.end [] l.bytes;
  gathered : IsGathered l.pairs;
  shorter : length l.rest ≤ length l.bytes;
}
