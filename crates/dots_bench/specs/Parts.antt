-- What a decode of an item adds to the sum.
use Rattle.std.specs.Prelude.{ℕ}
use Rattle.cbor_profile.specs.Tree.{Tree, unsigned, negative, byte_string, text, array, mapping, tag, boolean, null, count, pair_count}

-- how many items or pairs stand directly in an item; 1 for one that holds none
abbrev pub parts_in : Tree → ℕ
parts_in (unsigned n) = 1
parts_in (negative n) = 1
parts_in (byte_string bytes) = 1
parts_in (text bytes) = 1
parts_in (array items) = count items
parts_in (mapping pairs) = pair_count pairs
parts_in (tag n t) = 1
parts_in (boolean b) = 1
parts_in null = 1
