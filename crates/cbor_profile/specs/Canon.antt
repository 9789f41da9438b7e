-- The deterministic encoding of an item (RFC 8949, section 4.2.1): the shortest heads, definite lengths, and the
-- pairs of a map in their order. The simple values false, true and null are 20, 21 and 22 (section 3.3).
use Rattle.std.specs.Prelude.{ℕ, true, false, List, [], ◌++◌, length}
use Rattle.cbor_profile.specs.Tree.{Tree, unsigned, negative, byte_string, text, array, mapping, tag, boolean, null, Trees, no_items, item, Pairs, no_pairs, pair, count, pair_count}
use Rattle.cbor_profile.specs.Head.{head}

abbrev mutual
  pub canon : Tree → List ℕ
  canon (unsigned n) = head 0 n
  canon (negative n) = head 1 n
  canon (byte_string bytes) = head 2 (length bytes) ++ bytes
  canon (text bytes) = head 3 (length bytes) ++ bytes
  canon (array ts) = head 4 (count ts) ++ canon_items ts
  canon (mapping ps) = head 5 (pair_count ps) ++ canon_pairs ps
  canon (tag n t) = head 6 n ++ canon t
  canon (boolean false) = head 7 20
  canon (boolean true) = head 7 21
  canon null = head 7 22

  pub canon_items : Trees → List ℕ
  canon_items no_items = []
  canon_items (item t ts) = canon t ++ canon_items ts

  pub canon_pairs : Pairs → List ℕ
  canon_pairs no_pairs = []
  canon_pairs (pair k v ps) = canon k ++ (canon v ++ canon_pairs ps)
