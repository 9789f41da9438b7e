-- Which items are valid: what they hold is in range, the keys of each map rise, and they nest at most 16 deep.
use Rattle.std.specs.Prelude.{◌≡◌, ℕ, suc, ◌^◌, ◌<◌, ◌≤◌, max, List, [], length, IsUtf8}
use Rattle.std.specs.Ordering.{nat_cmp}
use Rattle.std.specs.declared.cmp.Ordering.TheVariants.{Less}
use Rattle.std.specs.Cmp.Lexicographic.{slice_cmp}
use Rattle.cbor_profile.specs.Tree.{Tree, unsigned, negative, byte_string, text, array, mapping, tag, boolean, null, Trees, no_items, item, Pairs, no_pairs, pair, count, pair_count}
use Rattle.cbor_profile.specs.Canon.{canon}

-- how deep arrays, maps and tags nest
abbrev mutual
  pub depth : Tree → ℕ
  depth (unsigned n) = 0
  depth (negative n) = 0
  depth (byte_string bytes) = 0
  depth (text bytes) = 0
  depth (array ts) = suc (items_depth ts)
  depth (mapping ps) = suc (pairs_depth ps)
  depth (tag n t) = suc (depth t)
  depth (boolean b) = 0
  depth null = 0

  pub items_depth : Trees → ℕ
  items_depth no_items = 0
  items_depth (item t ts) = max (depth t) (items_depth ts)

  pub pairs_depth : Pairs → ℕ
  pairs_depth no_pairs = 0
  pairs_depth (pair k v ps) = max (max (depth k) (depth v)) (pairs_depth ps)

-- The bytewise lexicographic order of deterministic encodings (RFC 8949, section 4.2.1).
abbrev pub IsBefore : List ℕ → List ℕ → Type 0
IsBefore a b = slice_cmp nat_cmp a b ≡ Less

-- the encoding of each key comes after the one before it, and that of the first after last
abbrev pub RiseFrom : List ℕ → Pairs → Type 0
RiseFrom last no_pairs = Unit {0}
RiseFrom last (pair k v ps) = IsBefore last (canon k) × RiseFrom (canon k) ps

-- no encoding is empty, so that of the first key comes after the empty list
abbrev pub KeysRise : Pairs → Type 0
KeysRise = RiseFrom []

abbrev mutual
  pub IsSound : Tree → Type 0
  IsSound (unsigned n) = n < 2 ^ 64
  IsSound (negative n) = n < 2 ^ 64
  IsSound (byte_string bytes) = length bytes < 2 ^ 64
  IsSound (text bytes) = (length bytes < 2 ^ 64) × IsUtf8 bytes
  IsSound (array ts) = (count ts < 2 ^ 64) × AreSound ts
  IsSound (mapping ps) = (pair_count ps < 2 ^ 64) × ArePairsSound ps × KeysRise ps
  IsSound (tag n t) = (n < 2 ^ 64) × IsSound t
  IsSound (boolean b) = Unit {0}
  IsSound null = Unit {0}

  pub AreSound : Trees → Type 0
  AreSound no_items = Unit {0}
  AreSound (item t ts) = IsSound t × AreSound ts

  pub ArePairsSound : Pairs → Type 0
  ArePairsSound no_pairs = Unit {0}
  ArePairsSound (pair k v ps) = IsSound k × IsSound v × ArePairsSound ps

abbrev pub max_depth : ℕ
max_depth = 16

pub record IsValid (tree : Tree) : Type 0 where
  pub sound : IsSound tree
  pub nests : depth tree ≤ max_depth
