-- The pairs of a map while it is read.
use Rattle.std.specs.Prelude.{◌≡◌, ℕ, List, map}
use Rattle.std.specs.List.{AllByRecursion}
use Rattle.std.specs.Map.{values_of}
use Rattle.std.specs.declared.vec.Vec.{Vec}
use Rattle.std.specs.declared.cmp.Ordering.TheVariants.{Less}
use Rattle.cbor_profile.specs.declared.item.Item.{Item}
use Rattle.cbor_profile.specs.declared.gathering.Gathered.{Gathered}
use Rattle.cbor_profile.specs.declared.gathering.Gathered.TheVariants as gathered_as
use Rattle.cbor_profile.specs.declared.gathering.Place.{Place}
use Rattle.cbor_profile.specs.declared.gathering.Place.TheVariants as place
use Rattle.cbor_profile.specs.Tree.{Tree, pairs_of}
use Rattle.cbor_profile.specs.Canon.{canon}
use Rattle.cbor_profile.specs.Valid.{IsSound, KeysRise}
use Rattle.cbor_profile.specs.ItemTrees.{tree_of, tree_pairs, pair_of}
use Rattle.cbor_profile.specs.Keys.{key_order}

-- the pairs of a map from encodings to pairs
abbrev pub encoded_pairs : {Z : Type 0} → List (Vec ℕ Z × (Item × Item)) → List (Tree × Tree)
encoded_pairs entries = map pair_of (values_of entries)

-- what each pair stands at is the encoding of its key
abbrev pub AreEncoded : {Z : Type 0} → List (Vec ℕ Z × (Item × Item)) → Type 0
AreEncoded entries = AllByRecursion (λ e. e.0.items ≡ canon (tree_of e.1.0)) entries

-- the pairs, in the order of their keys
abbrev pub gathered : Gathered → List (Tree × Tree)
gathered (gathered_as.Rising list) = tree_pairs list
gathered (gathered_as.ByEncoding pairs) = encoded_pairs pairs.entries

abbrev pub HasEncodings : Gathered → Type 0
HasEncodings (gathered_as.Rising list) = Unit {0}
HasEncodings (gathered_as.ByEncoding pairs) = AreEncoded pairs.entries

pub record IsGathered (pairs : Gathered) : Type 0 where
  pub kept : HasEncodings pairs
  pub rise : KeysRise (pairs_of (gathered pairs))
  pub sound : AllByRecursion (λ p. IsSound p.0) (gathered pairs)

-- each pair's key comes before the key
abbrev pub AllBefore : Tree → List (Tree × Tree) → Type 0
AllBefore key pairs = AllByRecursion (λ p. key_order p.0 key ≡ Less) pairs

-- the place is the encoding of the key
abbrev pub IsAtEncoding : Tree → Place → Type 0
IsAtEncoding key (place.At encoding) = encoding.items ≡ canon key
IsAtEncoding key place.Last = ⊥

-- a new key's pair can be put among the pairs, at this place
abbrev pub IsOpenFor : Gathered → Tree → Place → Type 0
IsOpenFor (gathered_as.Rising list) key place.Last = AllBefore key (tree_pairs list)
IsOpenFor (gathered_as.Rising list) key (place.At encoding) = ⊥
IsOpenFor (gathered_as.ByEncoding pairs) key where_to = IsAtEncoding key where_to
