-- The fields that a reader has still to read.
use Rattle.std.specs.Prelude.{List, map}
use Rattle.cbor_profile.specs.Tree.{Trees, Pairs}
use Rattle.cbor_profile.specs.ItemTrees.{tree_of, items_of, pairs_of}
use Rattle.cbor_profile.specs.declared.item.Item.{Item}
use Rattle.dots_keys.specs.declared.fields.Fields.{Fields}
use Rattle.dots_keys.specs.Fields.{Field, fields_in}

abbrev pub pairs_seen : List (Item × Item) → Pairs
pairs_seen pairs = pairs_of (map (λ p. (tree_of p.0, tree_of p.1)) pairs)

abbrev pub fields_left : Fields → List Field
fields_left fields = fields_in (pairs_seen fields.pairs.now)

abbrev pub items_seen : List Item → Trees
items_seen items = items_of (map tree_of items)
