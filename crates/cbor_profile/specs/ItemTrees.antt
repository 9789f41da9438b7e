-- The tree that an `Item` stands for.
use Rattle.std.specs.Prelude.{List, box_value}
use Rattle.cbor_profile.specs.Tree.{Tree, unsigned, negative, byte_string, text, array, mapping, tag, boolean, null}
pub use Rattle.cbor_profile.specs.Tree.{items_of, pairs_of}
use Rattle.cbor_profile.specs.declared.item.Item.{Item, fold-Item}
use Rattle.cbor_profile.specs.declared.item.Item.TheOpen.{Item-F, ItemList-F, PairList-F}
use Rattle.cbor_profile.specs.declared.item.ItemList.{ItemList, fold-ItemList}
use Rattle.cbor_profile.specs.declared.item.PairList.{PairList, fold-PairList}

-- One level, with each item inside already seen as its tree.
abbrev pub item_step : Item-F Tree (List Tree) (List (Tree × Tree)) → Tree
item_step (Item-F.Unsigned n) = unsigned n
item_step (Item-F.Negative n) = negative n
item_step (Item-F.Bytes bytes) = byte_string bytes
item_step (Item-F.Text bytes) = text bytes
item_step (Item-F.Array ts) = array (items_of ts)
item_step (Item-F.Map ps) = mapping (pairs_of ps)
item_step (Item-F.Tag n t) = tag n (box_value t)
item_step (Item-F.Bool b) = boolean b
item_step Item-F.Null = null

abbrev pub items_step : ItemList-F Tree (List Tree) (List (Tree × Tree)) → List Tree
items_step list = list.items.items

abbrev pub pairs_step : PairList-F Tree (List Tree) (List (Tree × Tree)) → List (Tree × Tree)
pairs_step list = list.items.items

abbrev pub tree_of : Item → Tree
tree_of = fold-Item Tree (List Tree) (List (Tree × Tree)) item_step items_step pairs_step

-- the trees of a list of items
abbrev pub trees : ItemList → List Tree
trees = fold-ItemList Tree (List Tree) (List (Tree × Tree)) item_step items_step pairs_step

-- the keys and values of a list of pairs
abbrev pub tree_pairs : PairList → List (Tree × Tree)
tree_pairs = fold-PairList Tree (List Tree) (List (Tree × Tree)) item_step items_step pairs_step

-- a key and its value
abbrev pub pair_of : Item × Item → Tree × Tree
pair_of p = (tree_of p.0, tree_of p.1)
