use Rattle.std.proofs.Common.{◌≡◌, ◌≢◌, List, [], ◌∷◌, length, map, Option, Some, None, MatchOption, sym, ap, ◌∙◌}
use Rattle.std.specs.Borrow.{Bor}
use Rattle.cbor_profile.specs.declared.item.Item.{Item}
use Rattle.cbor_profile.specs.Tree.{Tree, item, no_items, items_of}
use Rattle.cbor_profile.specs.Kind.{items_in}
use Rattle.cbor_profile.specs.ItemTrees.{tree_of}
use Rattle.dots_client.specs.Grants.{only_of}
use Rattle.dots_client.proofs.Shapes.{is_array, items_many}
use Rattle.dots_client.proofs.grants.only_item.Goals as goal

by : (t : Tree) (xs : List Item) (r : Option (Bor Item)) → Some (items_of (map tree_of xs)) ≡ items_in t → MatchOption r (length xs ≢ 1) (λ x. xs ≡ x.now ∷ [])
    → MatchOption r ((one : Tree) → t ≢ only_of one) (λ one. t ≡ only_of (tree_of one.now))
by t xs None items many = λ one same. many (items_many tree_of xs (item one no_items) t items same)
by t xs (Some x) items is = is_array t (items_of (map tree_of (x.now ∷ []))) (ap (λ ys. Some (items_of (map tree_of ys))) (sym is) ∙ items)

pub returns : goal.returns
returns c = by (tree_of c.args.item.now) c.in-Some.items.now c.only.result c.in-Some.ensures c.only.ensures
