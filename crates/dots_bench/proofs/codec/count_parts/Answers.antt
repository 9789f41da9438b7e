use Rattle.std.proofs.Common.{◌≡◌, ◌∙◌, length, sym, ap, subst}
use Rattle.cbor_profile.specs.ItemTrees.{tree_of, trees, tree_pairs}
use Rattle.cbor_profile.proofs.ItemTrees.{tree_of-Array, tree_of-Map}
use Rattle.dots_bench.specs.Parts.{parts_in}
use Rattle.dots_bench.proofs.Counts.{items_counted, pairs_all_counted}
use Rattle.dots_bench.proofs.codec.count_parts.Goals as goal

pub returns-in-Array : goal.returns-in-Array
returns-in-Array c =
    let items = c.items.result.now in
    subst (λ item. length items ≡ parts_in (tree_of item)) (sym c.in-Array.is) (items_counted tree_of items (trees c.in-Array.list) c.items.ensures ∙ sym (ap parts_in (tree_of-Array c.in-Array.list)))

pub returns-in-Map : goal.returns-in-Map
returns-in-Map c =
    let pairs = c.items-in-Map.result.now in
    subst (λ item. length pairs ≡ parts_in (tree_of item)) (sym c.in-Map.is) (pairs_all_counted (λ p. (tree_of p.0, tree_of p.1)) pairs (tree_pairs c.in-Map.list) c.items-in-Map.ensures ∙ sym (ap parts_in (tree_of-Map c.in-Map.list)))
