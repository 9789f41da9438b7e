use Rattle.std.proofs.Common.{◌∷◌, [], ◌<◌, ◌^◌, ap, arith, rules, length-append}
use Rattle.coap_observe.specs.declared.spots.Fork.{Fork}
use Rattle.coap_observe.proofs.Filling.{filled_short, filled_around}
use Rattle.coap_observe.proofs.spots.Spots.close.Goals as goal

pub overflow_add-count : goal.overflow_add-count
overflow_add-count c =
    let small : c.deref.result.now.width < 2 ^ 64 = search rules in
    let same = ap (λ (f : Fork). f.width) c.deref.ensures in
    omega (arith, small, same, c.requires, c.count.ensures, c.count-2.ensures, filled_short c.args.left, filled_short c.args.right)

pub overflow_add-count-2 : goal.overflow_add-count-2
overflow_add-count-2 c =
    let small : c.deref.result.now.width < 2 ^ 64 = search rules in
    let same = ap (λ (f : Fork). f.width) c.deref.ensures in
    let own = filled_short (c.deref-2.result.now.slot ∷ []) in
    omega (arith, small, same, c.requires, c.count.ensures, c.count-2.ensures, c.own_count.ensures, own, filled_short c.args.left, filled_short c.args.right)

pub invariant_of-result : goal.invariant_of-result
invariant_of-result c =
    grind (arith, c.requires, length-append c.args.left (c.args.fork.value.slot ∷ c.args.right), filled_around c.args.left c.args.right c.args.fork.value.slot, c.count.ensures, c.count-2.ensures, c.own_count.ensures)
