use Rattle.std.proofs.Common.{◌≡◌, ◌+◌, ◌<◌, ◌∷◌, length, get_or, ap, sym, subst, ◌∙◌, arith}
use Rattle.std.proofs.lemmas.Grind.{get_or_default_zero}
use Rattle.coap_observe.specs.Links.{link, walk}
use Rattle.coap_observe.specs.Orders.{OrderValue}
use Rattle.coap_observe.proofs.Linking.{walk_length, walk_at, each_at}
use Rattle.coap_observe.proofs.Ringing.{low}
use Rattle.coap_observe.proofs.order.Order.behind.Goals as goal

pub returns-clause-value : goal.returns-clause-value
returns-clause-value c =
    let links = c.self.inside.behind.items in
    let room = c.self.inside.room in
    let slots = walk c.self.inside.count links room in
    let long = walk_length c.self.inside.count links room in
    let there : c.args.place < length slots = subst (λ (o : OrderValue). c.args.place < length o.slots) (sym c.self.view_is) c.requires.there in
    let slot : c.args.slot ≡ get_or (room ∷ slots) c.args.place 0 = c.requires.before ∙ ap (λ (o : OrderValue). get_or (o.room ∷ o.slots) c.args.place 0) (sym c.self.view_is) in
    let reach = each_at (λ x. x < room + 1) (room ∷ slots) c.args.place (omega arith, low room slots c.self.invariant.ring.below) (omega (arith, there)) in
    let inside : c.args.slot < length links = omega (arith, slot, reach, c.self.invariant.ring.behind_size) in
    c.index.ensures
    ∙ get_or_default_zero links c.args.slot c.index.result.now inside
    ∙ ap (link links) slot
    ∙ walk_at c.self.inside.count links room c.args.place (omega (arith, long, there))
    ∙ ap (λ (o : OrderValue). get_or o.slots c.args.place 0) c.self.view_is

pub returns-clause-below : goal.returns-clause-below
returns-clause-below c =
    let room = c.self.inside.room in
    let slots = walk c.self.inside.count c.self.inside.behind.items room in
    let there : c.args.place < length slots = subst (λ (o : OrderValue). c.args.place < length o.slots) (sym c.self.view_is) c.requires.there in
    let less = each_at (λ x. x < room) slots c.args.place c.self.invariant.ring.below there in
    let same = ap (λ (o : OrderValue). get_or o.slots c.args.place 0) c.self.view_is in
    let wide = ap (λ (o : OrderValue). o.room) c.self.view_is in
    let value = returns-clause-value c in
    omega (arith, less, same, wide, value)
