use Rattle.std.proofs.Common.{◌≡◌, ◌+◌, ◌<◌, ◌∷◌, [], ◌++◌, length, get_or, take, add-one, ap, sym, ◌∙◌, arith, rules}
use Rattle.std.proofs.lemmas.List.{take_more, take_all}
use Rattle.coap_observe.specs.Links.{link, walk}
use Rattle.coap_observe.specs.Orders.{has_slot}
use Rattle.coap_observe.specs.Places.{PlacesValue}
use Rattle.coap_observe.proofs.Linking.{walk_length, walk_at, each_at}
use Rattle.coap_observe.proofs.Placing.{fresh_at}
use Rattle.coap_observe.proofs.Ringing.{low}
use Rattle.coap_observe.proofs.order.make_room.Goals as goal
use Rattle.coap_observe.proofs.order.make_room.Goals.{In-loop}

-- the slot at hand has a link, which leads to the slot at the next place
has_link : (c : In-loop) → c.loop.slot < length c.args.behind.now
has_link c =
    let slots = walk c.args.count c.args.behind.now c.args.room in
    let long = walk_length c.args.count c.args.behind.now c.args.room in
    let reach = each_at (λ x. x < c.args.room + 1) (c.args.room ∷ slots) c.loop.counter (omega arith, low c.args.room slots c.requires.below) (omega (arith, long, c.loop-test.true)) in
    omega (arith, c.loop.invariant.slot, reach, c.requires.links)

next_is : (c : In-loop) → link c.args.behind.now c.loop.slot ≡ get_or (walk c.args.count c.args.behind.now c.args.room) c.loop.counter 0
next_is c =
    ap (link c.args.behind.now) c.loop.invariant.slot
    ∙ walk_at c.args.count c.args.behind.now c.args.room c.loop.counter c.loop-test.true

pub offset_bounds-behind-slot : goal.offset_bounds-behind-slot
offset_bounds-behind-slot c = let bound = has_link c in search (rules, bound)

pub bounds-behind-slot : goal.bounds-behind-slot
bounds-behind-slot c = has_link (goal.at.bounds-behind-slot c).In-loop

pub push-requires-clause-below : goal.push-requires-clause-below
push-requires-clause-below c =
    let long = walk_length c.args.count c.args.behind.now c.args.room in
    let next = next_is (goal.at.push-requires-clause-below c).In-loop in
    let less = each_at (λ x. x < c.args.room) (walk c.args.count c.args.behind.now c.args.room) c.loop.counter c.requires.below (omega (arith, long, c.loop-test.true)) in
    omega (arith, next, less, c.loop.invariant.room, c.requires.room)

pub push-requires-clause-new : goal.push-requires-clause-new
push-requires-clause-new c =
    let slots = walk c.args.count c.args.behind.now c.args.room in
    let long = walk_length c.args.count c.args.behind.now c.args.room in
    ap (λ slot. has_slot slot c.loop.places.slots) (next_is (goal.at.push-requires-clause-new c).In-loop)
    ∙ ap (has_slot (get_or slots c.loop.counter 0)) c.loop.invariant.slots
    ∙ fresh_at slots c.loop.counter (omega (arith, long, c.loop-test.true)) c.requires.distinct

pub loop-preserved : goal.loop-preserved
loop-preserved c =
    let slots = walk c.args.count c.args.behind.now c.args.room in
    let long = walk_length c.args.count c.args.behind.now c.args.room in
    let next = next_is (goal.at.loop-preserved c).In-loop in
    record {
      slots =
          ap (λ (v : PlacesValue). v.slots) c.push.ensures
          ∙ ap (λ xs. xs ++ link c.args.behind.now c.loop.slot ∷ []) c.loop.invariant.slots
          ∙ ap (λ slot. take c.loop.counter slots ++ slot ∷ []) next
          ∙ sym (take_more slots c.loop.counter 0 (omega (arith, long, c.loop-test.true)));
      given = ap (λ (v : PlacesValue). v.given) c.push.ensures ∙ ap (λ n. n + 1) c.loop.invariant.given;
      room = ap (λ (v : PlacesValue). v.room) c.push.ensures ∙ c.loop.invariant.room;
      width = ap (λ (v : PlacesValue). v.width) c.push.ensures ∙ c.loop.invariant.width;
      slot = next ∙ ap (λ n. get_or (c.args.room ∷ slots) n 0) (sym (add-one c.loop.counter));
    }

pub returns-clause-slots : goal.returns-clause-slots
returns-clause-slots c =
    let long = walk_length c.args.count c.args.behind.now c.args.room in
    c.loop.invariant.slots
    ∙ take_all c.loop.counter (walk c.args.count c.args.behind.now c.args.room) (omega (arith, long, c.loop-test.false))
    ∙ sym c.requires.slots
