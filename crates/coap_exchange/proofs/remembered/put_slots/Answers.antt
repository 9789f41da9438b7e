use Rattle.std.proofs.Common.{◌≡◌, ◌+◌, drop, length, ap, ◌∙◌, arith}
use Rattle.dots_history.specs.KeptPlaces.{union}
use Rattle.coap_exchange.specs.Rings.{slots_of, all_slots}
use Rattle.coap_exchange.proofs.Unions.{put_ring}
use Rattle.dots_history.proofs.Unions.{union_longer}
use Rattle.coap_exchange.proofs.remembered.put_slots.Goals as goal

pub slots-requires : goal.slots-requires
slots-requires c =
    let rest = all_slots (drop (c.loop-ring.ring-index + 1) c.args.rings.now) in
    let more = union (slots_of c.ring-item.result.messages) c.loop-ring.into.items in
    let step = put_ring c.args.rings.now c.loop-ring.ring-index c.ring-item.result c.loop-ring.into.items _ c.loop-ring-test.true c.ring-item.is c.loop-ring.invariant.all in
    let long = ap length step in
    let longer = union_longer rest more in
    omega (arith, longer, long, c.requires, c.loop-ring.invariant.room)

pub loop-ring-preserved : goal.loop-ring-preserved
loop-ring-preserved c = record {
  all =
      ap (λ slots. union (all_slots (drop (c.loop-ring.ring-index + 1) c.args.rings.now)) slots.items) c.slots.ensures
      ∙ put_ring c.args.rings.now c.loop-ring.ring-index c.ring-item.result c.loop-ring.into.items _ c.loop-ring-test.true c.ring-item.is c.loop-ring.invariant.all;
  room = ap (λ slots. slots.room) c.slots.ensures ∙ c.loop-ring.invariant.room;
}
