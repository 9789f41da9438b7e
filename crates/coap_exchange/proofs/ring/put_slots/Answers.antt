use Rattle.std.proofs.Common.{◌≡◌, ◌+◌, drop, length, ap, ◌∙◌, arith}
use Rattle.dots_history.specs.Slots.{placed}
use Rattle.dots_history.specs.KeptPlaces.{union}
use Rattle.coap_exchange.specs.Rings.{slots_of}
use Rattle.coap_exchange.proofs.Unions.{put_message}
use Rattle.dots_history.proofs.Unions.{union_longer}
use Rattle.coap_exchange.proofs.ring.put_slots.Goals as goal

pub put-requires : goal.put-requires
put-requires c =
    let rest = slots_of (drop (c.loop-message.message-index + 1) c.args.messages.now) in
    let more = placed c.message-item.result.slot c.loop-message.into.items in
    let step = put_message c.args.messages.now c.loop-message.message-index c.message-item.result c.loop-message.into.items _ c.loop-message-test.true c.message-item.is c.loop-message.invariant.all in
    let long = ap length step in
    let longer = union_longer rest more in
    omega (arith, longer, long, c.requires, c.loop-message.invariant.room)

pub loop-message-preserved : goal.loop-message-preserved
loop-message-preserved c = record {
  all =
      ap (λ slots. union (slots_of (drop (c.loop-message.message-index + 1) c.args.messages.now)) slots.items) c.put.ensures
      ∙ put_message c.args.messages.now c.loop-message.message-index c.message-item.result c.loop-message.into.items _ c.loop-message-test.true c.message-item.is c.loop-message.invariant.all;
  room = ap (λ slots. slots.room) c.put.ensures ∙ c.loop-message.invariant.room;
}
