use Rattle.std.proofs.Common.{◌+◌, drop, length, ap, ◌∙◌, arith}
use Rattle.dots_history.specs.KeptPlaces.{union}
use Rattle.dots_history.proofs.Unions.{union_longer}
use Rattle.live_mitigations.specs.Numbers.{numbers_in, all_numbers}
use Rattle.live_mitigations.proofs.Unions.{put_list}
use Rattle.live_mitigations.proofs.tables.put_lists.Goals as goal

pub put_into-requires : goal.put_into-requires
put_into-requires c =
    let rest = all_numbers (drop (c.loop-list.list-index + 1) c.args.lists.now) in
    let more = union (numbers_in c.list-item.result.slots) c.loop-list.into.items in
    let step = put_list c.args.lists.now c.loop-list.list-index c.list-item.result c.loop-list.into.items _ c.loop-list-test.true c.list-item.is c.loop-list.invariant.all in
    let long = ap length step in
    let longer = union_longer rest more in
    omega (arith, longer, long, c.requires, c.loop-list.invariant.room)

pub loop-list-preserved : goal.loop-list-preserved
loop-list-preserved c = record {
  all =
      ap (λ slots. union (all_numbers (drop (c.loop-list.list-index + 1) c.args.lists.now)) slots.items) c.put_into.ensures
      ∙ put_list c.args.lists.now c.loop-list.list-index c.list-item.result c.loop-list.into.items _ c.loop-list-test.true c.list-item.is c.loop-list.invariant.all;
  room = ap (λ slots. slots.room) c.put_into.ensures ∙ c.loop-list.invariant.room;
}
