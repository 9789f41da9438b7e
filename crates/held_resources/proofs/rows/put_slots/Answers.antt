use Rattle.std.proofs.Common.{◌+◌, drop, length, ap, ◌∙◌, arith}
use Rattle.dots_history.specs.Slots.{placed}
use Rattle.dots_history.specs.KeptPlaces.{union}
use Rattle.dots_history.proofs.Unions.{union_longer}
use Rattle.held_resources.specs.Rows.{slots_in}
use Rattle.held_resources.proofs.Slots.{put_row}
use Rattle.held_resources.proofs.rows.put_slots.Goals as goal

pub put-requires : goal.put-requires
put-requires c =
    let rest = slots_in (drop (c.loop-row.row-index + 1) c.args.rows.now) in
    let more = placed c.row-item.result.slot c.loop-row.into.items in
    let step = put_row c.args.rows.now c.loop-row.row-index c.row-item.result c.loop-row.into.items _ c.loop-row-test.true c.row-item.is c.loop-row.invariant.all in
    let long = ap length step in
    let longer = union_longer rest more in
    omega (arith, longer, long, c.requires, c.loop-row.invariant.room)

pub loop-row-preserved : goal.loop-row-preserved
loop-row-preserved c = record {
  all =
      ap (λ slots. union (slots_in (drop (c.loop-row.row-index + 1) c.args.rows.now)) slots.items) c.put.ensures
      ∙ put_row c.args.rows.now c.loop-row.row-index c.row-item.result c.loop-row.into.items _ c.loop-row-test.true c.row-item.is c.loop-row.invariant.all;
  room = ap (λ slots. slots.room) c.put.ensures ∙ c.loop-row.invariant.room;
}
