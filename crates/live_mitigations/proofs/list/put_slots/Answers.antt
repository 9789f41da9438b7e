use Rattle.std.proofs.Common.{◌+◌, drop, length, ap, ◌∙◌, arith}
use Rattle.dots_history.specs.KeptPlaces.{union}
use Rattle.dots_history.proofs.Unions.{union_longer}
use Rattle.live_mitigations.specs.Numbers.{numbers_of, numbers_in}
use Rattle.live_mitigations.specs.LiveRows.{slots_in}
use Rattle.live_mitigations.proofs.Unions.{put_one}
use Rattle.live_mitigations.proofs.LiveRows.{slots_within, slots_there}
use Rattle.live_mitigations.proofs.list.put_slots.Goals as goal

pub put_numbers-requires : goal.put_numbers-requires
put_numbers-requires c =
    let rows = c.args.rows.now in
    let i = c.loop-row.row-index in
    let rest = numbers_in (drop (i + 1) (slots_in rows)) in
    let more = union (numbers_of c.row-item.result.slots) c.loop-row.into.items in
    let step = put_one (slots_in rows) i c.row-item.result.slots c.loop-row.into.items _ (slots_within rows i c.loop-row-test.true)
    (slots_there rows i c.row-item.result c.loop-row-test.true c.row-item.is) c.loop-row.invariant.all in
    let long = ap length step in
    let longer = union_longer rest more in
    omega (arith, longer, long, c.requires, c.loop-row.invariant.room)

pub loop-row-preserved : goal.loop-row-preserved
loop-row-preserved c =
    let rows = c.args.rows.now in
    let i = c.loop-row.row-index in
    record {
      all =
          ap (λ slots. union (numbers_in (drop (i + 1) (slots_in rows))) slots.items) c.put_numbers.ensures
          ∙ put_one (slots_in rows) i c.row-item.result.slots c.loop-row.into.items _ (slots_within rows i c.loop-row-test.true)
          (slots_there rows i c.row-item.result c.loop-row-test.true c.row-item.is) c.loop-row.invariant.all;
      room = ap (λ slots. slots.room) c.put_numbers.ensures ∙ c.loop-row.invariant.room;
    }
