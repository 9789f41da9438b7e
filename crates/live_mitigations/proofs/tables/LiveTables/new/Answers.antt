use Rattle.std.proofs.Common.{sym, ap, ◌∙◌, arith}
use Rattle.live_mitigations.specs.Ends.{first_end}
use Rattle.live_mitigations.specs.Rows.{LiveTable}
use Rattle.live_mitigations.proofs.Updates.{empty_more, tied_more, counted_more}
use Rattle.live_mitigations.proofs.tables.LiveTables.new.Goals as goal

pub loop-domain-preserved : goal.loop-domain-preserved
loop-domain-preserved c =
    let place = c.from.ensures ∙ sym c.loop-domain.invariant.empty.counted in
    let more = counted_more c.loop-domain.deadlines c.set.new.self c.loop-domain.lists.items c.from.result _ c.loop-domain.invariant.tied place c.set.ensures.updates in
    record {
      empty = empty_more _ _ _ _ _ c.loop-domain.invariant.empty c.in_ok-new.ensures c.push_reserved.ensures.items;
      tied = tied_more c.loop-domain.deadlines c.set.new.self c.loop-domain.lists.items _ c.from.result _ c.in_ok-new.field-0 c.loop-domain.invariant.tied place
          c.set.ensures.updates c.set.ensures.map (sym (ap (λ (t : LiveTable). first_end t.rows) c.in_ok-new.ensures)) c.push_reserved.ensures.items;
      counted = omega (arith, more, c.loop-domain.invariant.counted);
      room_is = c.set.ensures.updates.room ∙ c.loop-domain.invariant.room_is;
      fits = omega (arith, c.push_reserved.ensures.capacity);
    }
