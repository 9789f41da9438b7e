use Rattle.std.proofs.Common.{sym, ap}
use Rattle.wire_figures.specs.Counting.{is_event, is_datagram, is_stranger, is_opening, is_loss, code_of, status_of, last_time}
use Rattle.wire_figures.proofs.Steps.{none_counted, table_begins}
use Rattle.wire_figures.proofs.tally.Tally.new.Goals as goal

pub invariant_of-result : goal.invariant_of-result
invariant_of-result c =
    let calls = c.new-3.result.acts in
    let none = c.new-3.ensures in (
      none_counted is_event calls none,
      none_counted is_datagram calls none,
      none_counted is_stranger calls none,
      none_counted is_opening calls none,
      none_counted is_loss calls none,
      sym (ap last_time none),
      table_begins code_of 256 c.in_ok-codes.codes calls c.in_ok-codes.ensures none,
      table_begins status_of 600 c.in_ok-statuses.statuses calls c.in_ok-statuses.ensures none,
    )
