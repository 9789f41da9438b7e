use Rattle.std.proofs.Common.{get_or, None, sym, ap, ◌∙◌}
use Rattle.std.specs.Prelude.{is_some}
use Rattle.session_core.specs.Beating.{has_due, has_waited, row_sent}
use Rattle.session_core.proofs.Peers.{peers_set}
use Rattle.session_core.proofs.Rows.{first_here}
use Rattle.session_core.proofs.Ticking.{fewer_set}
use Rattle.session_core.proofs.Turns.{sent_last}
use Rattle.session_core.proofs.sessions.next_beat.Goals as goal

pub returns-in-Some-clause-first : goal.returns-in-Some-clause-first
returns-in-Some-clause-first g c by agrees =
    let beat = sym (c.in-Some.ensures.due by agrees) in
    record {
      row = get_or c.loop-row.rows c.loop-row.row-index (record { peer = 0; contact = None });
      first =
          first_here (has_due by c.args.now) (row_sent c.args.now) c.args.rows.now c.loop-row.rows c.loop-row.row-index _ c.send_beat.new.self c.loop-row-test.true
          c.loop-row.invariant.same (c.loop-row.invariant.none by agrees) (ap is_some beat) c.send_beat.ensures;
      due = beat;
    }

pub returns-in-Some-clause-peers : goal.returns-in-Some-clause-peers
returns-in-Some-clause-peers g c =
    peers_set c.args.rows.now c.loop-row.rows c.loop-row.row-index (record { peer = 0; contact = None }) c.send_beat.new.self c.loop-row-test.true
    c.loop-row.invariant.same (ap (λ row. row.peer) c.send_beat.ensures)

pub returns-in-Some-clause-fewer : goal.returns-in-Some-clause-fewer
returns-in-Some-clause-fewer g c =
    let row = get_or c.loop-row.rows c.loop-row.row-index (record { peer = 0; contact = None }) in
    fewer_set (has_waited c.args.now) c.args.rows.now c.loop-row.rows c.loop-row.row-index (record { peer = 0; contact = None }) c.send_beat.new.self c.loop-row-test.true
    c.loop-row.invariant.same c.in-Some.ensures.waited (ap (has_waited c.args.now) c.send_beat.ensures ∙ sent_last c.args.now row)
