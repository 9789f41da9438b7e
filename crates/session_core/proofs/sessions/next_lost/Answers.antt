use Rattle.std.proofs.Common.{get_or, None, sym, ap, ◌∙◌}
use Rattle.session_core.specs.Beating.{has_lost, has_session, row_forgotten}
use Rattle.session_core.proofs.Peers.{peers_set}
use Rattle.session_core.proofs.Rows.{first_here}
use Rattle.session_core.proofs.Ticking.{fewer_set}
use Rattle.session_core.proofs.Turns.{forgotten_gone}
use Rattle.session_core.proofs.sessions.next_lost.Goals as goal

pub returns-then-has_lost-clause-first : goal.returns-then-has_lost-clause-first
returns-then-has_lost-clause-first g c by agrees =
    record {
      row = get_or c.loop-row.rows c.loop-row.row-index (record { peer = 0; contact = None });
      first =
          first_here (has_lost by c.args.now) row_forgotten c.args.rows.now c.loop-row.rows c.loop-row.row-index _ c.forget.new.self c.loop-row-test.true
          c.loop-row.invariant.same (c.loop-row.invariant.none by agrees) (sym (c.has_lost.ensures.lost by agrees) ∙ c.if-has_lost.true) c.forget.ensures;
      own = ap (λ row. row.peer) c.forget.ensures;
    }

pub returns-then-has_lost-clause-peers : goal.returns-then-has_lost-clause-peers
returns-then-has_lost-clause-peers g c =
    peers_set c.args.rows.now c.loop-row.rows c.loop-row.row-index (record { peer = 0; contact = None }) c.forget.new.self c.loop-row-test.true
    c.loop-row.invariant.same (ap (λ row. row.peer) c.forget.ensures)

pub returns-then-has_lost-clause-fewer : goal.returns-then-has_lost-clause-fewer
returns-then-has_lost-clause-fewer g c =
    let row = get_or c.loop-row.rows c.loop-row.row-index (record { peer = 0; contact = None }) in
    fewer_set has_session c.args.rows.now c.loop-row.rows c.loop-row.row-index (record { peer = 0; contact = None }) c.forget.new.self c.loop-row-test.true
    c.loop-row.invariant.same (c.has_lost.ensures.session c.if-has_lost.true) (ap has_session c.forget.ensures ∙ forgotten_gone row)
