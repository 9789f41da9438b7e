use Rattle.dots_host.proofs.RunLemmas.{added_weaker}
use Rattle.session_core.proofs.NoticeTicking.{all_sent}
use Rattle.session_core.proofs.beating.beat.Goals as goal

pub returns-clause-sent : goal.returns-clause-sent
returns-clause-sent g c by agrees =
    let given = c.send_beats.ensures.sent in
    (all_sent by _ _ _ _ _ _ _ _ (given.1 by agrees) given.2).0

pub returns-clause-left : goal.returns-clause-left
returns-clause-left g c by agrees =
    let given = c.send_beats.ensures.sent in
    (all_sent by _ _ _ _ _ _ _ _ (given.1 by agrees) given.2).1

pub returns-clause-adds : goal.returns-clause-adds
returns-clause-adds g c = added_weaker _ _ _ _ c.send_beats.ensures.sent.2 (λ more sends. tt)
