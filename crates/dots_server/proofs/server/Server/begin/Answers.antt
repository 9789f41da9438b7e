use Rattle.std.proofs.lemmas.Result.{err_from_is_err_and}
use Rattle.dots_server.proofs.Beginning.{begun_restarts, begun_lives}
use Rattle.dots_server.proofs.server.Server.begin.Goals as goal

pub invariant_of-result : goal.invariant_of-result
invariant_of-result g c =
    let begun = c.in_ok-ledger.ensures.recovered in
    begun_lives c.args.settings c.args.at c.in_ok-ledger.ledger begun.entries c.requires.early begun.represents begun.time c.in_ok-ledger.ensures.size.0 begun.each
    c.in_ok-watch.watch c.in_ok-watch.ensures.0 c.in_ok-watch.ensures.1 c.in_ok-lines.lines c.in_ok-lines.ensures

pub returns-clause-begun : goal.returns-clause-begun
returns-clause-begun g c =
    let begun = c.in_ok-ledger.ensures.recovered in (
      begun.entries,
      begun_restarts c.args.settings c.args.at c.in_ok-ledger.ledger begun.entries c.requires.early begun.represents begun.time c.in_ok-ledger.ensures.size.0 begun.each c.in_ok-watch.watch c.in_ok-watch.ensures.0 c.in_ok-watch.ensures.1 c.in_ok-lines.lines c.in_ok-lines.ensures,
      begun.represents.calm,
      λ seen sees. (begun.stored seen sees, begun.rests seen sees),
    )

-- the disk wasn't recovered
pub returns-in_err-ledger-clause-unwritten : goal.returns-in_err-ledger-clause-unwritten
returns-in_err-ledger-clause-unwritten g c =
    let p = err_from_is_err_and c.from_residual-in_err-ledger.result c.from_residual-in_err-ledger.ensures.1 in
    rw (p.1, p.2) c.in_err-ledger.ensures.unwritten

pub returns-in_err-ledger-clause-small : goal.returns-in_err-ledger-clause-small
returns-in_err-ledger-clause-small g c =
    let p = err_from_is_err_and c.from_residual-in_err-ledger.result c.from_residual-in_err-ledger.ensures.1 in
    rw (p.1, p.2) c.in_err-ledger.ensures.small
