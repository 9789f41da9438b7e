use Rattle.std.proofs.Common.{subst, ◌%◌}
use Rattle.std.proofs.lemmas.Result.{err_from_is_err_and}
use Rattle.slot_store.proofs.DiskReading.{reads_then, sees_unchanged}
use Rattle.slot_journal.specs.Refused.{IsNoWant}
use Rattle.slot_journal.proofs.Halves.{whole_half, rest_refused}
use Rattle.slot_journal.proofs.reading.read_half.Goals as goal

pub returns-clause-half : goal.returns-clause-half
returns-clause-half g c = λ seen sees count.
    whole_half c.args.store.now.slots (c.args.store.now.selector % 2) c.args.store.now.used c.args.store.now.format seen c.in_ok-entries.entries count c.in_ok-entries.ensures.count (c.in_ok-entries.ensures.entries seen sees count)
    (c.in_ok-check_rest.ensures.closed seen (sees_unchanged _ _ seen c.in_ok-entries.ensures.keeps sees))

pub returns-clause-keeps : goal.returns-clause-keeps
returns-clause-keeps g c = reads_then _ _ _ c.in_ok-entries.ensures.keeps c.in_ok-check_rest.ensures.keeps

pub returns-clause-beside : goal.returns-clause-beside
returns-clause-beside g c = g.met.D.Disk.beside_then _ _ _ c.in_ok-entries.ensures.beside c.in_ok-check_rest.ensures.beside

pub returns-in_err-entries-clause-refused : goal.returns-in_err-entries-clause-refused
returns-in_err-entries-clause-refused g c =
    let p = err_from_is_err_and c.from_residual.result c.from_residual.ensures.1 in
    rw (p.1, p.2) c.in_err-entries.ensures.refused

pub returns-in_err-check_rest-clause-keeps : goal.returns-in_err-check_rest-clause-keeps
returns-in_err-check_rest-clause-keeps g c = reads_then _ _ _ c.in_ok-entries.ensures.keeps c.in_err-check_rest.ensures.keeps

pub returns-in_err-check_rest-clause-beside : goal.returns-in_err-check_rest-clause-beside
returns-in_err-check_rest-clause-beside g c = g.met.D.Disk.beside_then _ _ _ c.in_ok-entries.ensures.beside c.in_err-check_rest.ensures.beside

pub returns-in_err-check_rest-clause-refused : goal.returns-in_err-check_rest-clause-refused
returns-in_err-check_rest-clause-refused g c =
    let p = err_from_is_err_and c.from_residual-in_err-check_rest.result c.from_residual-in_err-check_rest.ensures.1 in
    rw (p.1, p.2) (λ seen sees count.
    rest_refused c.args.store.now.slots (c.args.store.now.selector % 2) c.args.store.now.used c.args.store.now.format seen c.in_ok-entries.entries _ count c.in_ok-entries.ensures.count (c.in_ok-entries.ensures.entries seen sees count) c.in_ok-entries.ensures.each
    (c.in_err-check_rest.ensures.refused seen (sees_unchanged _ _ seen c.in_ok-entries.ensures.keeps sees)))

pub returns-in_err-check_rest-clause-some : goal.returns-in_err-check_rest-clause-some
returns-in_err-check_rest-clause-some g c =
    let p = err_from_is_err_and c.from_residual-in_err-check_rest.result c.from_residual-in_err-check_rest.ensures.1 in
    rw (p.1, p.2) (λ is. absurd (subst IsNoWant is c.in_err-check_rest.ensures.memory))

pub returns-in_err-entries-clause-sized : goal.returns-in_err-entries-clause-sized
returns-in_err-entries-clause-sized g c =
    let p = err_from_is_err_and c.from_residual.result c.from_residual.ensures.1 in
    rw (p.1, p.2) c.in_err-entries.ensures.sized

pub returns-in_err-check_rest-clause-sized : goal.returns-in_err-check_rest-clause-sized
returns-in_err-check_rest-clause-sized g c =
    let p = err_from_is_err_and c.from_residual-in_err-check_rest.result c.from_residual-in_err-check_rest.ensures.1 in
    rw (p.1, p.2) c.in_err-check_rest.ensures.sized
