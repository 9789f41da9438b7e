use Rattle.std.proofs.lemmas.Result.{err_from_is_err_and}
use Rattle.slot_journal.proofs.Crashing.{left_has_entries, left_not_refused, on_ok_as, survived}
use Rattle.slot_journal.proofs.laws.survives_crash.Goals as goal

pub returns-in_err-entries-clause-spared : goal.returns-in_err-entries-clause-spared
returns-in_err-entries-clause-spared g c =
    let p = err_from_is_err_and c.from_residual.result c.from_residual.ensures.1 in
    rw (p.1, p.2) (λ before image represents left sees refusal.
    left_not_refused c.args.settings.now (g.C.Disk.extent c.args.left.now) before _ image _
    (left_has_entries _ _ c.args.journal.now c.args.settings.now before _ image represents (c.append-answer.ensures.moments c.args.settings.now before represents) left)
    (c.in_err-entries.ensures.refused image sees) refusal)

pub returns-in_err-entries-clause-refused : goal.returns-in_err-entries-clause-refused
returns-in_err-entries-clause-refused g c =
    let p = err_from_is_err_and c.from_residual.result c.from_residual.ensures.1 in
    rw (p.1, p.2) c.in_err-entries.ensures.refused

pub returns-clause-slot : goal.returns-clause-slot
returns-clause-slot g c = c.append-answer.ensures.slot

pub returns-clause-fault : goal.returns-clause-fault
returns-clause-fault g c = c.append-answer.ensures.cause

pub returns-clause-appended : goal.returns-clause-appended
returns-clause-appended g c = on_ok_as c.append-answer.result (λ rests before. rests c.args.settings.now before) c.append-answer.ensures.rests

pub returns-clause-recovered : goal.returns-clause-recovered
returns-clause-recovered g c = λ seen sees. (c.in_ok-entries.ensures.recovered seen sees).0

pub returns-clause-survived : goal.returns-clause-survived
returns-clause-survived g c = λ before image represents left sees.
    let either = left_has_entries _ _ c.args.journal.now c.args.settings.now before _ image represents (c.append-answer.ensures.moments c.args.settings.now before represents) left in
    survived c.args.settings.now before _ c.in_ok-entries.entries image either (c.in_ok-entries.ensures.recovered image sees).0
