use Rattle.std.proofs.Common.{◌++◌, ◌∷◌, [], refl, sym, ap, ◌∙◌}
use Rattle.std.specs.Prelude.{Some}
use Rattle.dots_host.specs.Stored.{media_of}
use Rattle.dots_history.specs.declared.entry.Entry.{Entry}
use Rattle.dots_registry.specs.RegistryValues.{time_of}
use Rattle.host_checks.specs.Leavings.{left_line}
use Rattle.host_checks.proofs.Ledgers.{still_taken, on_ok_always, on_ok_then, on_ok_both, joins_of}
use Rattle.host_checks.proofs.TakenInTurn.{next_left, next_taken}
use Rattle.host_checks.proofs.migrating.take_one.Goals as goal

pub accept-requires-clause-can : goal.accept-requires-clause-can
accept-requires-clause-can c =
    let some = c.requires.some in
    let few = some.taken.few in
    record {
      settings = c.args.new.now;
      history = some.history;
      entries = few;
      represents = c.judge.ensures.represents c.args.new.now some.history few some.taken.represents;
      joins = c.judge.ensures.joins c.in-None.is some.history few some.taken.represents;
    }

pub returns-in-None-clause-some : goal.returns-in-None-clause-some
returns-in-None-clause-some c =
    let some = c.requires.some in
    let few = some.taken.few in
    let now = still_taken c.args.new.now some.history c.args.ledger.now c.judge.new.ledger (Some (media_of c.args.disk.now)) c.judge.ensures.journal (λ es is. c.judge.ensures.represents c.args.new.now some.history es is) some.taken in
    on_ok_then
    c.accept.result
    (λ goes. record { history = some.history ++ c.judge.new.entry ∷ []; taken = goes c.args.new.now some.history now (c.judge.ensures.joins c.in-None.is some.history few some.taken.represents) })
    c.accept.ensures.taken

pub returns-in-Some-clause-some : goal.returns-in-Some-clause-some
returns-in-Some-clause-some c =
    let some = c.requires.some in
    on_ok_always
    c.add_left-added.result
    (record {
      history = some.history;
      taken = still_taken c.args.new.now some.history c.args.ledger.now c.judge.new.ledger (Some (media_of c.args.disk.now)) c.judge.ensures.journal (λ es is. c.judge.ensures.represents c.args.new.now some.history es is) some.taken;
    })

pub returns-in-None-clause-next : goal.returns-in-None-clause-next
returns-in-None-clause-next c =
    let new = c.args.new.now in
    let x = c.judge.new.entry in
    on_ok_both
    c.accept.result
    (λ goes at. λ before taken early.
    let few = taken.few in
    let joined = c.judge.ensures.joins c.in-None.is before few taken.represents in
    let now = still_taken new before c.args.ledger.now c.judge.new.ledger (Some (media_of c.args.disk.now)) c.judge.ensures.journal (λ es is. c.judge.ensures.represents new before es is) taken in
    next_taken c.args.old.now new before c.args.kept c.args.over x c.accept.new.ledger (Some (media_of c.accept.new.disk)) c.args.text.now.items c.args.text.now.items
    (c.judge.ensures.offered c.in-None.is)
    (sym (c.judge.ensures.cause early before few taken.represents) ∙ c.in-None.is)
    (joins_of new (time_of c.judge.new.ledger.registry) before x joined)
    refl
    at
    (goes new before now joined))
    c.accept.ensures.taken
    c.accept.ensures.time

pub returns-in-Some-clause-next : goal.returns-in-Some-clause-next
returns-in-Some-clause-next c =
    let new = c.args.new.now in
    let media = Some (media_of c.args.disk.now) in
    on_ok_then
    c.add_left-added.result
    (λ told. λ before taken early.
    next_left
    c.args.old.now
    new
    before
    c.args.kept
    c.args.over
    c.in-Some.why
    c.judge.new.ledger
    media
    c.args.text.now.items
    c.add_left-added.new.text.items
    (sym (c.judge.ensures.cause early before taken.few taken.represents) ∙ c.in-Some.is)
    (told ∙ ap (λ (e : Entry). c.args.text.now.items ++ left_line c.args.old.now c.args.kept.slot e c.in-Some.why) c.judge.ensures.same)
    (c.judge.ensures.early early)
    (still_taken new before c.args.ledger.now c.judge.new.ledger media c.judge.ensures.journal (λ es is. c.judge.ensures.represents new before es is) taken))
    c.add_left-added.ensures
