use Rattle.std.proofs.Common.{[], ◌∷◌, refl, sym, ap, ◌∙◌, subst, append-nil}
use Rattle.dots_settings.specs.declared.limits.Limits.{Limits}
use Rattle.dots_history.specs.declared.entry.Entry.{Entry}
use Rattle.coap_observe.specs.DueAmong.{joined}
use Rattle.dots_host.specs.Becoming.{RestsWith, Leaves}
use Rattle.slot_journal.specs.DiskEntries as journal
use Rattle.dots_registry.specs.RegistryValues.{time_of, number_remembered}
use Rattle.dots_registry.proofs.Answering.{err_of}
use Rattle.dots_machine.specs.Machine.{with_entry}
use Rattle.dots_server.specs.ServerValues.{ServerValue, RestartsWith, IsAcceptable}
use Rattle.dots_server.specs.Turning.{HasTurn, Wrote}
use Rattle.dots_server.proofs.ServerValues.{can_accept, joins_there, own_with, restarts_with, lives_with, lives_still}
use Rattle.dots_server.proofs.Turning.{silent_adds, accepting}
use Rattle.dots_server.proofs.server.Server.keep_entry.Goals as goal

pub accept-requires-clause-can : goal.accept-requires-clause-can
accept-requires-clause-can g c =
    can_accept (record { settings = c.self.inside.settings; registry = c.self.inside.ledger.registry; journal = c.self.inside.ledger.journal; watch = c.self.inside.watch; lines = c.self.inside.lines }) c.args.entry c.self.invariant
    (subst (λ server. IsAcceptable server c.args.entry) (sym c.self.view_is) c.requires.ready)

-- ---- the disk failed

pub invariant_of-self : goal.invariant_of-self
invariant_of-self g c =
    let old : ServerValue = record { settings = c.self.inside.settings; registry = c.self.inside.ledger.registry; journal = c.self.inside.ledger.journal; watch = c.self.inside.watch; lines = c.self.inside.lines } in
    let new : ServerValue = record { settings = c.self.inside.settings; registry = c.accept.new.self.registry; journal = c.accept.new.self.journal; watch = record c.self.inside.watch { due = c.joined-due.result }; lines = c.self.inside.lines } in
    let watch_is = ap (λ among. record c.self.inside.watch { due = among }) (c.joined-due.ensures ∙ ap (λ (e : Entry). joined c.self.inside.watch.due e.domain) c.entry.ensures) in
    let serving = c.self.invariant in
    let made = c.in_err-accept.ensures.refused c.self.inside.settings serving.state.history serving.entries serving.represents.ledger in
    lives_still c.args.entry.domain old new made.0 serving refl watch_is refl c.accept.ensures.slots c.in_err-accept.ensures.still made.1

pub returns-in_err-accept-clause-failed : goal.returns-in_err-accept-clause-failed
returns-in_err-accept-clause-failed g c =
    err_of c.from_residual.result _ (λ settings state entries kept.
    let old : ServerValue = record { settings = c.self.inside.settings; registry = c.self.inside.ledger.registry; journal = c.self.inside.ledger.journal; watch = c.self.inside.watch; lines = c.self.inside.lines } in
    let entry = c.args.entry in
    let host = c.args.host.now in
    let left = c.accept.new.disk in
    let can = subst (λ server. IsAcceptable server entry) (sym c.self.view_is) c.requires.ready in
    let here = subst (λ server. RestartsWith server settings state entries) (sym c.self.view_is) kept in
    let of = here.represents.represents in
    let joins = joins_there old settings state entry of can in
    let writes : RestsWith (g.H.Disk.media host) (journal.Represents old.journal settings entries) → Leaves (g.H.Disk.media host) (g.H.Disk.media left) (HasTurn settings state (with_entry state entry)) = λ rests.
    accepting settings (number_remembered old.registry) (time_of old.registry) state entry (g.H.Disk.media host) (g.H.Disk.media left) (ap (λ (limits : Limits). limits.remembered) of.is_of.limits) of.time_is
    (can.now ∙ of.time_is) (c.accept.ensures.moments settings state.history entries here.represents.ledger joins rests) in
    record {
      written = (with_entry state entry).history;
      adds = (entry ∷ [], refl);
      on = ([], sym (append-nil (with_entry state entry).history));
      silent = (g.met.H.Host.disk_keeps host left c.accept.ensures.beside).0;
      writes = subst (λ (server : ServerValue). RestsWith (g.H.Disk.media host) (journal.Represents server.journal settings entries) → Leaves (g.H.Disk.media host) (g.H.Disk.media left) (HasTurn settings state (with_entry state entry)))
          c.self.view_is writes;
      own = own_with settings old state entry of can;
    })

pub returns-in_err-accept-clause-adds : goal.returns-in_err-accept-clause-adds
returns-in_err-accept-clause-adds g c =
    silent_adds (g.H.Wire.acts c.args.host.now) (g.H.Wire.acts c.accept.new.disk) (g.met.H.Host.disk_keeps c.args.host.now c.accept.new.disk c.accept.ensures.beside).0

pub returns-in_err-accept-clause-wire : goal.returns-in_err-accept-clause-wire
returns-in_err-accept-clause-wire g c = (g.met.H.Host.disk_keeps c.args.host.now c.accept.new.disk c.accept.ensures.beside).1

pub returns-in_err-accept-clause-leads : goal.returns-in_err-accept-clause-leads
returns-in_err-accept-clause-leads g c = (g.met.H.Host.disk_keeps c.args.host.now c.accept.new.disk c.accept.ensures.beside).2

-- ---- it is on the disk and in the tables

pub invariant_of-self-2 : goal.invariant_of-self-2
invariant_of-self-2 g c =
    let old : ServerValue = record { settings = c.self.inside.settings; registry = c.self.inside.ledger.registry; journal = c.self.inside.ledger.journal; watch = c.self.inside.watch; lines = c.self.inside.lines } in
    let new : ServerValue = record { settings = c.self.inside.settings; registry = c.accept.new.self.registry; journal = c.accept.new.self.journal; watch = record c.self.inside.watch { due = c.joined-due.result }; lines = c.self.inside.lines } in
    let watch_is = ap (λ among. record c.self.inside.watch { due = among }) (c.joined-due.ensures ∙ ap (λ (e : Entry). joined c.self.inside.watch.due e.domain) c.entry.ensures) in
    let entry = c.args.entry in
    let can = subst (λ server. IsAcceptable server entry) (sym c.self.view_is) c.requires.ready in
    let serving = c.self.invariant in
    let made = c.in_ok-accept.ensures.accepted c.self.inside.settings serving.state.history serving.entries serving.represents.ledger
    (joins_there old c.self.inside.settings serving.state entry serving.represents.represents can) in
    lives_with entry old new can refl watch_is refl c.accept.ensures.slots c.in_ok-accept.ensures.time made.0 serving made.1

pub returns-clause-done : goal.returns-clause-done
returns-clause-done g c = λ settings state entries kept.
    let old : ServerValue = record { settings = c.self.inside.settings; registry = c.self.inside.ledger.registry; journal = c.self.inside.ledger.journal; watch = c.self.inside.watch; lines = c.self.inside.lines } in
    let new : ServerValue = record { settings = c.self.inside.settings; registry = c.accept.new.self.registry; journal = c.accept.new.self.journal; watch = record c.self.inside.watch { due = c.joined-due.result }; lines = c.self.inside.lines } in
    let watch_is = ap (λ among. record c.self.inside.watch { due = among }) (c.joined-due.ensures ∙ ap (λ (e : Entry). joined c.self.inside.watch.due e.domain) c.entry.ensures) in
    let entry = c.args.entry in
    let host = c.args.host.now in
    let left = c.accept.new.disk in
    let can = subst (λ server. IsAcceptable server entry) (sym c.self.view_is) c.requires.ready in
    let here = subst (λ server. RestartsWith server settings state entries) (sym c.self.view_is) kept in
    let of = here.represents.represents in
    let joins = joins_there old settings state entry of can in
    let made = c.in_ok-accept.ensures.accepted settings state.history entries here.represents.ledger joins in
    let writes : RestsWith (g.H.Disk.media host) (journal.Represents old.journal settings entries) → Leaves (g.H.Disk.media host) (g.H.Disk.media left) (HasTurn settings state (with_entry state entry)) = λ rests.
    accepting settings (number_remembered old.registry) (time_of old.registry) state entry (g.H.Disk.media host) (g.H.Disk.media left) (ap (λ (limits : Limits). limits.remembered) of.is_of.limits) of.time_is
    (can.now ∙ of.time_is) (c.accept.ensures.moments settings state.history entries here.represents.ledger joins rests) in (
      made.0,
      restarts_with entry old new can refl watch_is refl c.accept.ensures.slots c.in_ok-accept.ensures.time settings state entries made.0 here.represents made.1,
      subst
          (λ (server : ServerValue). Wrote settings state (with_entry state entry) (journal.Represents server.journal settings entries) (journal.Represents c.accept.new.self.journal settings made.0)
          (g.H.Disk.media host) (g.H.Disk.media left) (g.H.Wire.acts host) (g.H.Wire.acts left))
          c.self.view_is
          (record { silent = (g.met.H.Host.disk_keeps host left c.accept.ensures.beside).0; writes = writes; rests = made.2 }),
    )

pub returns-clause-adds : goal.returns-clause-adds
returns-clause-adds g c =
    silent_adds (g.H.Wire.acts c.args.host.now) (g.H.Wire.acts c.accept.new.disk) (g.met.H.Host.disk_keeps c.args.host.now c.accept.new.disk c.accept.ensures.beside).0

pub returns-clause-wire : goal.returns-clause-wire
returns-clause-wire g c = (g.met.H.Host.disk_keeps c.args.host.now c.accept.new.disk c.accept.ensures.beside).1

pub returns-clause-leads : goal.returns-clause-leads
returns-clause-leads g c = (g.met.H.Host.disk_keeps c.args.host.now c.accept.new.disk c.accept.ensures.beside).2
