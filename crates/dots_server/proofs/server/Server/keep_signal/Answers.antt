use Rattle.std.proofs.Common.{List, sym, ap, ◌∙◌, subst}
use Rattle.std.proofs.lemmas.Bool.{false≢true}
use Rattle.dots_history.specs.declared.entry.Entry.{Entry}
use Rattle.slot_journal.specs.DiskEntries as journal
use Rattle.installed_filters.specs.Filters.{needs_rows}
use Rattle.dots_registry.specs.RegistryValues.{time_of}
use Rattle.dots_registry.proofs.Answering.{ok_as, err_as}
use Rattle.dots_machine.specs.Signals.{signal_entry}
use Rattle.dots_machine.specs.Machine.{with_entry}
use Rattle.dots_server.specs.ServerValues.{ServerValue, RestartsWith, IsAcceptable}
use Rattle.dots_server.specs.Turning.{Wrote, Broke}
use Rattle.dots_server.proofs.LostSignals.{loss_needs_none, signal_acceptable}
use Rattle.dots_server.proofs.server.Server.keep_signal.Goals as goal

pub keep_entry-requires-clause-ready : goal.keep_entry-requires-clause-ready
keep_entry-requires-clause-ready g c =
    subst (IsAcceptable c.args.self.now)
    (sym (c.in-Ok.ensures.value ∙ c.signal_entry-entry.ensures
    ∙ ap (λ t. signal_entry t c.args.peer c.args.change c.args.domain)
    (c.time-time.ensures ∙ ap time_of c.registry.ensures ∙ ap (λ (server : ServerValue). time_of server.registry) c.self.view_is)))
    (signal_acceptable c.args.self.now c.args.peer c.args.domain c.args.change c.requires.loss c.requires.client c.requires.within)

pub unreachable-requires : goal.unreachable-requires
unreachable-requires g c =
    false≢true (sym (loss_needs_none c.args.change c.requires.loss) ∙ sym (ap (λ (e : Entry). needs_rows e.change) c.signal_entry-entry.ensures) ∙ c.in-Err.ensures.no_memory)

pub returns-in-Ok-clause-done : goal.returns-in-Ok-clause-done
returns-in-Ok-clause-done g c =
    ok_as c.keep_entry.result _ _ (λ goes settings state entries kept.
    let host = c.args.host.now in
    let left = c.keep_entry.new.host in
    let at = c.time-time.ensures ∙ ap time_of c.registry.ensures ∙ ap (λ (server : ServerValue). time_of server.registry) c.self.view_is ∙ kept.represents.represents.time_is in
    subst
    (λ (e : Entry). (few : List Entry) × RestartsWith c.keep_entry.new.self settings (with_entry state e) few
    × Wrote settings state (with_entry state e) (journal.Represents c.args.self.now.journal settings entries) (journal.Represents c.keep_entry.new.self.journal settings few)
    (g.H.Disk.media host) (g.H.Disk.media left) (g.H.Wire.acts host) (g.H.Wire.acts left))
    (c.in-Ok.ensures.value ∙ c.signal_entry-entry.ensures ∙ ap (λ t. signal_entry t c.args.peer c.args.change c.args.domain) at)
    (goes settings state entries kept))
    c.keep_entry.ensures.done

pub returns-in-Ok-clause-failed : goal.returns-in-Ok-clause-failed
returns-in-Ok-clause-failed g c =
    err_as c.keep_entry.result _ _ (λ goes settings state entries kept.
    let host = c.args.host.now in
    let left = c.keep_entry.new.host in
    let at = c.time-time.ensures ∙ ap time_of c.registry.ensures ∙ ap (λ (server : ServerValue). time_of server.registry) c.self.view_is ∙ kept.represents.represents.time_is in
    subst
    (λ (e : Entry). Broke settings state (with_entry state e) (journal.Represents c.args.self.now.journal settings entries)
    (g.H.Disk.media host) (g.H.Disk.media left) (g.H.Wire.acts host) (g.H.Wire.acts left))
    (c.in-Ok.ensures.value ∙ c.signal_entry-entry.ensures ∙ ap (λ t. signal_entry t c.args.peer c.args.change c.args.domain) at)
    (goes settings state entries kept))
    c.keep_entry.ensures.failed
