use Rattle.std.proofs.Common.{◌≡◌, ◌≤◌, ap, ◌∙◌, subst}
use Rattle.slot_store.specs.Layout.{needed_of}
use Rattle.slot_store.proofs.OpenLemmas.{if_ok_as, if_err_as}
use Rattle.slot_journal.specs.Sizes.{slots_of}
use Rattle.dots_registry.proofs.Answering.{ok_as}
use Rattle.dots_server.specs.ServerValues.{ServerValue}
use Rattle.dots_server.proofs.Beginning.{restart_moments, restart_fails, restart_sized, restart_found}
use Rattle.dots_server.proofs.server.Server.restart.Goals as goal

pub returns-clause-restarted : goal.returns-clause-restarted
returns-clause-restarted g c =
    if_ok_as c.begin.result _ _ (λ server begun settings state entries kept rests.
    restart_found settings c.into_settings.result (c.into_settings.ensures ∙ kept.represents.represents.settings_are) c.args.self state entries kept (g.H.Disk.media c.args.host.now) (g.H.Disk.media c.begin.new.host) rests
    c.args.at server begun.0 begun.1 begun.3)
    c.begin.ensures.begun

pub returns-clause-settings : goal.returns-clause-settings
returns-clause-settings g c = if_ok_as c.begin.result _ _ (λ server is. is ∙ c.into_settings.ensures) c.begin.ensures.settings

pub returns-clause-slots : goal.returns-clause-slots
returns-clause-slots g c = if_ok_as c.begin.result _ _ (λ server begun. begun.1.represents.slots ∙ ap slots_of c.into_settings.ensures) c.begin.ensures.begun

pub returns-clause-size : goal.returns-clause-size
returns-clause-size g c =
    ok_as c.begin.result _ _ (λ size. subst (λ s. needed_of (slots_of s) ≤ g.H.Disk.extent c.begin.new.host) c.into_settings.ensures size) c.begin.ensures.size

pub returns-clause-moments : goal.returns-clause-moments
returns-clause-moments g c = λ settings state entries kept rests.
    restart_moments settings c.into_settings.result (c.into_settings.ensures ∙ kept.represents.represents.settings_are) c.args.self state entries kept (g.H.Disk.media c.args.host.now) (g.H.Disk.media c.begin.new.host) rests
    c.begin.ensures.moments

pub returns-clause-found : goal.returns-clause-found
returns-clause-found g c =
    if_err_as c.begin.result _ _ (λ fault refused settings state entries kept rests size.
    restart_fails settings c.into_settings.result (c.into_settings.ensures ∙ kept.represents.represents.settings_are) c.args.self state entries kept (g.H.Disk.media c.args.host.now) (g.H.Disk.media c.begin.new.host) rests
    (g.H.Disk.extent c.args.host.now) fault size refused)
    c.begin.ensures.refused

pub returns-clause-sized : goal.returns-clause-sized
returns-clause-sized g c =
    let slots = subst (λ (server : ServerValue). server.journal.slots ≡ slots_of server.settings) c.self.view_is c.self.invariant.represents.slots in
    if_err_as c.begin.result _ _ (λ fault small large. restart_sized c.into_settings.result c.args.self (g.H.Disk.extent c.args.host.now) fault c.into_settings.ensures slots small large) c.begin.ensures.small
