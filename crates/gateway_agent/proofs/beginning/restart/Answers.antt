use Rattle.std.proofs.Common.{ℕ, sym, subst, ◌∙◌}
use Rattle.slot_store.proofs.DiskReading.{sees_at_rest}
use Rattle.slot_store.proofs.OpenLemmas.{if_ok_as, if_err_as}
use Rattle.slot_store.proofs.Steps.{seen_at_rest}
use Rattle.gateway_agent.specs.Exchanges.{IsStore, most_young}
use Rattle.gateway_agent.specs.Forms.{entries_of}
use Rattle.gateway_agent.specs.Stores.{IsOn}
use Rattle.gateway_agent.specs.Keeping.{agent}
use Rattle.gateway_agent.proofs.OpeningLemmas.{found_again, ok_both, restarted_in}
use Rattle.slot_journal.proofs.Crashing.{represents_has}
use Rattle.gateway_agent.proofs.beginning.restart.Goals as goal

pub returns-clause-restarted : goal.returns-clause-restarted
returns-clause-restarted g c =
    let settings = c.args.settings.now in
    let media = g.D.Disk.media c.args.disk.now in
    let of = c.requires.of in
    ok_both c.begin.result
    (λ begun held_it begun_it state is rests.
    let (seen, rest, on) = seen_at_rest media (IsOn settings c.args.store) rests in
    let held = held_it seen (sees_at_rest media seen rest) in
    let found = found_again settings c.args.store begun.1 state c.args.core seen is on begun_it.1.joined.order (begun_it.0.slots ∙ sym of.slots) held.0 in
    (restarted_in settings c.args.upstream c.args.at c.args.core c.args.store (agent begun.0 begun.1) state of is found begun_it.1, held.1))
    c.begin.ensures.opened c.begin.ensures.begun

pub returns-clause-of : goal.returns-clause-of
returns-clause-of g c = if_ok_as c.begin.result _ _ (λ begun is. (is.0, is.1.joined)) c.begin.ensures.begun

pub returns-clause-moments : goal.returns-clause-moments
returns-clause-moments g c = λ rests.
    let settings = c.args.settings.now in
    let media = g.D.Disk.media c.args.disk.now in
    let (seen, rest, on) = seen_at_rest media (IsOn settings c.args.store) rests in
    c.begin.ensures.moments seen (entries_of c.args.store.exchanges) rest (represents_has c.args.store.journal settings (entries_of c.args.store.exchanges) seen on)

pub returns-clause-found : goal.returns-clause-found
returns-clause-found g c =
    let settings = c.args.settings.now in
    let media = g.D.Disk.media c.args.disk.now in
    if_err_as c.begin.result _ _
    (λ fault fails joined rests size.
    let (seen, rest, on) = seen_at_rest media (IsOn settings c.args.store) rests in
    fails seen c.args.store.exchanges (sees_at_rest media seen rest) (represents_has c.args.store.journal settings (entries_of c.args.store.exchanges) seen on)
    (subst (λ (s : ℕ). IsStore (most_young s) c.args.store.exchanges) c.requires.of.slots joined.order) size)
    c.begin.ensures.complete
