use Rattle.std.proofs.Common.{sym, ap, ◌∙◌, subst}
use Rattle.dots_host.specs.Runs.{Added}
use Rattle.session_core.specs.Notifying.{SentTo}
use Rattle.session_core.specs.Beats.{beats}
use Rattle.dots_registry.specs.RegistryValues.{time_of}
use Rattle.dots_machine.specs.Machine.{beating}
use Rattle.dots_server.specs.ServerValues.{ServerValue, Represents}
use Rattle.session_core.specs.Beating.{Agrees}
use Rattle.session_core.specs.Contacts.{number_of}
use Rattle.session_core.proofs.Unheard.{beaten_unheard}
use Rattle.dots_server.specs.HearingPeers.{SaysBeat}
use Rattle.dots_server.proofs.HearingPeers.{agrees, beaten_lives}
use Rattle.dots_server.proofs.server.Server.send_heartbeats.Goals as goal

pub invariant_of-self : goal.invariant_of-self
invariant_of-self g c =
    let old : ServerValue = record { settings = c.self.inside.settings; registry = c.self.inside.ledger.registry; journal = c.self.inside.ledger.journal; watch = c.self.inside.watch; lines = c.self.inside.lines } in
    beaten_lives old c.time-time.result c.beat.new.sessions (c.time-time.ensures ∙ ap time_of c.registry.ensures)
    (λ by agree. c.beat.ensures.left by (subst (λ tables. Agrees (SaysBeat old.settings tables) by) (sym c.registry-2.ensures) agree)) c.self.invariant

pub returns-clause-sent : goal.returns-clause-sent
returns-clause-sent g c = λ settings state represents.
    let old : ServerValue = record { settings = c.self.inside.settings; registry = c.self.inside.ledger.registry; journal = c.self.inside.ledger.journal; watch = c.self.inside.watch; lines = c.self.inside.lines } in
    let here = subst (λ server. Represents server settings state) (sym c.self.view_is) represents in
    let by = beating settings state in
    let acts = g.H.Wire.acts c.args.host.now in
    let acts_new = g.H.Wire.acts c.beat.new.host in
    let moment = g.H.Wire.moment c.args.host.now in
    let last = g.H.Wire.moment c.beat.new.host in
    let sent = c.beat.ensures.sent by (subst (λ tables. Agrees (SaysBeat old.settings tables) by) (sym c.registry-2.ensures) (agrees old settings state here)) in
    subst (λ rows. Added acts acts_new (SentTo moment last (beats by state.time rows))) here.contacts
    (subst (λ t. Added acts acts_new (SentTo moment last (beats by t old.watch.sessions))) (c.time-time.ensures ∙ ap time_of c.registry.ensures ∙ here.time_is) sent)

pub returns-clause-unheard : goal.returns-clause-unheard
returns-clause-unheard g c = λ peer none.
    let old : ServerValue = record { settings = c.self.inside.settings; registry = c.self.inside.ledger.registry; journal = c.self.inside.ledger.journal; watch = c.self.inside.watch; lines = c.self.inside.lines } in
    let serving = c.self.invariant in
    let by = beating old.settings serving.state in
    let left = c.beat.ensures.left by (subst (λ tables. Agrees (SaysBeat old.settings tables) by) (sym c.registry-2.ensures) (agrees old old.settings serving.state serving.represents.represents)) in
    ap (number_of peer) left
    ∙ beaten_unheard by c.time-time.result peer old.watch.sessions (ap (λ (server : ServerValue). number_of peer server.watch.sessions) c.self.view_is ∙ none)
