use Rattle.std.proofs.Common.{◌≡◌, false, true, sym, ap, ◌∙◌, subst}
use Rattle.std.specs.List.{list_any}
use Rattle.std.proofs.lemmas.Bool.{false≢true}
use Rattle.session_core.specs.Contacts.{is_of, heard_from}
use Rattle.dots_registry.specs.RegistryValues.{time_of}
use Rattle.dots_server.specs.ServerValues.{ServerValue, IsServing}
use Rattle.dots_server.proofs.HearingPeers.{heard_lives, not_heard}
use Rattle.dots_server.proofs.server.Server.hear.Goals as goal
use Rattle.dots_server.proofs.server.Server.hear.Goals.{else-heard-via-then-heard+else-holds, else-heard-via-else-heard}

pub invariant_of-self : goal.invariant_of-self
invariant_of-self c =
    let old : ServerValue = record { settings = c.self.inside.settings; registry = c.self.inside.ledger.registry; journal = c.self.inside.ledger.journal; watch = c.self.inside.watch; lines = c.self.inside.lines } in
    subst (λ watch. IsServing (record old { watch = watch }))
    (sym (c.hear.ensures ∙ ap (λ t. record c.self.inside.watch { sessions = heard_from c.args.peer t c.self.inside.watch.sessions }) (c.time-time.ensures ∙ ap time_of c.registry.ensures)))
    (heard_lives true c.args.peer old c.self.invariant)

pub returns-else-heard : goal.returns-else-heard
returns-else-heard c =
    elim c.else-heard.branch [
      | else-heard-via-then-heard+else-holds w ↦
          not_heard c.args.heard c.args.peer c.args.self.now
          (λ is. subst (λ (server : ServerValue). list_any (is_of c.args.peer) server.watch.sessions ≡ false) c.self.view_is (sym w.holds.ensures ∙ w.if-holds.false))
      | else-heard-via-else-heard w ↦ not_heard c.args.heard c.args.peer c.args.self.now (λ is. absurd (false≢true (sym w.if-heard.false ∙ is)))
    ]
