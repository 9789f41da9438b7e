use Rattle.std.proofs.Common.{◌≡◌, ℕ, List, Option, Some, None, sym, ap, ◌∙◌, subst}
use Rattle.dots_history.specs.declared.entry.Entry.{Entry}
use Rattle.dots_history.specs.Histories.{remembered}
use Rattle.dots_registry.specs.RegistryValues.{RegistryValue, number_remembered, time_of}
use Rattle.dots_registry.specs.RegistryValues as registry
use Rattle.dots_machine.specs.MessageRepeats.{sent_for}
use Rattle.dots_server.specs.ServerValues.{Represents}
use Rattle.dots_server.proofs.Verdicts.{reply_in, remembered_here, reply_is_short}
use Rattle.dots_server.proofs.server.Server.remembered.Goals as goal

-- what a registry answers of a repeat
abbrev Answers : ℕ → ℕ → ℕ → Option (List ℕ) → RegistryValue → Type 0
Answers peer domain id answer r = (entries : List Entry) → registry.Represents r entries → answer ≡ reply_in (remembered (number_remembered r) (time_of r) peer domain id entries)

pub copy_of-requires : goal.copy_of-requires
copy_of-requires c = record {
  short = reply_is_short (record { settings = c.self.inside.settings; registry = c.self.inside.ledger.registry; journal = c.self.inside.ledger.journal; watch = c.self.inside.watch; lines = c.self.inside.lines }) c.args.peer c.args.domain c.args.exchange.now.id
      c.in_ok-reply.reply.now c.self.invariant
      (subst (Answers c.args.peer c.args.domain c.args.exchange.now.id (Some c.in_ok-reply.reply.now)) c.registry.ensures c.in_ok-reply.ensures);
}

pub returns-in_err-reply : goal.returns-in_err-reply
returns-in_err-reply c = λ settings state represents.
    let here = subst (λ server. Represents server settings state) (sym c.self.view_is) represents in
    c.from_residual.ensures
    ∙ subst (Answers c.args.peer c.args.domain c.args.exchange.now.id None) c.registry.ensures c.in_err-reply.ensures state.history here.registry
    ∙ ap reply_in
    (remembered_here (record { settings = c.self.inside.settings; registry = c.self.inside.ledger.registry; journal = c.self.inside.ledger.journal; watch = c.self.inside.watch; lines = c.self.inside.lines }) settings state (sent_for c.args.peer c.args.exchange.now c.args.domain) here)

pub returns : goal.returns
returns c = λ settings state represents.
    let here = subst (λ server. Represents server settings state) (sym c.self.view_is) represents in
    ap Some c.copy_of.ensures
    ∙ subst (Answers c.args.peer c.args.domain c.args.exchange.now.id (Some c.in_ok-reply.reply.now)) c.registry.ensures c.in_ok-reply.ensures state.history here.registry
    ∙ ap reply_in
    (remembered_here (record { settings = c.self.inside.settings; registry = c.self.inside.ledger.registry; journal = c.self.inside.ledger.journal; watch = c.self.inside.watch; lines = c.self.inside.lines }) settings state (sent_for c.args.peer c.args.exchange.now c.args.domain) here)
