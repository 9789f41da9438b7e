use Rattle.std.proofs.Common.{◌≡◌, ◌∙◌, List, Result, Ok, Err, subst}
use Rattle.std.specs.Prelude.{IfOk}
use Rattle.dots_history.specs.declared.entry.Entry.{Entry}
use Rattle.dots_registry.specs.RegistryValues.{time_of}
use Rattle.dots_registry.specs.RegistryValues as registry
use Rattle.dots_registry.specs.LedgerValues.{LedgerValue}
use Rattle.server_figures.specs.Figures.{figures_of}
use Rattle.dots_run.proofs.figure_file.text_of.Goals as goal

if_ok : {A E : Type 0} {P Q : A → Type 0} (result : Result A E) → ((value : A) → P value → Q value) → IfOk result P → IfOk result Q
if_ok (Ok value) follows holds = follows value holds
if_ok (Err fault) follows holds = tt

pub returns : goal.returns
returns c =
    if_ok c.figures_text.result
    (λ text says. (
      c.args.counts.tally.now,
      c.args.counts.strayed,
      λ settings state represents.
          let calls = c.args.counts.tally.now in
          let strayed = c.args.counts.strayed in
          let server = c.args.server.now in
          let of_ledger = subst (λ (l : LedgerValue). (history : List Entry) → registry.Represents l.registry history → text ≡ figures_of c.settings.result.now (time_of l.registry) history l.journal calls strayed) c.ledger.ensures says in
          let of_settings = subst (λ s. text ≡ figures_of s (time_of server.registry) state.history server.journal calls strayed) (c.settings.ensures.value ∙ represents.settings_are) (of_ledger state.history represents.registry) in
          subst (λ t. text ≡ figures_of settings t state.history server.journal calls strayed) represents.time_is of_settings,
    ))
    c.figures_text.ensures
