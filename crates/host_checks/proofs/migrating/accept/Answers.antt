use Rattle.std.proofs.Common.{◌≡◌, ◌++◌, ◌∷◌, [], true, sym, subst}
use Rattle.std.specs.Prelude.{Some}
use Rattle.dots_host.specs.Stored.{media_of}
use Rattle.dots_history.specs.declared.entry.Entry.{Entry}
use Rattle.dots_registry.specs.RegistryValues.{time_of}
use Rattle.dots_registry.specs.LedgerValues.{joins_at}
use Rattle.host_checks.specs.Making.{HasTaken}
use Rattle.host_checks.proofs.migrating.accept.Goals as goal

pub returns-in-Ok-clause-taken : goal.returns-in-Ok-clause-taken
returns-in-Ok-clause-taken c = λ settings history taken joins.
    let is = c.in_ok-staged.ensures.value in
    let got = c.in-Ok.ensures.accepted settings history taken.few taken.represents
    (subst (λ (e : Entry). joins_at settings (time_of c.args.ledger.now.registry) history e ≡ true) (sym is) joins) in
    subst
    (λ (e : Entry). HasTaken settings (history ++ e ∷ []) c.accept.new.self (Some (media_of c.accept.new.disk)))
    is
    (record { few = got.0; represents = got.1; rests = got.2 taken.rests })
