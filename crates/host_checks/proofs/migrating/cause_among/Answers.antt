use Rattle.std.proofs.Common.{◌≡◌, true, false, refl, sym, subst, ◌∙◌}
use Rattle.dots_registry.specs.RegistryValues.{RegistryValue, IsOf, time_of}
use Rattle.dots_registry.specs.RegistryValues as registry
use Rattle.dots_registry.specs.Beginning.{joins_now}
use Rattle.host_checks.proofs.Ledgers.{joins_then, joins_of, joins_not}
use Rattle.host_checks.proofs.TakenInTurn.{among_joined, among_full}
use Rattle.host_checks.proofs.migrating.cause_among.Goals as goal

pub joins-requires-clause-is_of : goal.joins-requires-clause-is_of
joins-requires-clause-is_of c =
    let some = c.requires.some in
    subst (λ (r : RegistryValue). IsOf c.args.new.now r) (sym c.registry-2.ensures) (c.tick.ensures.represents c.args.new.now some.0 some.1 some.2).is_of

pub returns-then-joins-clause-joins : goal.returns-then-joins-clause-joins
returns-then-joins-clause-joins c = λ is history few represents.
    let later = c.tick.ensures.represents c.args.new.now history few represents in
    let same = c.registry-2.ensures in
    joins_then
    c.args.new.now
    c.tick.new.self.registry
    history
    c.args.entry.now
    c.tick.ensures.time
    c.requires.bounded
    (subst
    (λ (r : RegistryValue). joins_now c.args.new.now r history c.args.entry.now ≡ true)
    same
    (sym (c.joins.ensures history (subst (λ (r : RegistryValue). registry.Represents r history) (sym same) later.registry)) ∙ c.if-joins.true))

pub returns-then-joins-clause-cause : goal.returns-then-joins-clause-cause
returns-then-joins-clause-cause c = λ early history few represents.
    among_joined c.args.new.now history c.args.entry.now (joins_of c.args.new.now (time_of c.tick.new.self.registry) history c.args.entry.now (returns-then-joins-clause-joins c refl history few represents))

pub returns-clause-cause : goal.returns-clause-cause
returns-clause-cause c = λ early history few represents.
    let later = c.tick.ensures.represents c.args.new.now history few represents in
    let same = c.registry-2.ensures in
    among_full
    c.args.new.now
    history
    c.args.entry.now
    (sym c.is_of_settings.ensures ∙ c.if-not-is_of_settings.false)
    (joins_not
    c.args.new.now
    c.tick.new.self.registry
    history
    c.args.entry.now
    c.tick.ensures.time
    c.requires.bounded
    (subst
    (λ (r : RegistryValue). joins_now c.args.new.now r history c.args.entry.now ≡ false)
    same
    (sym (c.joins.ensures history (subst (λ (r : RegistryValue). registry.Represents r history) (sym same) later.registry)) ∙ c.if-joins.false)))
