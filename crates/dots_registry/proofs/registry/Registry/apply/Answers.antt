use Rattle.dots_registry.specs.Filed.{RepresentsFiled}
use Rattle.std.proofs.Common.{◌≤◌, ◌++◌, ◌∷◌, [], sym, ap, ◌∙◌, subst}
use Rattle.dots_history.specs.declared.entry.Entry.{Entry}
use Rattle.dots_registry.specs.RegistryValues.{Represents, time_of}
use Rattle.dots_registry.specs.Fitting.{FitsIn}
use Rattle.dots_registry.proofs.RegistryValues.{fits_later, fits_still}
use Rattle.dots_registry.proofs.registry.Registry.apply.Goals as goal

pub tick-requires-clause-later : goal.tick-requires-clause-later
tick-requires-clause-later c =
    subst (λ (e : Entry). time_of c.args.self.now ≤ e.time) (sym c.into_parts-entry.ensures.entry) (fits_later c.args.self.now c.args.staged c.requires)

pub put-requires-clause-fits : goal.put-requires-clause-fits
put-requires-clause-fits c =
    subst
    (FitsIn c.tick.new.self)
    (sym c.into_parts-entry.ensures.entry)
    (fits_still
    c.args.self.now
    c.tick.new.self
    c.args.staged
    c.requires
    c.tick.ensures.represents
    c.tick.ensures.settings
    (c.tick.ensures.time ∙ ap (λ (e : Entry). e.time) c.into_parts-entry.ensures.entry))

pub write_or_lose-requires-clause-fits : goal.write_or_lose-requires-clause-fits
write_or_lose-requires-clause-fits c =
    subst
    (FitsIn c.tick.new.self)
    (sym c.into_parts-entry.ensures.entry)
    (fits_still
    c.args.self.now
    c.tick.new.self
    c.args.staged
    c.requires
    c.tick.ensures.represents
    c.tick.ensures.settings
    (c.tick.ensures.time ∙ ap (λ (e : Entry). e.time) c.into_parts-entry.ensures.entry))

pub returns-then-puts-clause-represents : goal.returns-then-puts-clause-represents
returns-then-puts-clause-represents c = λ entries represents.
    subst (λ (e : Entry). Represents c.put.new.self (entries ++ e ∷ [])) c.into_parts-entry.ensures.entry (c.put.ensures.represents entries (c.tick.ensures.represents entries represents))

pub returns-then-puts-clause-settings : goal.returns-then-puts-clause-settings
returns-then-puts-clause-settings c = λ settings is_of. c.put.ensures.settings settings (c.tick.ensures.settings settings is_of)

pub returns-else-puts-clause-represents : goal.returns-else-puts-clause-represents
returns-else-puts-clause-represents c = λ entries represents.
    subst (λ (e : Entry). Represents c.write_or_lose.new.self (entries ++ e ∷ [])) c.into_parts-entry.ensures.entry (c.write_or_lose.ensures.represents entries (c.tick.ensures.represents entries represents))

pub returns-else-puts-clause-settings : goal.returns-else-puts-clause-settings
returns-else-puts-clause-settings c = λ settings is_of. c.write_or_lose.ensures.settings settings (c.tick.ensures.settings settings is_of)

pub returns-then-puts-clause-filed : goal.returns-then-puts-clause-filed
returns-then-puts-clause-filed c = λ filed represents.
    subst
    (λ (e : Entry). RepresentsFiled c.put.new.self (filed ++ record { entry = e; slot = c.args.slot } ∷ []))
    c.into_parts-entry.ensures.entry
    (c.put.ensures.filed filed (c.tick.ensures.filed filed represents))

pub returns-else-puts-clause-filed : goal.returns-else-puts-clause-filed
returns-else-puts-clause-filed c = λ filed represents.
    subst
    (λ (e : Entry). RepresentsFiled c.write_or_lose.new.self (filed ++ record { entry = e; slot = c.args.slot } ∷ []))
    c.into_parts-entry.ensures.entry
    (c.write_or_lose.ensures.filed filed (c.tick.ensures.filed filed represents))
