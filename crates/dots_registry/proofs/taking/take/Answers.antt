use Rattle.std.proofs.Common.{sym, ◌∙◌, arith}
use Rattle.dots_registry.proofs.Recovering.{time_within, joined, early_apart, fits_joined, gathered_more}
use Rattle.dots_registry.proofs.taking.take.Goals as goal

pub returns-then-entry-time-clause-no : goal.returns-then-entry-time-clause-no
returns-then-entry-time-clause-no c = λ is before gathered.
    early_apart c.args.settings.now before c.args.entry c.args.gathering.now gathered (omega (arith, c.if-entry-time.true, c.time.ensures))

pub tick-requires-clause-bounded : goal.tick-requires-clause-bounded
tick-requires-clause-bounded c = time_within c.args.entry c.requires.within

pub joins-requires : goal.joins-requires
joins-requires c = c.tick.ensures.settings c.args.settings.now c.requires.taken.gathered.is_of

pub returns-then-not-joins-clause-no : goal.returns-then-not-joins-clause-no
returns-then-not-joins-clause-no c = λ is before gathered.
    sym (joined c.args.settings.now c.tick.new.self.tables before c.args.entry c.tick.ensures.time c.requires.within)
    ∙ sym (c.joins.ensures before (c.tick.ensures.gathers before gathered.gathers))
    ∙ c.if-not-joins.true

pub take-requires-clause-fits : goal.take-requires-clause-fits
take-requires-clause-fits c =
    let some = c.requires.taken in
    let gathers = c.tick.ensures.gathers some.entries some.gathered.gathers in
    record {
      settings = c.args.settings.now;
      entries = some.entries;
      is_of = c.tick.ensures.settings c.args.settings.now some.gathered.is_of;
      awaits = gathers.awaits;
      fits = fits_joined c.args.settings.now c.tick.new.self.tables some.entries c.args.entry (sym (c.joins.ensures some.entries gathers) ∙ c.if-not-joins.false);
    }

pub take-requires-clause-at : goal.take-requires-clause-at
take-requires-clause-at c = sym c.tick.ensures.time

pub returns-clause-yes : goal.returns-clause-yes
returns-clause-yes c = λ is before place gathered.
    let settings = c.args.settings.now in
    let is_of = c.tick.ensures.settings settings gathered.is_of in
    let gathers = c.tick.ensures.gathers before gathered.gathers in
    let joins = sym (c.joins.ensures before gathers) ∙ c.if-not-joins.false in
    gathered_more
    settings
    before
    c.args.entry
    c.args.gathering.now
    c.take.new.self
    gathered
    (c.in_ok-take.ensures.gathers settings before is_of gathers place (fits_joined settings c.tick.new.self.tables before c.args.entry joins))
    (c.in_ok-take.ensures.settings settings is_of)
    (c.in_ok-take.ensures.time ∙ c.tick.ensures.time)
    (sym (joined settings c.tick.new.self.tables before c.args.entry c.tick.ensures.time c.requires.within) ∙ joins)
