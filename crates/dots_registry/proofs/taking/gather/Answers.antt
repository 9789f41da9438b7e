use Rattle.std.proofs.Common.{max, ap, ◌∙◌, arith}
use Rattle.std.proofs.Math.Nat.{le-max_right}
use Rattle.std.proofs.lemmas.Result.{err_from_is_err_and}
use Rattle.dots_registry.proofs.Recovering.{time_small, ready_of}
use Rattle.dots_registry.proofs.taking.gather.Goals as goal

pub tick-requires-clause-later : goal.tick-requires-clause-later
tick-requires-clause-later c =
    let most = le-max_right c.args.at c.time.result in
    omega (arith, c.max-now.ensures, c.time.ensures, most)

pub tick-requires-clause-bounded : goal.tick-requires-clause-bounded
tick-requires-clause-bounded c =
    time_small
    c.args.settings.now
    c.args.entries
    c.take_all.new.gathering
    c.args.at
    c.max-now.result
    c.in_ok-take_all.ensures.taken
    c.requires.each
    c.requires.early
    (c.max-now.ensures ∙ ap (max c.args.at) c.time.ensures)

pub install-requires : goal.install-requires
install-requires c =
    let taken = c.in_ok-take_all.ensures.taken in
    let used = c.requires.used in
    let few = c.used-used.ensures.used in
    let small = c.used-used.type_inv in
    record {
      settings = c.args.settings.now;
      entries = c.args.entries;
      is_of = c.tick.ensures.settings c.args.settings.now taken.is_of;
      gathers = c.tick.ensures.gathers c.args.entries taken.gathers;
      few = omega (arith, used, few, small);
    }

pub returns-clause-ready : goal.returns-clause-ready
returns-clause-ready c =
    let taken = c.in_ok-take_all.ensures.taken in
    let gathers = c.tick.ensures.gathers c.args.entries taken.gathers in
    ready_of
    c.args.settings.now
    c.args.entries
    c.args.at
    c.time.result
    c.take_all.new.gathering
    c.tick.new.self
    c.install.new.self.tables
    taken
    gathers
    (c.tick.ensures.settings c.args.settings.now taken.is_of)
    c.time.ensures
    (c.tick.ensures.time ∙ c.max-now.ensures)
    (c.in_ok-install.ensures c.args.entries gathers)

pub returns-in_err-take_all : goal.returns-in_err-take_all
returns-in_err-take_all c =
    let p = err_from_is_err_and c.from_residual.result c.from_residual.ensures.1 in
    record { ready = rw p.1 tt; refused = rw (p.1, p.2) c.in_err-take_all.ensures.refused }

pub returns-in_err-install : goal.returns-in_err-install
returns-in_err-install c =
    let p = err_from_is_err_and c.from_residual-in_err-install.result c.from_residual-in_err-install.ensures.1 in
    record { ready = rw p.1 tt; refused = rw (p.1, p.2) tt }
