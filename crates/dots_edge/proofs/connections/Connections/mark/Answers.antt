use Rattle.std.proofs.Common.{rules, sym, subst}
use Rattle.dots_edge.specs.Gone.{GoesOn}
use Rattle.dots_edge.proofs.PlaceLemmas.{opened_written}
use Rattle.dots_edge.proofs.GoneLemmas.{on_written, goes_on_marked}
use Rattle.dots_edge.proofs.connections.Connections.mark.Goals as goal

pub returns-in-Some-clause-open : goal.returns-in-Some-clause-open
returns-in-Some-clause-open c =
    opened_written c.args.self.now.places.items c.args.place c.in-Some.place.now c.mark_at.new.place (search rules) c.in-Some.ensures.value c.mark_at.ensures.opened

pub returns-in-Some-clause-on : goal.returns-in-Some-clause-on
returns-in-Some-clause-on c =
    let old = c.in-Some.place.now in
    on_written c.args.self.now.places.items c.args.place old c.mark_at.new.place (search rules) c.in-Some.ensures.value
    (subst (GoesOn old) (sym c.mark_at.ensures.marked) (goes_on_marked old))
