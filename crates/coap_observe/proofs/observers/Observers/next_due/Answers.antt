use Rattle.std.proofs.Common.{List, length, sym, subst, ◌∙◌}
use Rattle.coap_exchange.specs.declared.pair.Pair.{Pair}
use Rattle.coap_observe.specs.Observing.{ObserversValue, NoneIsDue, AreOf}
use Rattle.coap_observe.specs.Rolls.{observed_of}
use Rattle.coap_observe.proofs.Including.{none_among}
use Rattle.coap_observe.proofs.observers.Observers.next_due.Goals as goal

pub has_any_among-requires : goal.has_any_among-requires
has_any_among-requires g c = record {
  chained = c.self.invariant.chained;
  known = subst (λ (pairs : List Pair). AreOf pairs (observed_of c.self.inside.roll.members)) (sym c.pairs.ensures) c.self.invariant.bounded.known;
}

pub next_due-requires : goal.next_due-requires
next_due-requires g c = c.self.invariant.chained.apart

pub returns-then-not-has_any_among-clause-next : goal.returns-then-not-has_any_among-clause-next
returns-then-not-has_any_among-clause-next g c =
    let lists = g.V.Views.lists c.args.views.now in
    subst (λ (v : ObserversValue). NoneIsDue lists c.args.among c.args.from (length v.observed) v.observed) c.self.view_is
    (none_among lists c.args.among c.args.from (length (observed_of c.self.inside.roll.members)) (observed_of c.self.inside.roll.members) (sym c.has_any_among.ensures ∙ c.if-not-has_any_among.true))
