use Rattle.std.proofs.Common.{◌≤◌, List, length, sym, ap, subst, ◌∙◌, arith}
use Rattle.std.specs.Prelude.{max}
use Rattle.dots_gateway.specs.declared.exchange.Exchange.{Exchange}
use Rattle.dots_gateway.specs.Exchanges.{AreRestorable}
use Rattle.gateway_agent.specs.Exchanges.{IsStore, last_time, most_young, next_number, young_at}
use Rattle.gateway_agent.specs.Stores.{StoreValue}
use Rattle.gateway_agent.proofs.Young.{few_later, young_restorable}
use Rattle.gateway_agent.proofs.store.Store.young.Goals as goal

pub young_among-requires : goal.young_among-requires
young_among-requires c = (most_young c.self.inside.journal.slots, subst (IsStore (most_young c.self.inside.journal.slots)) (sym c.as_slice.ensures.value) c.self.invariant.order)

pub returns : goal.returns
returns c =
    let store = subst (λ (s : StoreValue). IsStore (most_young s.journal.slots) s.exchanges) c.self.view_is c.self.invariant.order in
    let xs = c.args.self.now.exchanges in
    let time = max c.args.now (last_time xs) in
    let young =
    c.young_among.ensures
    ∙ ap (λ (l : List Exchange). young_at (max c.args.now (last_time l)) l) c.as_slice.ensures.value
    ∙ ap (λ (s : StoreValue). young_at (max c.args.now (last_time s.exchanges)) s.exchanges) c.self.view_is in
    record {
      young = young;
      few = subst (λ (l : List Exchange). length l ≤ most_young c.args.self.now.journal.slots) (sym young) (few_later _ time xs store (omega arith));
      restorable = subst (λ (l : List Exchange). AreRestorable l (next_number xs)) (sym young) (young_restorable _ time xs store);
    }
