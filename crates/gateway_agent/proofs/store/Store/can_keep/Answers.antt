use Rattle.std.proofs.Common.{◌≡◌, ℕ, ◌<◌, List, sym, ap, subst, ◌∙◌, arith}
use Rattle.std.specs.Prelude.{◌^◌}
use Rattle.std.proofs.lemmas.Bool.{eqb-true, ltb-true}
use Rattle.dots_gateway.specs.declared.exchange.Exchange.{Exchange}
use Rattle.gateway_agent.specs.Exchanges.{IsStore, joins, most_young}
use Rattle.gateway_agent.specs.Stores.{StoreValue}
use Rattle.gateway_agent.proofs.KeepingLemmas.{can_from, can_joins}
use Rattle.gateway_agent.proofs.store.Store.can_keep.Goals.{then-now-lt-TIME_END, else-now-lt-TIME_END}
use Rattle.gateway_agent.proofs.store.Store.can_keep.Goals as goal

pub returns-then-exchange-now : goal.returns-then-exchange-now
returns-then-exchange-now c =
    let x = c.args.exchange.now in
    let most = c.most_young-most.ensures.most ∙ ap most_young c.slots.ensures in
    let is =
    c.joins.ensures.is
    ∙ ap (λ (n : ℕ). joins n c.as_slice.result.now x) most
    ∙ ap (λ (l : List Exchange). joins (most_young c.self.inside.journal.slots) l x) c.as_slice.ensures.value
    ∙ ap (λ (s : StoreValue). joins (most_young s.journal.slots) s.exchanges x) c.self.view_is in
    let store = subst (λ (s : StoreValue). IsStore (most_young s.journal.slots) s.exchanges) c.self.view_is c.self.invariant.order in
    let rightly : (c.args.now < 2 ^ 48) × (x.time ≡ c.args.now) = elim c.if-now-lt-TIME_END.branch [
      | then-now-lt-TIME_END w ↦ let early = w.if-now-lt-TIME_END.true in (omega (arith, early), eqb-true x.time c.args.now (sym w.value-is ∙ c.if-exchange-now.true))
      | else-now-lt-TIME_END w ↦
          let over = w.if-now-lt-TIME_END.false in
          let under = ltb-true c.args.now (2 ^ 48) (sym w.value-is ∙ c.if-exchange-now.true) in
          absurd (omega (arith, over, under))
    ] in (
      λ yes. can_from c.args.self.now c.args.now x rightly.0 rightly.1 (sym is ∙ yes),
      λ can. is ∙ can_joins c.args.self.now c.args.now x can c.joins.ensures.token store,
    )
