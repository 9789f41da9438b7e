use Rattle.std.proofs.Common.{◌≡◌, ◌≤◌, ℕ, List, true, false, Some, length, sym, ap, subst, ◌∙◌, arith}
use Rattle.std.proofs.lemmas.List.{length-append, take_all}
use Rattle.std.specs.List.{AllByRecursion}
use Rattle.slot_journal.specs.DiskEntries.{HasRecord}
use Rattle.gateway_agent.proofs.Early.{all_early}
use Rattle.dots_gateway.specs.declared.exchange.Exchange.{Exchange}
use Rattle.gateway_agent.specs.Exchanges.{IsStore, joins, most_young}
use Rattle.gateway_agent.specs.Forms.{entries_of, exchange_in}
use Rattle.gateway_agent.proofs.Orders.{one_more}
use Rattle.gateway_agent.proofs.Strays.{is_stray, taken_more}
use Rattle.gateway_agent.proofs.taking.take_all.Goals as goal

pub returns-in_default-clause-refused : goal.returns-in_default-clause-refused
returns-in_default-clause-refused c =
    let inv = c.loop-slot.invariant in
    let most = c.most_young-most.ensures.most ∙ ap most_young c.slots.ensures in
    let used = c.used-slot-end.ensures.used in
    let many = c.requires.used in
    let under = c.loop-slot-test.true in
    let e = c.index-entries-slot.result in
    let none =
    subst
    (λ (xs : List Exchange). (x : Exchange) → exchange_in e ≡ Some x → joins (most_young c.args.journal.now.slots) xs x ≡ false)
    c.as_slice.ensures.value
    (subst (λ (n : ℕ). (x : Exchange) → exchange_in e ≡ Some x → joins n c.as_slice.result.now x ≡ false) most c.in_default.ensures) in (
      c.loop-slot.slot,
      is_stray
          (most_young c.args.journal.now.slots)
          c.args.entries.now
          c.loop-slot.exchanges.items
          e
          c.loop-slot.slot
          inv.store
          inv.taken
          (omega (arith, used, many, under))
          c.index-entries-slot.is
          inv.place
          none,
      c.place.ensures,
    )

pub loop-slot-preserved : goal.loop-slot-preserved
loop-slot-preserved c =
    let inv = c.loop-slot.invariant in
    let most = c.most_young-most.ensures.most ∙ ap most_young c.slots.ensures in
    let used = c.used-slot-end.ensures.used in
    let many = c.requires.used in
    let under = c.loop-slot-test.true in
    let joined =
    subst
    (λ (xs : List Exchange). joins (most_young c.args.journal.now.slots) xs c.in-Some.exchange ≡ true)
    c.as_slice.ensures.value
    (subst (λ (n : ℕ). joins n c.as_slice.result.now c.in-Some.exchange ≡ true) most c.in-Some.ensures.1) in
    let long = ap length c.push_reserved.ensures.items ∙ length-append c.loop-slot.exchanges.items _ in
    let place = inv.place in
    record {
      store = subst
          (IsStore (most_young c.args.journal.now.slots))
          (sym c.push_reserved.ensures.items)
          (one_more (most_young c.args.journal.now.slots) c.loop-slot.exchanges.items c.in-Some.exchange inv.store joined);
      taken = ap entries_of c.push_reserved.ensures.items
          ∙ taken_more
          c.args.entries.now
          c.loop-slot.slot
          c.loop-slot.exchanges.items
          _
          c.in-Some.exchange
          c.requires.each
          (omega (arith, used, many, under))
          c.index-entries-slot.is
          inv.taken
          c.in-Some.ensures.0;
      place = omega (arith, long, place);
      capacity = c.push_reserved.ensures.capacity ∙ inv.capacity;
    }

pub returns-clause-early : goal.returns-clause-early
returns-clause-early c =
    let inv = c.loop-slot.invariant in
    let used = c.used-slot-end.ensures.used in
    let many = c.requires.used in
    let over = c.loop-slot-test.false in
    let long : length c.args.entries.now ≤ c.loop-slot.slot = omega (arith, used, many, over) in
    let whole : c.args.entries.now ≡ entries_of c.loop-slot.exchanges.items = sym (inv.taken ∙ take_all c.loop-slot.slot c.args.entries.now long) in
    all_early c.loop-slot.exchanges.items (subst (AllByRecursion HasRecord) whole c.requires.each)
