use Rattle.std.proofs.Common.{◌<◌, ◌≤◌, List, refl, sym, ap, subst, ◌∙◌, arith}
use Rattle.dots_host.specs.Becoming.{Leaves}
use Rattle.dots_gateway.specs.declared.exchange.Exchange.{Exchange}
use Rattle.slot_store.proofs.Steps.{begins}
use Rattle.slot_journal.proofs.Crashing.{on_ok_as}
use Rattle.gateway_agent.specs.Exchanges.{IsStore, most_young}
use Rattle.gateway_agent.specs.Stores.{StoreValue, once_free}
use Rattle.gateway_agent.specs.Crashes.{AreLeft, HasOne}
use Rattle.gateway_agent.proofs.KeepingLemmas.{free_is, full_is, once_left}
use Rattle.gateway_agent.proofs.store.Store.make_room.Goals as goal

pub returns-then-used-slots : goal.returns-then-used-slots
returns-then-used-slots g c =
    let used = ap (λ (s : StoreValue). s.journal.used) c.self.view_is in
    let slots = ap (λ (s : StoreValue). s.journal.slots) c.self.view_is in
    let many = c.used.ensures.used in
    let most = c.slots.ensures in
    let under = c.if-used-slots.true in
    let free : c.args.self.now.journal.used < c.args.self.now.journal.slots = omega (arith, used, slots, many, most, under) in
    record {
      store = subst (λ (s : StoreValue). IsStore (most_young s.journal.slots) s.exchanges) c.self.view_is c.self.invariant.order;
      few = subst (λ (s : StoreValue). AreLeft (most_young s.journal.slots) c.args.now (once_free c.args.now s) s.exchanges) c.self.view_is
          (once_left (most_young c.self.inside.journal.slots) c.args.now (record { journal = c.self.inside.journal; exchanges = c.self.inside.exchanges.items })
          c.self.invariant.order c.self.invariant.used c.self.invariant.slots);
      moments = λ settings rests. begins (g.D.Disk.media c.args.disk.now) (HasOne settings c.args.self.now.exchanges (once_free c.args.now c.args.self.now));
      made = sym (free_is c.args.now c.args.self.now free);
      free = free;
      rests = λ settings rests. rests;
      same = tt;
      slots = refl;
      extent = refl;
      cause = record { later = omega arith; same = refl; rose = tt };
      beside = g.met.D.Disk.beside_same _;
    }

pub returns : goal.returns
returns g c =
    let used = ap (λ (s : StoreValue). s.journal.used) c.self.view_is in
    let slots = ap (λ (s : StoreValue). s.journal.slots) c.self.view_is in
    let many = c.used.ensures.used in
    let most = c.slots.ensures in
    let over = c.if-used-slots.false in
    let full : c.args.self.now.journal.slots ≤ c.args.self.now.journal.used = omega (arith, used, slots, many, most, over) in
    let is = full_is c.args.now c.args.self.now full in
    record {
      store = subst (λ (s : StoreValue). IsStore (most_young s.journal.slots) s.exchanges) c.self.view_is c.self.invariant.order;
      few = subst (λ (s : StoreValue). AreLeft (most_young s.journal.slots) c.args.now (once_free c.args.now s) s.exchanges) c.self.view_is
          (once_left (most_young c.self.inside.journal.slots) c.args.now (record { journal = c.self.inside.journal; exchanges = c.self.inside.exchanges.items })
          c.self.invariant.order c.self.invariant.used c.self.invariant.slots);
      moments = λ settings rests.
          subst
          (λ (l : List Exchange). Leaves (g.D.Disk.media c.args.disk.now) (g.D.Disk.media c.compact.new.disk) (HasOne settings c.args.self.now.exchanges l))
          (sym is)
          (c.compact.ensures.moments settings rests);
      made = on_ok_as c.compact.result (λ made. made ∙ sym is) c.compact.ensures.made;
      free = c.compact.ensures.free;
      rests = c.compact.ensures.rests;
      same = c.compact.ensures.same;
      slots = c.compact.ensures.slots;
      extent = c.compact.ensures.extent;
      cause = c.compact.ensures.cause;
      beside = c.compact.ensures.beside;
    }

pub compact-requires-clause-some : goal.compact-requires-clause-some
compact-requires-clause-some g c =
    let used = ap (λ (s : StoreValue). s.journal.used) c.self.view_is in
    let most = c.slots.ensures in
    let many = c.used.ensures.used in
    let over = c.if-used-slots.false in
    let some = c.self.invariant.slots in
    omega (arith, used, many, most, over, some)
