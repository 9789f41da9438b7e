use Rattle.std.proofs.Common.{List, refl, sym, subst, arith}
use Rattle.dots_host.specs.Becoming.{Leaves}
use Rattle.slot_store.proofs.Steps.{begins}
use Rattle.dots_gateway.specs.declared.exchange.Exchange.{Exchange}
use Rattle.gateway_agent.specs.Exchanges.{most_young}
use Rattle.gateway_agent.specs.Keeping.{CanKeepAll, HasMore, IsMore}
use Rattle.gateway_agent.proofs.Storing.{one_kept, ok_three}
use Rattle.gateway_agent.proofs.keeping.keep_fresh.Goals as goal

pub keep-requires-clause-can : goal.keep-requires-clause-can
keep-requires-clause-can g c = (subst (λ (xs : List Exchange). CanKeepAll c.args.store.now xs) c.in-Some.ensures c.requires.can).0

pub returns-in-Some : goal.returns-in-Some
returns-in-Some g c =
    let old = c.args.store.now in
    let new = c.keep.new.self in
    let most = most_young old.journal.slots in
    let can = subst (λ (xs : List Exchange). CanKeepAll old xs) c.in-Some.ensures c.requires.can in
    record {
      moments = λ settings rests.
          subst (λ (xs : List Exchange). Leaves (g.D.Disk.media c.args.disk.now) (g.D.Disk.media c.keep.new.disk) (HasMore settings most old.exchanges xs)) (sym c.in-Some.ensures)
          (c.keep.ensures.moments settings rests);
      rests = c.keep.ensures.rests;
      more = ok_three c.keep.result
          (λ kept young number. subst (λ (xs : List Exchange). IsMore old new xs) (sym c.in-Some.ensures) (one_kept old new c.in-Some.exchange c.requires.store can.0 can.1 kept young number))
          c.keep.ensures.kept c.keep.ensures.young c.keep.ensures.number;
      slots = c.keep.ensures.slots;
      extent = c.keep.ensures.extent;
      cause = c.keep.ensures.cause;
      beside = c.keep.ensures.beside;
    }

pub returns-in-None : goal.returns-in-None
returns-in-None g c =
    let old = c.args.store.now in
    record {
      moments = λ settings rests. begins (g.D.Disk.media c.args.disk.now) _;
      rests = λ settings rests. rests;
      more = subst (λ (xs : List Exchange). IsMore old old xs) (sym c.in-None.ensures) refl;
      slots = refl;
      extent = refl;
      cause = record { later = omega arith; same = refl; rose = tt };
      beside = g.met.D.Disk.beside_same _;
    }
