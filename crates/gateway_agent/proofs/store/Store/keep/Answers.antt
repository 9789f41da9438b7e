use Rattle.std.proofs.Common.{◌≡◌, ℕ, true, List, [], ◌∷◌, ◌++◌, inl, inr, sym, ap, subst, ◌∙◌}
use Rattle.dots_host.specs.Causes.{HasCause}
use Rattle.dots_host.specs.Becoming.{Leaves}
use Rattle.dots_gateway.specs.declared.exchange.Exchange.{Exchange}
use Rattle.slot_store.proofs.Steps.{leaves_then}
use Rattle.slot_journal.proofs.Crashing.{on_ok_as}
use Rattle.gateway_agent.specs.Exchanges.{joins, last_number, most_young, young_at}
use Rattle.gateway_agent.specs.Stores.{StoreValue, once_free}
use Rattle.gateway_agent.specs.Crashes.{HasOne, HasStep}
use Rattle.gateway_agent.proofs.KeepingLemmas.{joins_left, of_request, young_more, leaves_first, leaves_second, leaves_young, leaves_young_first, on_err_as}
use Rattle.gateway_agent.proofs.Orders.{number_more}
use Rattle.gateway_agent.proofs.store.Store.keep.Goals as goal

pub append-requires-clause-joins : goal.append-requires-clause-joins
append-requires-clause-joins g c = λ small.
    let can = c.requires.can in
    let x = c.args.exchange.now in
    subst (λ (most : ℕ). joins most c.make_room.new.self.exchanges x ≡ true) (sym (ap most_young c.make_room.ensures.slots))
    (subst (λ (l : List Exchange). joins (most_young c.args.self.now.journal.slots) l x ≡ true) (sym c.in-Ok.ensures.made)
    (joins_left (most_young c.args.self.now.journal.slots) c.args.now (once_free c.args.now c.args.self.now) c.args.self.now.exchanges x c.make_room.ensures.few
    (of_request x can.key small) can.time can.above can.below can.later can.room))

pub returns-in-Err : goal.returns-in-Err
returns-in-Err g c = record {
  moments = λ settings rests.
      leaves_young_first
      (g.D.Disk.media c.args.disk.now)
      (g.D.Disk.media c.make_room.new.disk)
      settings
      (most_young c.args.self.now.journal.slots)
      c.args.now
      c.args.self.now.exchanges
      (once_free c.args.now c.args.self.now)
      c.args.exchange.now
      c.make_room.ensures.store
      c.make_room.ensures.few
      (c.make_room.ensures.moments settings rests);
  steps = λ settings rests.
      leaves_first
      (g.D.Disk.media c.args.disk.now)
      (g.D.Disk.media c.make_room.new.disk)
      settings
      c.args.self.now.exchanges
      (once_free c.args.now c.args.self.now)
      c.args.exchange.now
      (c.make_room.ensures.moments settings rests);
  rests = tt;
  kept = tt;
  young = tt;
  number = tt;
  left = inl (ap (λ (s : StoreValue). s.exchanges) c.in-Err.ensures.same);
  slots = c.make_room.ensures.slots;
  extent = c.make_room.ensures.extent;
  cause = record { later = c.make_room.ensures.cause.later; same = tt; rose = c.in-Err.ensures.cause.rose };
  beside = c.make_room.ensures.beside;
}

pub returns-in-Ok : goal.returns-in-Ok
returns-in-Ok g c =
    let start = g.D.Disk.media c.args.disk.now in
    let between = g.D.Disk.media c.make_room.new.disk in
    let end = g.D.Disk.media c.append.new.disk in
    let most = most_young c.args.self.now.journal.slots in
    let all = c.args.self.now.exchanges in
    let few = once_free c.args.now c.args.self.now in
    let x = c.args.exchange.now in
    let joined : joins most few x ≡ true =
    subst (λ (l : List Exchange). joins most l x ≡ true) c.in-Ok.ensures.made
    (subst (λ (n : ℕ). joins n c.make_room.new.self.exchanges x ≡ true) (ap most_young c.make_room.ensures.slots) c.append.ensures.joins) in
    record {
      moments = λ settings rests.
          leaves_young start end settings most c.args.now all few x c.make_room.ensures.store c.make_room.ensures.few joined c.requires.can.time
          (leaves_then start between end (HasStep settings all few x)
          (leaves_first start between settings all few x (c.make_room.ensures.moments settings rests))
          (leaves_second between end settings all few x
          (subst (λ (l : List Exchange). Leaves between end (HasOne settings l (l ++ x ∷ []))) c.in-Ok.ensures.made
          (c.append.ensures.moments settings (c.in-Ok.ensures.rests settings rests)))));
      steps = λ settings rests.
          leaves_then start between end (HasStep settings all few x)
          (leaves_first start between settings all few x (c.make_room.ensures.moments settings rests))
          (leaves_second between end settings all few x
          (subst (λ (l : List Exchange). Leaves between end (HasOne settings l (l ++ x ∷ []))) c.in-Ok.ensures.made
          (c.append.ensures.moments settings (c.in-Ok.ensures.rests settings rests))));
      rests = on_ok_as c.append.result (λ goes settings rests. goes settings (c.in-Ok.ensures.rests settings rests)) c.append.ensures.rests;
      kept = on_ok_as c.append.result (λ is. is ∙ ap (λ (l : List Exchange). l ++ x ∷ []) c.in-Ok.ensures.made) c.append.ensures.appended;
      young = on_ok_as c.append.result
          (λ is.
          ap (young_at c.args.now) (is ∙ ap (λ (l : List Exchange). l ++ x ∷ []) c.in-Ok.ensures.made)
          ∙ young_more most c.args.now few all x c.make_room.ensures.few c.requires.can.time)
          c.append.ensures.appended;
      number = on_ok_as c.append.result
          (λ is. ap last_number (is ∙ ap (λ (l : List Exchange). l ++ x ∷ []) c.in-Ok.ensures.made) ∙ number_more 0 few x)
          c.append.ensures.appended;
      left = on_err_as c.append.result (λ same. inr (ap (λ (s : StoreValue). s.exchanges) same ∙ c.in-Ok.ensures.made)) c.append.ensures.same;
      slots = c.append.ensures.slots ∙ c.make_room.ensures.slots;
      extent = c.append.ensures.extent ∙ c.make_room.ensures.extent;
      cause = subst (λ (n : ℕ). HasCause n (g.D.Disk.faults c.append.new.disk) c.append.result) c.in-Ok.ensures.cause.same c.append.ensures.cause;
      beside = g.met.D.Disk.beside_then _ _ _ c.make_room.ensures.beside c.append.ensures.beside;
    }
