use Rattle.std.proofs.Common.{◌≡◌, ℕ, ◌+◌, inl, inr, refl, sym, ap, subst, ◌∙◌, arith}
use Rattle.std.specs.List.{range_with_len}
use Rattle.std.proofs.lemmas.Result.{err_from_is_err_and}
use Rattle.slot_store.proofs.DiskReading.{sees_at_rest}
use Rattle.slot_store.proofs.Steps.{begins}
use Rattle.slot_journal.specs.DiskEntries.{HasEntries}
use Rattle.dots_gateway.specs.Exchanges.{AreRestorable}
use Rattle.gateway_agent.specs.Exchanges.{IsStore, last_number, most_young, next_number}
use Rattle.gateway_agent.specs.Forms.{entries_of}
use Rattle.gateway_agent.proofs.Orders.{restorable}
use Rattle.gateway_agent.proofs.Strays.{fails_alone}
use Rattle.gateway_agent.proofs.Young.{number_small}
use Rattle.gateway_agent.proofs.store.Store.open.Goals as goal

-- ---- before the disk is touched

pub returns-in_err-exchanges : goal.returns-in_err-exchanges
returns-in_err-exchanges g c =
    let p = err_from_is_err_and c.from_residual.result c.from_residual.ensures.1 in
    record {
      moments = λ seen entries rests image_has. begins (g.D.Disk.media c.args.disk.now) (λ image. HasEntries c.args.settings.now image entries);
      opened = rw p.1 tt;
      store = rw p.1 tt;
      early = rw p.1 tt;
      exchanges = rw p.1 tt;
      restorable = rw p.1 tt;
      size = rw p.1 tt;
      refused = rw (p.1, p.2) (λ seen sees. tt);
      complete = rw (p.1, p.2) (λ seen exchanges sees image_has store size. tt);
      small = rw (p.1, p.2) tt;
      unwritten = rw p.1 (λ seen other rests. inl rests);
      extent = refl;
      cause = rw (p.1, p.2) refl;
      beside = g.met.D.Disk.beside_same _;
    }

-- ---- where the journal is refused

pub returns-in_err-journal : goal.returns-in_err-journal
returns-in_err-journal g c =
    let p = err_from_is_err_and c.from_residual-in_err-journal.result c.from_residual-in_err-journal.ensures.1 in
    record {
      moments = c.in_err-journal.ensures.moments;
      opened = rw p.1 tt;
      store = rw p.1 tt;
      early = rw p.1 tt;
      exchanges = rw p.1 tt;
      restorable = rw p.1 tt;
      size = rw p.1 tt;
      refused = rw (p.1, p.2) c.in_err-journal.ensures.refused;
      complete = rw (p.1, p.2) (λ seen exchanges sees image_has store size.
          fails_alone c.args.settings.now (g.D.Disk.extent c.args.disk.now) seen _ exchanges _ (c.in_err-journal.ensures.refused seen sees) image_has store size);
      small = rw (p.1, p.2) c.in_err-journal.ensures.small;
      unwritten = rw (p.1, p.2) c.in_err-journal.ensures.unwritten;
      extent = c.in_err-journal.ensures.extent;
      cause = rw (p.1, p.2) c.in_err-journal.ensures.cause;
      beside = c.in_err-journal.ensures.beside;
    }

pub returns-in_err-found : goal.returns-in_err-found
returns-in_err-found g c =
    let p = err_from_is_err_and c.from_residual-in_err-found.result c.from_residual-in_err-found.ensures.1 in
    record {
      moments = c.in_ok-journal.ensures.moments;
      opened = rw p.1 tt;
      store = rw p.1 tt;
      early = rw p.1 tt;
      exchanges = rw p.1 tt;
      restorable = rw p.1 tt;
      size = rw p.1 tt;
      refused = rw (p.1, p.2) (λ seen sees. tt);
      complete = rw (p.1, p.2) (λ seen exchanges sees image_has store size. tt);
      small = rw (p.1, p.2) tt;
      unwritten = rw p.1 (λ seen other rests. inr (entries_of c.fill.new.exchanges.items, (c.in_ok-journal.ensures.recovered seen (sees_at_rest _ seen rests)).0));
      extent = c.in_ok-journal.ensures.extent;
      cause = rw (p.1, p.2) c.in_ok-journal.ensures.cause;
      beside = c.in_ok-journal.ensures.beside;
    }

-- ---- and where it isn't

pub overflow_add-next : goal.overflow_add-next
overflow_add-next g c =
    let small = number_small _ c.fill.new.exchanges.items c.in_ok-journal.ensures.store in
    let is = c.last_number-next.ensures ∙ ap last_number c.as_slice-2.ensures.value in
    omega (arith, small, is)

pub invariant_of-store : goal.invariant_of-store
invariant_of-store g c =
    let slots = c.in_ok-journal.ensures.size.0 in
    let asked = c.slots.ensures.slots in
    let room = c.in_ok-exchanges.ensures.exchanges.1 in
    let capacity = c.in_ok-journal.ensures.capacity in
    record {
      order = subst (λ (n : ℕ). IsStore (most_young n) c.fill.new.exchanges.items) (sym slots) c.in_ok-journal.ensures.store;
      used = c.in_ok-journal.ensures.used.0;
      fits = c.in_ok-journal.ensures.used.1;
      slots = omega (arith, slots);
      room = omega (arith, slots, asked, room, capacity);
      numbers = c.in_ok-exchanges.ensures.numbers ∙ ap (range_with_len 0) (asked ∙ sym slots);
      replies = c.in_ok-exchanges.ensures.replies;
    }

pub returns : goal.returns
returns g c =
    let xs = c.fill.new.exchanges.items in
    let store = subst (λ (n : ℕ). IsStore (most_young n) xs) (sym c.in_ok-journal.ensures.size.0) c.in_ok-journal.ensures.store in
    let copy = c.in_ok-found.ensures ∙ c.as_slice.ensures.value in
    let next : c.last_number-next.result + 1 ≡ next_number xs = ap (λ (n : ℕ). n + 1) (c.last_number-next.ensures ∙ ap last_number c.as_slice-2.ensures.value) in
    record {
      moments = c.in_ok-journal.ensures.moments;
      opened = c.in_ok-journal.ensures.recovered;
      store = store;
      early = c.in_ok-journal.ensures.early;
      exchanges = (copy, next);
      restorable = λ gone left cut. subst (AreRestorable left) (sym next) (restorable _ xs gone left store (sym copy ∙ cut));
      size = c.in_ok-journal.ensures.size;
      refused = tt;
      complete = tt;
      small = tt;
      unwritten = tt;
      extent = c.in_ok-journal.ensures.extent;
      cause = c.in_ok-journal.ensures.cause;
      beside = c.in_ok-journal.ensures.beside;
    }
