use Rattle.std.proofs.Common.{◌≡◌, ◌⊎◌, ℕ, ◌+◌, ◌≤◌, List, length, take, drop, sym, ap, subst, ◌∙◌, arith}
use Rattle.std.specs.Prelude.{◌-◌}
use Rattle.std.specs.List.{range_with_len}
use Rattle.std.proofs.lemmas.List.{length-drop}
use Rattle.std.proofs.lemmas.List.FromFn.{length-range_with_len}
use Rattle.std.proofs.lemmas.Result.{err_from_is_err_and}
use Rattle.dots_gateway.specs.declared.exchange.Exchange.{Exchange}
use Rattle.slot_store.specs.Copying.{AreSlots}
use Rattle.slot_store.specs.StoreValues.{JournalValue}
use Rattle.gateway_agent.specs.Exchanges.{IsStore, kept_at, most_young, young_at}
use Rattle.gateway_agent.specs.Forms.{entries_of}
use Rattle.gateway_agent.specs.Stores.{StoreValue}
use Rattle.gateway_agent.proofs.Writing.{part_entries, part_long, part_slots, leaves_kept, rests_kept}
use Rattle.gateway_agent.proofs.Orders.{dropped_are}
use Rattle.gateway_agent.proofs.store.Store.compact.Goals as goal

-- the exchanges beside a journal
abbrev of_both : List Exchange → JournalValue → StoreValue
of_both exchanges journal = record { journal = journal; exchanges = exchanges }

pub first_kept-first-requires : goal.first_kept-first-requires
first_kept-first-requires g c =
    let used = ap (λ (s : StoreValue). s.journal.used) c.self.view_is in
    let some = c.requires.some in
    let slice : c.as_slice.result.now ≡ c.self.inside.exchanges.items = c.as_slice.ensures.value in
    let long_slice = ap length slice in
    let most = most_young c.self.inside.journal.slots in
    record {
      some = omega (arith, used, some, long_slice, c.self.invariant.used);
      store = (most, subst (IsStore most) (sym slice) c.self.invariant.order);
    }

pub slice_bounds-compact-end : goal.slice_bounds-compact-end
slice_bounds-compact-end g c =
    let long = ap length c.self.invariant.numbers ∙ length-range_with_len 0 c.self.inside.journal.slots in
    omega (arith, long, c.self.invariant.used, c.self.invariant.fits)

pub compact-requires : goal.compact-requires
compact-requires g c =
    let inv = c.self.invariant in
    let slice : c.as_slice.result.now ≡ c.self.inside.exchanges.items = c.as_slice.ensures.value in
    let long_slice = ap length slice in
    let first = c.first_kept-first.ensures.first in
    let many : c.len-many.result ≡ length c.self.inside.exchanges.items = omega (arith, c.len-many.ensures, c.self.inside.exchanges.ok) in
    let are = c.deref.ensures.value ∙ inv.numbers in
    let low : c.first_kept-first.result ≤ c.len-many.result = omega (arith, first, many, long_slice) in
    let fits : c.len-many.result ≤ c.self.inside.journal.slots = omega (arith, many, inv.used, inv.fits) in
    let long = part_long c.deref.result.now c.self.inside.journal.slots c.first_kept-first.result c.len-many.result are low fits in
    let slots = ap (λ (s : StoreValue). s.journal.slots) c.self.view_is in
    let size = c.requires.size in
    record {
      size = omega (arith, slots, size);
      keep = subst
          (λ (n : ℕ). AreSlots n (take (c.len-many.result - c.first_kept-first.result) (drop c.first_kept-first.result c.deref.result.now)))
          (many ∙ sym inv.used)
          (part_slots c.deref.result.now c.self.inside.journal.slots c.first_kept-first.result c.len-many.result are low fits);
      few = omega (arith, long, fits);
    }

pub invariant_of-self : goal.invariant_of-self
invariant_of-self g c =
    let inv = c.self.invariant in
    let same = c.in_err-compact.ensures.same in
    let used = ap (λ (j : JournalValue). j.used) same in
    let slots = ap (λ (j : JournalValue). j.slots) same in
    record {
      order = subst (λ (j : JournalValue). IsStore (most_young j.slots) c.self.inside.exchanges.items) (sym same) inv.order;
      used = used ∙ inv.used;
      fits = omega (arith, used, slots, inv.fits);
      slots = omega (arith, slots, inv.slots);
      room = omega (arith, slots, inv.room);
      numbers = subst (λ (j : JournalValue). c.self.inside.numbers.items ≡ range_with_len 0 j.slots) (sym same) inv.numbers;
      replies = inv.replies;
    }

pub invariant_of-self-2 : goal.invariant_of-self-2
invariant_of-self-2 g c =
    let inv = c.self.invariant in
    let next = c.in_ok-compact.ensures.next in
    let used = ap (λ (j : JournalValue). j.used) next in
    let slots = ap (λ (j : JournalValue). j.slots) next in
    let slice : c.as_slice.result.now ≡ c.self.inside.exchanges.items = c.as_slice.ensures.value in
    let long_slice = ap length slice in
    let first = c.first_kept-first.ensures.first in
    let many : c.len-many.result ≡ length c.self.inside.exchanges.items = omega (arith, c.len-many.ensures, c.self.inside.exchanges.ok) in
    let are = c.deref.ensures.value ∙ inv.numbers in
    let low : c.first_kept-first.result ≤ c.len-many.result = omega (arith, first, many, long_slice) in
    let fits : c.len-many.result ≤ c.self.inside.journal.slots = omega (arith, many, inv.used, inv.fits) in
    let long = part_long c.deref.result.now c.self.inside.journal.slots c.first_kept-first.result c.len-many.result are low fits in
    let left = ap length c.drop_front.ensures.items ∙ length-drop c.first_kept-first.result c.self.inside.exchanges.items in
    let room = c.drop_front.ensures.capacity in
    record {
      order = subst
          (IsStore (most_young c.compact.new.self.slots))
          (sym c.drop_front.ensures.items)
          (dropped_are (most_young c.compact.new.self.slots) c.first_kept-first.result c.self.inside.exchanges.items
          (subst (λ (n : ℕ). IsStore (most_young n) c.self.inside.exchanges.items) (sym slots) inv.order));
      used = used ∙ long ∙ ap (λ (n : ℕ). n - c.first_kept-first.result) many ∙ sym left;
      fits = omega (arith, used, slots, long, fits);
      slots = omega (arith, slots, inv.slots);
      room = omega (arith, slots, room, inv.room);
      numbers = inv.numbers ∙ ap (range_with_len 0) (sym slots);
      replies = inv.replies;
    }

-- ---- where the disk fails

pub returns-in_err-compact : goal.returns-in_err-compact
returns-in_err-compact g c =
    let inv = c.self.invariant in
    let slice : c.as_slice.result.now ≡ c.self.inside.exchanges.items = c.as_slice.ensures.value in
    let long_slice = ap length slice in
    let first = c.first_kept-first.ensures.first in
    let many : c.len-many.result ≡ length c.self.inside.exchanges.items = omega (arith, c.len-many.ensures, c.self.inside.exchanges.ok) in
    let are = c.deref.ensures.value ∙ inv.numbers in
    let low : c.first_kept-first.result ≤ c.len-many.result = omega (arith, first, many, long_slice) in
    let fits : c.len-many.result ≤ c.self.inside.journal.slots = omega (arith, many, inv.used, inv.fits) in
    let kept = subst (λ (l : List Exchange). drop c.first_kept-first.result l ≡ kept_at c.args.now l) slice c.first_kept-first.ensures.kept in
    let p = err_from_is_err_and c.from_residual.result c.from_residual.ensures.1 in
    let same = ap (of_both c.self.inside.exchanges.items) c.in_err-compact.ensures.same ∙ c.self.view_is in
    record {
      moments = λ settings rests.
          leaves_kept
          (g.D.Disk.media c.args.disk.now)
          (g.D.Disk.media c.compact.new.disk)
          settings
          c.args.now
          (of_both c.self.inside.exchanges.items c.self.inside.journal)
          c.args.self.now
          (take (c.len-many.result - c.first_kept-first.result) (drop c.first_kept-first.result c.deref.result.now))
          c.self.view_is
          (part_entries c.deref.result.now c.self.inside.journal.slots c.first_kept-first.result c.len-many.result are low fits
          c.self.inside.exchanges.items (kept_at c.args.now c.self.inside.exchanges.items) many kept)
          (c.in_err-compact.ensures.moments settings (entries_of c.self.inside.exchanges.items))
          rests;
      made = rw p.1 tt;
      free = rw p.1 tt;
      rests = rw p.1 tt;
      same = rw p.1 same;
      slots = ap (λ (s : StoreValue). s.journal.slots) same;
      extent = c.in_err-compact.ensures.extent;
      cause = record { later = c.in_err-compact.ensures.cause.later; same = rw p.1 tt; rose = rw p.1 c.in_err-compact.ensures.cause.rose };
      beside = c.in_err-compact.ensures.beside;
    }

-- ---- and where it doesn't

pub returns : goal.returns
returns g c =
    let inv = c.self.invariant in
    let slice : c.as_slice.result.now ≡ c.self.inside.exchanges.items = c.as_slice.ensures.value in
    let long_slice = ap length slice in
    let first = c.first_kept-first.ensures.first in
    let many : c.len-many.result ≡ length c.self.inside.exchanges.items = omega (arith, c.len-many.ensures, c.self.inside.exchanges.ok) in
    let are = c.deref.ensures.value ∙ inv.numbers in
    let low : c.first_kept-first.result ≤ c.len-many.result = omega (arith, first, many, long_slice) in
    let fits : c.len-many.result ≤ c.self.inside.journal.slots = omega (arith, many, inv.used, inv.fits) in
    let kept = subst (λ (l : List Exchange). drop c.first_kept-first.result l ≡ kept_at c.args.now l) slice c.first_kept-first.ensures.kept in
    let next = c.in_ok-compact.ensures.next in
    let used = ap (λ (j : JournalValue). j.used) next in
    let slots = ap (λ (j : JournalValue). j.slots) next in
    let long = part_long c.deref.result.now c.self.inside.journal.slots c.first_kept-first.result c.len-many.result are low fits in
    let before = ap (λ (s : StoreValue). s.journal.slots) c.self.view_is in
    let young = ap (λ (s : StoreValue). length (young_at c.args.now s.exchanges)) c.self.view_is in
    let few =
    subst
    (λ (l : List Exchange). (length l ≤ c.first_kept-first.result + 1) ⊎ (length l ≤ c.first_kept-first.result + length (young_at c.args.now l)))
    slice
    c.first_kept-first.ensures.many in
    let room = c.requires.room in
    record {
      moments = λ settings rests.
          leaves_kept
          (g.D.Disk.media c.args.disk.now)
          (g.D.Disk.media c.compact.new.disk)
          settings
          c.args.now
          (of_both c.self.inside.exchanges.items c.self.inside.journal)
          c.args.self.now
          (take (c.len-many.result - c.first_kept-first.result) (drop c.first_kept-first.result c.deref.result.now))
          c.self.view_is
          (part_entries c.deref.result.now c.self.inside.journal.slots c.first_kept-first.result c.len-many.result are low fits
          c.self.inside.exchanges.items (kept_at c.args.now c.self.inside.exchanges.items) many kept)
          (c.in_ok-compact.ensures.moments settings (entries_of c.self.inside.exchanges.items))
          rests;
      made = c.drop_front.ensures.items ∙ kept ∙ ap (λ (s : StoreValue). kept_at c.args.now s.exchanges) c.self.view_is;
      free = omega (arith, used, slots, long, before, young, few, room, many, inv.slots);
      rests = λ settings rests.
          rests_kept
          (g.D.Disk.media c.args.disk.now)
          (g.D.Disk.media c.compact.new.disk)
          settings
          (of_both c.self.inside.exchanges.items c.self.inside.journal)
          c.args.self.now
          c.compact.new.self
          c.drop_front.new.exchanges.items
          (take (c.len-many.result - c.first_kept-first.result) (drop c.first_kept-first.result c.deref.result.now))
          c.self.view_is
          (part_entries c.deref.result.now c.self.inside.journal.slots c.first_kept-first.result c.len-many.result are low fits
          c.self.inside.exchanges.items c.drop_front.new.exchanges.items many (sym c.drop_front.ensures.items))
          (c.in_ok-compact.ensures.rests settings (entries_of c.self.inside.exchanges.items))
          rests;
      same = tt;
      slots = slots ∙ before;
      extent = c.in_ok-compact.ensures.extent;
      cause = record { later = c.in_ok-compact.ensures.cause.later; same = c.in_ok-compact.ensures.cause.same; rose = tt };
      beside = c.in_ok-compact.ensures.beside;
    }
