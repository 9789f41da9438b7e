use Rattle.std.proofs.Common.{◌≡◌, ℕ, List, [], ◌∷◌, ◌++◌, true, length, sym, ap, subst, ◌∙◌, arith}
use Rattle.std.specs.List.{range_with_len}
use Rattle.std.proofs.lemmas.List.{length-append}
use Rattle.std.proofs.lemmas.Result.{err_from_is_err_and}
use Rattle.dots_gateway.specs.declared.exchange.Exchange.{Exchange}
use Rattle.slot_store.specs.StoreValues.{JournalValue}
use Rattle.gateway_agent.specs.Exchanges.{IsStore, joins, most_young}
use Rattle.gateway_agent.specs.Forms.{entries_of}
use Rattle.gateway_agent.specs.Stores.{StoreValue}
use Rattle.gateway_agent.proofs.Orders.{one_more}
use Rattle.gateway_agent.proofs.Writing.{leaves_appended, rests_appended}
use Rattle.gateway_agent.proofs.store.Store.append.Goals as goal

-- the exchanges and the journal beside one another
abbrev of_both : List Exchange → JournalValue → StoreValue
of_both exchanges journal = record { journal = journal; exchanges = exchanges }

pub append_entry-requires : goal.append_entry-requires
append_entry-requires g c =
    let used = ap (λ (s : StoreValue). s.journal.used) c.self.view_is in
    let slots = ap (λ (s : StoreValue). s.journal.slots) c.self.view_is in
    let size = c.requires.size in
    let room = c.requires.room in
    record { room = omega (arith, used, slots, room); size = omega (arith, slots, size); replies = c.self.invariant.replies; early = c.requires.early }

pub push_reserved-requires : goal.push_reserved-requires
push_reserved-requires g c =
    let used = ap (λ (s : StoreValue). s.journal.used) c.self.view_is in
    let slots = ap (λ (s : StoreValue). s.journal.slots) c.self.view_is in
    let room = c.requires.room in
    let inv = c.self.invariant in
    omega (arith, used, slots, room, inv.used, inv.room, c.self.inside.exchanges.ok)

pub invariant_of-self : goal.invariant_of-self
invariant_of-self g c =
    let inv = c.self.invariant in
    let same = c.in_err-append_entry.ensures.same in
    let used = ap (λ (j : JournalValue). j.used) same in
    let slots = ap (λ (j : JournalValue). j.slots) same in
    record {
      order = subst (λ (n : ℕ). IsStore (most_young n) c.self.inside.exchanges.items) (sym slots) inv.order;
      used = used ∙ inv.used;
      fits = omega (arith, used, slots, inv.fits);
      slots = omega (arith, slots, inv.slots);
      room = omega (arith, slots, inv.room);
      numbers = inv.numbers ∙ ap (range_with_len 0) (sym slots);
      replies = c.append_entry.ensures.replies;
    }

pub invariant_of-self-2 : goal.invariant_of-self-2
invariant_of-self-2 g c =
    let inv = c.self.invariant in
    let next = c.in_ok-append_entry.ensures.next in
    let used = ap (λ (j : JournalValue). j.used) next in
    let slots = ap (λ (j : JournalValue). j.slots) next in
    let many = ap (λ (s : StoreValue). s.journal.used) c.self.view_is in
    let most = ap (λ (s : StoreValue). s.journal.slots) c.self.view_is in
    let room = c.requires.room in
    let x = c.args.exchange.now in
    let joined =
    subst
    (λ (s : StoreValue). joins (most_young s.journal.slots) s.exchanges x ≡ true)
    (sym c.self.view_is)
    (c.requires.joins c.append_entry.ensures.token) in
    let long = ap length c.push_reserved.ensures.items ∙ length-append c.self.inside.exchanges.items (x ∷ []) in
    let capacity = c.push_reserved.ensures.capacity in
    record {
      order = subst
          (λ (n : ℕ). IsStore (most_young n) c.push_reserved.new.self.items)
          (sym slots)
          (subst
          (IsStore (most_young c.self.inside.journal.slots))
          (sym c.push_reserved.ensures.items)
          (one_more (most_young c.self.inside.journal.slots) c.self.inside.exchanges.items x inv.order joined));
      used = omega (arith, used, long, inv.used);
      fits = omega (arith, used, slots, many, most, room);
      slots = omega (arith, slots, inv.slots);
      room = omega (arith, slots, capacity, inv.room);
      numbers = inv.numbers ∙ ap (range_with_len 0) (sym slots);
      replies = c.append_entry.ensures.replies;
    }

pub returns-in_err-append_entry : goal.returns-in_err-append_entry
returns-in_err-append_entry g c =
    let p = err_from_is_err_and c.from_residual.result c.from_residual.ensures.1 in
    let same = ap (of_both c.self.inside.exchanges.items) c.in_err-append_entry.ensures.same ∙ c.self.view_is in
    record {
      joins = c.requires.joins c.append_entry.ensures.token;
      moments = λ settings rests.
          leaves_appended
          (g.D.Disk.media c.args.disk.now)
          (g.D.Disk.media c.append_entry.new.disk)
          settings
          (of_both c.self.inside.exchanges.items c.self.inside.journal)
          c.args.self.now
          c.args.exchange.now
          c.self.view_is
          (c.in_err-append_entry.ensures.moments settings (entries_of c.self.inside.exchanges.items))
          rests;
      appended = rw p.1 tt;
      rests = rw p.1 tt;
      same = rw p.1 same;
      slots = ap (λ (s : StoreValue). s.journal.slots) same;
      extent = c.in_err-append_entry.ensures.extent;
      cause = record { later = c.in_err-append_entry.ensures.cause.later; same = rw p.1 tt; rose = rw p.1 c.in_err-append_entry.ensures.cause.rose };
      beside = c.in_err-append_entry.ensures.beside;
    }

pub returns : goal.returns
returns g c =
    let slots = ap (λ (j : JournalValue). j.slots) c.in_ok-append_entry.ensures.next in
    record {
      joins = c.requires.joins c.append_entry.ensures.token;
      moments = λ settings rests.
          leaves_appended
          (g.D.Disk.media c.args.disk.now)
          (g.D.Disk.media c.append_entry.new.disk)
          settings
          (of_both c.self.inside.exchanges.items c.self.inside.journal)
          c.args.self.now
          c.args.exchange.now
          c.self.view_is
          (c.in_ok-append_entry.ensures.moments settings (entries_of c.self.inside.exchanges.items))
          rests;
      appended = c.push_reserved.ensures.items ∙ ap (λ (s : StoreValue). s.exchanges ++ c.args.exchange.now ∷ []) c.self.view_is;
      rests = λ settings rests.
          rests_appended
          (g.D.Disk.media c.args.disk.now)
          (g.D.Disk.media c.append_entry.new.disk)
          settings
          (of_both c.self.inside.exchanges.items c.self.inside.journal)
          c.args.self.now
          c.append_entry.new.journal
          c.args.exchange.now
          _
          c.self.view_is
          c.push_reserved.ensures.items
          (c.in_ok-append_entry.ensures.rests settings (entries_of c.self.inside.exchanges.items))
          rests;
      same = tt;
      slots = slots ∙ ap (λ (s : StoreValue). s.journal.slots) c.self.view_is;
      extent = c.in_ok-append_entry.ensures.extent;
      cause = record { later = c.in_ok-append_entry.ensures.cause.later; same = c.in_ok-append_entry.ensures.cause.same; rose = tt };
      beside = c.in_ok-append_entry.ensures.beside;
    }
