use Rattle.std.proofs.Common.{◌≡◌, ◌+◌, [], ◌∷◌, ◌++◌, true, sym, ap, subst, ◌∙◌, arith}
use Rattle.std.specs.Prelude.{IsTrue}
use Rattle.dots_host.specs.Becoming.{Leaves, RestsWith}
use Rattle.dots_history.specs.declared.entry.Entry.{Entry}
use Rattle.dots_history.specs.Bounds.{within_bounds}
use Rattle.dots_registry.specs.RegistryValues.{RegistryValue, time_of}
use Rattle.slot_store.specs.StoreValues.{JournalValue}
use Rattle.slot_journal.specs.DiskEntries as journal
use Rattle.dots_registry.specs.LedgerValues.{LedgerValue, Represents, RepresentsSome, CanAccept, joins_at}
use Rattle.dots_registry.specs.Crashes.{HasOne}
use Rattle.dots_registry.proofs.LedgerValues.{most_same, joins_parts, fits_in, represents_more}
use Rattle.dots_registry.proofs.ledger.Ledger.append.Goals as goal

pub apply-requires : goal.apply-requires
apply-requires g c =
    let can = subst (λ (l : LedgerValue). CanAccept l c.args.staged) (sym c.self.view_is) c.requires.can in
    fits_in (record { registry = c.self.inside.registry; journal = c.self.inside.journal }) can.settings can.history can.entries c.args.staged can.represents can.joins

pub invariant_of-self : goal.invariant_of-self
invariant_of-self g c =
    let can = subst (λ (l : LedgerValue). CanAccept l c.args.staged) (sym c.self.view_is) c.requires.can in
    let most = most_same can.settings c.self.inside.registry c.apply.new.self can.represents.is_of (c.apply.ensures.settings can.settings can.represents.is_of) in
    let room = c.self.invariant.1 in (
      record {
        settings = can.settings;
        history = can.history ++ c.args.staged ∷ [];
        entries = can.entries ++ c.args.staged ∷ [];
        represents = represents_more
            c.in-Ok.slot
            c.args.staged
            (record { registry = c.self.inside.registry; journal = c.self.inside.journal })
            (record { registry = c.apply.new.self; journal = c.append.new.self })
            (ap (λ (j : JournalValue). j.used) c.in-Ok.ensures.next)
            (ap (λ (j : JournalValue). j.slots) c.in-Ok.ensures.next)
            c.in-Ok.ensures.slot
            c.apply.ensures.time
            c.apply.ensures.represents
            c.apply.ensures.filed
            c.apply.ensures.settings
            can.settings
            can.history
            can.entries
            can.represents
            can.joins;
      },
      omega (arith, most, room),
    )

pub append-requires-clause-room : goal.append-requires-clause-room
append-requires-clause-room g c =
    let used = ap (λ (l : LedgerValue). l.journal.used) c.self.view_is in
    let slots = ap (λ (l : LedgerValue). l.journal.slots) c.self.view_is in
    let room = c.requires.room in
    omega (arith, used, slots, room)

pub append-requires-clause-within : goal.append-requires-clause-within
append-requires-clause-within g c =
    let can = c.requires.can in
    subst (λ (e : Entry). IsTrue (within_bounds e)) (sym c.entry.ensures) (joins_parts can.settings (time_of c.args.self.now.registry) can.history c.args.staged can.joins).0

pub append-requires-clause-size : goal.append-requires-clause-size
append-requires-clause-size g c =
    let slots = ap (λ (l : LedgerValue). l.journal.slots) c.self.view_is in
    let size = c.requires.size in
    omega (arith, slots, size)

pub returns-in-Ok : goal.returns-in-Ok
returns-in-Ok g c = record {
  moments = λ settings history entries represents rests.
      subst
      (λ (e : Entry). Leaves (g.D.Disk.media c.args.disk.now) (g.D.Disk.media c.append.new.disk) (HasOne settings entries (entries ++ e ∷ [])))
      c.entry.ensures
      (c.append.ensures.moments settings entries
      (subst (λ (l : LedgerValue). RestsWith (g.D.Disk.media c.args.disk.now) (journal.Represents l.journal settings entries)) (sym c.self.view_is) rests));
  appended = λ settings history entries represents joins. (
    represents_more
        c.in-Ok.slot
        c.args.staged
        (record { registry = c.self.inside.registry; journal = c.self.inside.journal })
        (record { registry = c.apply.new.self; journal = c.append.new.self })
        (ap (λ (j : JournalValue). j.used) c.in-Ok.ensures.next)
        (ap (λ (j : JournalValue). j.slots) c.in-Ok.ensures.next)
        c.in-Ok.ensures.slot
        c.apply.ensures.time
        c.apply.ensures.represents
        c.apply.ensures.filed
        c.apply.ensures.settings
        settings
        history
        entries
        (subst (λ (l : LedgerValue). Represents l settings history entries) (sym c.self.view_is) represents)
        (subst (λ (l : LedgerValue). joins_at settings (time_of l.registry) history c.args.staged ≡ true) (sym c.self.view_is) joins),
    λ rests.
        subst
        (λ (e : Entry). RestsWith (g.D.Disk.media c.append.new.disk) (journal.Represents c.append.new.self settings (entries ++ e ∷ [])))
        c.entry.ensures
        (c.in-Ok.ensures.rests settings entries
        (subst (λ (l : LedgerValue). RestsWith (g.D.Disk.media c.args.disk.now) (journal.Represents l.journal settings entries)) (sym c.self.view_is) rests)),
  );
  next =
      c.in-Ok.ensures.next
      ∙ ap (λ (l : LedgerValue). record l.journal { used = l.journal.used + 1 }) c.self.view_is;
  same = tt;
  time = c.apply.ensures.time;
  slots = ap (λ (j : JournalValue). j.slots) c.in-Ok.ensures.next ∙ ap (λ (l : LedgerValue). l.journal.slots) c.self.view_is;
  extent = c.in-Ok.ensures.extent;
  cause = record { later = c.in-Ok.ensures.cause.later; same = c.in-Ok.ensures.cause.same; rose = tt };
  beside = c.in-Ok.ensures.beside;
}

-- the tables beside a journal
abbrev beside_tables : RegistryValue → JournalValue → LedgerValue
beside_tables tables store = record { registry = tables; journal = store }

pub invariant_of-self-in-Err : goal.invariant_of-self-in-Err
invariant_of-self-in-Err g c = (subst RepresentsSome (sym (ap (beside_tables c.self.inside.registry) c.in-Err.ensures.same)) c.self.invariant.0, c.self.invariant.1)

pub returns-in-Err : goal.returns-in-Err
returns-in-Err g c =
    let same = ap (beside_tables c.self.inside.registry) c.in-Err.ensures.same ∙ c.self.view_is in
    record {
      moments = λ settings history entries represents rests.
          subst
          (λ (e : Entry). Leaves (g.D.Disk.media c.args.disk.now) (g.D.Disk.media c.append.new.disk) (HasOne settings entries (entries ++ e ∷ [])))
          c.entry.ensures
          (c.append.ensures.moments settings entries
          (subst (λ (l : LedgerValue). RestsWith (g.D.Disk.media c.args.disk.now) (journal.Represents l.journal settings entries)) (sym c.self.view_is) rests));
      appended = tt;
      next = tt;
      same = same;
      time = tt;
      slots = ap (λ (l : LedgerValue). l.journal.slots) same;
      extent = c.in-Err.ensures.extent;
      cause = record { later = c.in-Err.ensures.cause.later; same = tt; rose = c.in-Err.ensures.cause.rose };
      beside = c.in-Err.ensures.beside;
    }
