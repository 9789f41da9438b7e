use Rattle.std.proofs.Common.{◌≡◌, ◌∙◌, ◌+◌, ℕ, ap, true, [], ◌∷◌, ◌++◌, sym, subst, arith}
use Rattle.dots_host.specs.Causes.{HasCause}
use Rattle.dots_host.specs.Becoming.{Leaves, RestsWith}
use Rattle.dots_registry.specs.RegistryValues.{time_of, number_remembered}
use Rattle.slot_store.proofs.Steps.{leaves_then}
use Rattle.slot_store.specs.StoreValues.{JournalValue}
use Rattle.slot_journal.specs.DiskEntries as journal
use Rattle.dots_registry.specs.LedgerValues.{LedgerValue, Represents, joins_at, once_free}
use Rattle.dots_registry.specs.Crashes.{HasEither, HasOne}
use Rattle.dots_registry.proofs.Answering.{ok_as, err_as}
use Rattle.dots_registry.proofs.Images.{leaves_compacting, leaves_appending}
use Rattle.dots_registry.proofs.ledger.Ledger.accept.Goals as goal

pub append-requires-clause-can : goal.append-requires-clause-can
append-requires-clause-can g c =
    let can = c.requires.can in
    let made = c.in-Ok.ensures.compacted can.settings can.history can.entries can.represents in
    record {
      settings = can.settings;
      history = can.history;
      entries = once_free c.args.self.now can.entries;
      represents = made.0;
      joins = subst (λ (t : ℕ). joins_at can.settings t can.history c.args.staged ≡ true) (sym c.make_room.ensures.time) can.joins;
    }

pub returns-in-Err : goal.returns-in-Err
returns-in-Err g c = record {
  moments = λ settings history entries represents joins rests.
      leaves_compacting
      (g.D.Disk.media c.args.disk.now)
      (g.D.Disk.media c.make_room.new.disk)
      c.args.self.now
      settings
      history
      entries
      c.args.staged
      represents
      (c.make_room.ensures.moments settings history entries represents rests);
  accepted = tt;
  next = tt;
  appends = λ free. let full = c.in-Err.ensures.full in absurd (omega (arith, free, full));
  half = tt;
  entries = tt;
  refused = λ settings history entries represents. (entries, subst (λ (l : LedgerValue). Represents l settings history entries) (sym c.in-Err.ensures.same) represents);
  time = tt;
  still = c.make_room.ensures.time;
  slots = c.make_room.ensures.slots;
  extent = c.in-Err.ensures.extent;
  cause = record { later = c.in-Err.ensures.cause.later; same = tt; rose = c.in-Err.ensures.cause.rose };
  beside = c.in-Err.ensures.beside;
}

pub returns-in-Ok : goal.returns-in-Ok
returns-in-Ok g c = record {
  moments = λ settings history entries represents joins rests.
      let start = g.D.Disk.media c.args.disk.now in
      let between = g.D.Disk.media c.make_room.new.disk in
      let end = g.D.Disk.media c.append.new.disk in
      let n = number_remembered c.args.self.now.registry in
      let t = time_of c.args.self.now.registry in
      let later = time_of c.make_room.new.self.registry in
      let made = c.in-Ok.ensures.compacted settings history entries represents in
      leaves_then
      start
      between
      end
      (HasEither settings n t history c.args.staged)
      (leaves_compacting start between c.args.self.now settings history entries c.args.staged represents (c.make_room.ensures.moments settings history entries represents rests))
      (subst
      (λ (u : ℕ). Leaves between end (HasEither settings n u history c.args.staged))
      c.make_room.ensures.time
      (subst
      (λ (k : ℕ). Leaves between end (HasEither settings k later history c.args.staged))
      c.make_room.ensures.number
      (leaves_appending
      between
      end
      c.make_room.new.self
      settings
      history
      (once_free c.args.self.now entries)
      c.args.staged
      made.0
      (subst (λ (u : ℕ). joins_at settings u history c.args.staged ≡ true) (sym c.make_room.ensures.time) joins)
      (c.append.ensures.moments settings history (once_free c.args.self.now entries) made.0 (made.1 rests)))));
  accepted =
      ok_as
      c.append.result
      _
      _
      (λ goes settings history entries represents joins.
      let made = c.in-Ok.ensures.compacted settings history entries represents in
      let end = goes
      settings
      history
      (once_free c.args.self.now entries)
      made.0
      (subst (λ (u : ℕ). joins_at settings u history c.args.staged ≡ true) (sym c.make_room.ensures.time) joins) in
      (once_free c.args.self.now entries ++ c.args.staged ∷ [], end.0, λ rests. end.1 (made.1 rests)))
      c.append.ensures.appended;
  refused =
      err_as
      c.append.result
      _
      _
      (λ same settings history entries represents.
      let made = c.in-Ok.ensures.compacted settings history entries represents in (
        once_free c.args.self.now entries,
        subst (λ (l : LedgerValue). Represents l settings history (once_free c.args.self.now entries)) (sym same) made.0,
      ))
      c.append.ensures.same;
  next = ok_as
      c.append.result
      _
      _
      (λ next free. next ∙ ap (λ (l : LedgerValue). record l.journal { used = l.journal.used + 1 }) (c.make_room.ensures.free free).0)
      c.append.ensures.next;
  appends = λ free settings history entries represents rests.
      let still = c.make_room.ensures.free free in
      subst
      (λ media. Leaves media (g.D.Disk.media c.append.new.disk) (HasOne settings entries (entries ++ c.args.staged ∷ [])))
      still.1
      (c.append.ensures.moments settings history entries
      (subst (λ (l : LedgerValue). Represents l settings history entries) (sym still.0) represents)
      (subst
      (λ media. RestsWith media (journal.Represents c.make_room.new.self.journal settings entries))
      (sym still.1)
      (subst (λ (l : LedgerValue). RestsWith (g.D.Disk.media c.args.disk.now) (journal.Represents l.journal settings entries)) (sym still.0) rests)));
  half = ok_as
      c.append.result
      _
      _
      (λ next full. ap (λ (j : JournalValue). j.selector) next ∙ c.in-Ok.ensures.half full)
      c.append.ensures.next;
  entries = ok_as
      c.append.result
      _
      _
      (λ goes settings history entries represents joins.
      let made = c.in-Ok.ensures.compacted settings history entries represents in
      (goes
      settings
      history
      (once_free c.args.self.now entries)
      made.0
      (subst (λ (u : ℕ). joins_at settings u history c.args.staged ≡ true) (sym c.make_room.ensures.time) joins)).0)
      c.append.ensures.appended;
  time = c.append.ensures.time;
  still = err_as c.append.result _ _ (λ same. ap (λ (l : LedgerValue). time_of l.registry) same ∙ c.make_room.ensures.time) c.append.ensures.same;
  slots = c.append.ensures.slots ∙ c.make_room.ensures.slots;
  extent = c.append.ensures.extent ∙ c.make_room.ensures.extent;
  cause =
      subst (λ (n : ℕ). HasCause n (g.D.Disk.faults c.append.new.disk) c.append.result) c.in-Ok.ensures.cause.same c.append.ensures.cause;
  beside = g.met.D.Disk.beside_then _ _ _ c.make_room.ensures.beside c.append.ensures.beside;
}
