use Rattle.std.proofs.Common.{◌<◌, ◌≤◌, List, refl, sym, ap, subst, arith}
use Rattle.dots_host.specs.Becoming.{RestsWith}
use Rattle.dots_history.specs.declared.entry.Entry.{Entry}
use Rattle.dots_history.specs.Keeping.{kept}
use Rattle.dots_registry.specs.RegistryValues.{time_of, number_remembered}
use Rattle.slot_store.proofs.Steps.{begins}
use Rattle.slot_journal.specs.DiskEntries as journal
use Rattle.dots_registry.specs.LedgerValues.{LedgerValue, Represents}
use Rattle.dots_registry.specs.Crashes.{HasOne}
use Rattle.dots_registry.proofs.Answering.{ok_as, err_of}
use Rattle.dots_registry.proofs.Making.{free_is, full_is}
use Rattle.dots_registry.proofs.ledger.Ledger.make_room.Goals as goal

pub returns-then-used-slots : goal.returns-then-used-slots
returns-then-used-slots g c =
    let used = ap (λ (l : LedgerValue). l.journal.used) c.self.view_is in
    let slots = ap (λ (l : LedgerValue). l.journal.slots) c.self.view_is in
    let many = c.used.ensures.used in
    let most = c.slots.ensures in
    let under = c.if-used-slots.true in
    let free : c.args.self.now.journal.used < c.args.self.now.journal.slots = omega (arith, used, slots, many, most, under) in
    record {
      moments = λ settings history entries represents rests.
          begins (g.D.Disk.media c.args.disk.now) (HasOne settings entries (kept (number_remembered c.args.self.now.registry) (time_of c.args.self.now.registry) entries));
      compacted = λ settings history entries represents. (
        subst (Represents c.args.self.now settings history) (sym (free_is c.args.self.now entries free)) represents,
        λ rests.
            subst
            (λ (es : List Entry). RestsWith (g.D.Disk.media c.args.disk.now) (journal.Represents c.args.self.now.journal settings es))
            (sym (free_is c.args.self.now entries free))
            rests,
      );
      free = λ is. (refl, refl);
      half = λ full. absurd (omega (arith, free, full));
      full = tt;
      room = free;
      same = tt;
      time = refl;
      number = refl;
      slots = refl;
      extent = refl;
      cause = record { later = omega arith; same = refl; rose = tt };
      beside = g.met.D.Disk.beside_same _;
    }

pub returns : goal.returns
returns g c =
    let used = ap (λ (l : LedgerValue). l.journal.used) c.self.view_is in
    let slots = ap (λ (l : LedgerValue). l.journal.slots) c.self.view_is in
    let many = c.used.ensures.used in
    let most = c.slots.ensures in
    let over = c.if-used-slots.false in
    let full : c.args.self.now.journal.slots ≤ c.args.self.now.journal.used = omega (arith, used, slots, many, most, over) in
    record {
      moments = c.compact.ensures.moments;
      compacted = ok_as
          c.compact.result
          _
          _
          (λ goes settings history entries represents.
          let both = goes settings history entries represents in
          let same = sym (full_is c.args.self.now entries full) in (
            subst (Represents c.compact.new.self settings history) same both.0,
            λ rests.
                subst
                (λ (es : List Entry). RestsWith (g.D.Disk.media c.compact.new.disk) (journal.Represents c.compact.new.self.journal settings es))
                same
                (both.1 rests),
          ))
          c.compact.ensures.compacted;
      free = λ free. absurd (omega (arith, free, full));
      half = ok_as c.compact.result _ _ (λ is at. is) c.compact.ensures.half;
      full = err_of c.compact.result _ full;
      room = c.compact.ensures.room;
      same = c.compact.ensures.same;
      time = c.compact.ensures.time;
      number = c.compact.ensures.number;
      slots = c.compact.ensures.slots;
      extent = c.compact.ensures.extent;
      cause = c.compact.ensures.cause;
      beside = c.compact.ensures.beside;
    }
