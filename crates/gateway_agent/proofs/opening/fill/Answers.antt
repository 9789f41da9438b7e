use Rattle.std.proofs.Common.{inl, inr, length, refl, sym, ap, subst, ◌∙◌, arith}
use Rattle.std.proofs.lemmas.List.{length-map}
use Rattle.std.proofs.lemmas.Result.{err_from_is_err_and}
use Rattle.dots_host.specs.Becoming.{RestsWith}
use Rattle.slot_store.proofs.DiskReading.{sees_at_rest}
use Rattle.slot_store.specs.StoreValues.{JournalValue}
use Rattle.slot_journal.specs.DiskEntries.{HasEntries, Represents}
use Rattle.gateway_agent.specs.Exchanges.{IsStore, most_young}
use Rattle.gateway_agent.specs.Forms.{entry_of}
use Rattle.gateway_agent.proofs.Strays.{refuses_stray, refuses_more, small_entries, caused_entries}
use Rattle.gateway_agent.proofs.opening.fill.Goals as goal

-- ---- where the journal isn't recovered

pub returns-in_err-journal : goal.returns-in_err-journal
returns-in_err-journal g c =
    let p = err_from_is_err_and c.from_residual.result c.from_residual.ensures.1 in
    record {
      moments = c.in_err-journal.ensures.moments;
      recovered = rw p.1 tt;
      store = rw p.1 tt;
      early = rw p.1 tt;
      used = rw p.1 tt;
      size = rw p.1 tt;
      capacity = refl;
      refused = rw (p.1, p.2) (λ seen sees. refuses_more c.args.settings.now (g.D.Disk.extent c.args.disk.now) seen _ _ (c.in_err-journal.ensures.refused seen sees));
      small = rw (p.1, p.2) c.in_err-journal.ensures.small;
      unwritten = rw (p.1, p.2) (λ seen other rests. inl (c.in_err-journal.ensures.unwritten seen other rests));
      extent = c.in_err-journal.ensures.extent;
      cause = rw (p.1, p.2) c.in_err-journal.ensures.cause;
      beside = c.in_err-journal.ensures.beside;
    }

-- ---- where its entries aren't taken

pub returns-in_err-take_all : goal.returns-in_err-take_all
returns-in_err-take_all g c =
    let p = err_from_is_err_and c.from_residual-in_err-take_all.result c.from_residual-in_err-take_all.ensures.1 in
    let extent = g.D.Disk.extent c.args.disk.now in
    let items = c.items.ensures in
    let stray = rw items at c.in_err-take_all.ensures.refused in
    record {
      moments = c.in_ok-journal.ensures.moments;
      recovered = rw p.1 tt;
      store = rw p.1 tt;
      early = rw p.1 tt;
      used = rw p.1 tt;
      size = rw p.1 tt;
      capacity = c.take_all.ensures.capacity;
      refused = rw (p.1, p.2) (λ seen sees.
          let found = c.in_ok-journal.ensures.recovered seen sees in
          refuses_stray c.args.settings.now extent seen _ c.in_ok-journal.journal c.in_ok-journal.entries _ c.in_ok-journal.ensures.size.0 found.0 found.1
          stray);
      small = rw (p.1, p.2) (small_entries c.args.settings.now c.in_ok-journal.journal c.in_ok-journal.entries extent _ stray);
      unwritten = rw (p.1, p.2) (λ seen other rests. inr (c.in_ok-journal.entries, (c.in_ok-journal.ensures.recovered seen (sees_at_rest _ seen rests)).0));
      extent = c.in_ok-journal.ensures.extent;
      cause = rw (p.1, p.2) (caused_entries JournalValue c.in_ok-journal.journal c.in_ok-journal.entries _ _ _ stray c.in_ok-journal.ensures.cause);
      beside = c.in_ok-journal.ensures.beside;
    }

-- ---- and where they are

pub take_all-requires-clause-room : goal.take_all-requires-clause-room
take_all-requires-clause-room g c =
    let long = ap length c.items.ensures in
    let count = c.in_ok-journal.ensures.count in
    let used = c.used-used.ensures.used in
    let fits = c.used-used.ensures.fits in
    let slots = c.in_ok-journal.ensures.size.0 in
    let room = c.requires.room in
    omega (arith, long, count, used, fits, slots, room)

pub take_all-requires-clause-used : goal.take_all-requires-clause-used
take_all-requires-clause-used g c = c.in_ok-journal.ensures.count ∙ sym (ap length c.items.ensures)

pub returns : goal.returns
returns g c =
    let items = c.items.ensures in
    let taken = sym items ∙ c.in_ok-take_all.ensures.taken in
    let count = c.in_ok-journal.ensures.count in
    let used = c.used-used.ensures.used in
    let fits = c.used-used.ensures.fits in
    let long = ap length taken ∙ length-map c.take_all.new.exchanges.items entry_of in
    record {
      moments = c.in_ok-journal.ensures.moments;
      recovered = λ seen sees.
          let found = c.in_ok-journal.ensures.recovered seen sees in (
            subst (HasEntries c.args.settings.now seen) taken found.0,
            subst (λ es. RestsWith (g.D.Disk.media c.recover.new.disk) (Represents c.in_ok-journal.journal c.args.settings.now es)) taken found.1,
          );
      store = subst (λ n. IsStore (most_young n) c.take_all.new.exchanges.items) c.in_ok-journal.ensures.size.0 c.in_ok-take_all.ensures.store;
      early = c.in_ok-take_all.ensures.early;
      used = (count ∙ long, omega (arith, used, fits));
      size = c.in_ok-journal.ensures.size;
      capacity = c.take_all.ensures.capacity;
      refused = tt;
      small = tt;
      unwritten = tt;
      extent = c.in_ok-journal.ensures.extent;
      cause = c.in_ok-journal.ensures.cause;
      beside = c.in_ok-journal.ensures.beside;
    }
