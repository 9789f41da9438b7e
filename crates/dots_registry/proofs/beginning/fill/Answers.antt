use Rattle.std.proofs.Common.{inl, inr}
use Rattle.std.proofs.lemmas.Result.{err_from_is_err_and}
use Rattle.slot_store.proofs.DiskReading.{sees_at_rest}
use Rattle.slot_store.specs.StoreValues.{JournalValue}
use Rattle.dots_registry.proofs.Recovering.{represents_begun, refuses_stray, refuses_more, fails_alone, small_entries, caused_entries}
use Rattle.dots_registry.proofs.beginning.fill.Goals as goal

-- ---- where the journal isn't recovered

pub returns-in_err-journal : goal.returns-in_err-journal
returns-in_err-journal g c =
    let p = err_from_is_err_and c.from_residual.result c.from_residual.ensures.1 in
    record {
      moments = c.in_err-journal.ensures.moments;
      recovered = rw p.1 tt;
      room = rw p.1 tt;
      size = rw p.1 tt;
      refused = rw (p.1, p.2) (λ seen sees. refuses_more c.args.settings.now (g.D.Disk.extent c.args.disk.now) seen _ _ (c.in_err-journal.ensures.refused seen sees));
      complete = rw (p.1, p.2) (λ seen entries sees image_has calm size.
          fails_alone c.args.settings.now (g.D.Disk.extent c.args.disk.now) seen (g.D.Disk.media c.args.disk.now) entries _
          (refuses_more c.args.settings.now (g.D.Disk.extent c.args.disk.now) seen (g.D.Disk.media c.args.disk.now) _ (c.in_err-journal.ensures.refused seen sees)) image_has calm size);
      small = rw (p.1, p.2) c.in_err-journal.ensures.small;
      unwritten = rw (p.1, p.2) (λ seen other rests. inl (c.in_err-journal.ensures.unwritten seen other rests));
      extent = c.in_err-journal.ensures.extent;
      cause = rw (p.1, p.2) c.in_err-journal.ensures.cause;
      beside = c.in_err-journal.ensures.beside;
    }

-- ---- where its entries aren't taken

pub returns-in_err-gather : goal.returns-in_err-gather
returns-in_err-gather g c =
    let p = err_from_is_err_and c.from_residual-in_err-gather.result c.from_residual-in_err-gather.ensures.1 in
    let extent = g.D.Disk.extent c.args.disk.now in
    record {
      moments = c.in_ok-journal.ensures.moments;
      recovered = rw p.1 tt;
      room = rw p.1 tt;
      size = rw p.1 tt;
      refused = rw (p.1, p.2) (λ seen sees.
          let found = c.in_ok-journal.ensures.recovered seen sees in
          refuses_stray c.args.settings.now extent seen _ c.in_ok-journal.journal c.in_ok-journal.entries _ c.in_ok-journal.ensures.size.0 found.0 found.1 c.in_err-gather.ensures.refused);
      complete = rw (p.1, p.2) (λ seen entries sees image_has calm size.
          let found = c.in_ok-journal.ensures.recovered seen sees in
          fails_alone c.args.settings.now extent seen _ entries _
          (refuses_stray c.args.settings.now extent seen _ c.in_ok-journal.journal c.in_ok-journal.entries _ c.in_ok-journal.ensures.size.0 found.0 found.1 c.in_err-gather.ensures.refused)
          image_has calm size);
      small = rw (p.1, p.2) (small_entries c.args.settings.now c.in_ok-journal.journal c.in_ok-journal.entries extent _ c.in_err-gather.ensures.refused);
      unwritten = rw (p.1, p.2) (λ seen other rests. inr (c.in_ok-journal.entries, (c.in_ok-journal.ensures.recovered seen (sees_at_rest _ seen rests)).0));
      extent = c.in_ok-journal.ensures.extent;
      cause = rw (p.1, p.2) (caused_entries JournalValue c.args.settings.now c.in_ok-journal.journal c.in_ok-journal.entries _ _ _ c.in_err-gather.ensures.refused c.in_ok-journal.ensures.cause);
      beside = c.in_ok-journal.ensures.beside;
    }

pub gather-requires-clause-used : goal.gather-requires-clause-used
gather-requires-clause-used g c = c.in_ok-journal.ensures.count

-- ---- and where they are

pub returns : goal.returns
returns g c = record {
  moments = c.in_ok-journal.ensures.moments;
  recovered = record {
    entries = c.in_ok-journal.entries;
    each = c.in_ok-journal.ensures.each;
    represents = represents_begun
        c.args.settings.now
        c.in_ok-journal.entries
        c.args.at
        (record { registry = c.gather.new.gathering.tables; journal = c.in_ok-journal.journal })
        c.in_ok-gather.ensures.ready
        c.in_ok-journal.ensures.count
        c.in_ok-journal.ensures.size.0
        c.requires.fewer;
    time = c.in_ok-gather.ensures.ready.time;
    stored = λ seen sees. (c.in_ok-journal.ensures.recovered seen sees).0;
    rests = λ seen sees. (c.in_ok-journal.ensures.recovered seen sees).1;
  };
  room = c.in_ok-gather.ensures.ready.room;
  size = c.in_ok-journal.ensures.size;
  refused = tt;
  complete = tt;
  small = tt;
  unwritten = tt;
  extent = c.in_ok-journal.ensures.extent;
  cause = c.in_ok-journal.ensures.cause;
  beside = c.in_ok-journal.ensures.beside;
}
