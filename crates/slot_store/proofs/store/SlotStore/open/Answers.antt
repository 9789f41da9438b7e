use Rattle.std.proofs.Common.{refl, ◌∙◌, arith}
use Rattle.std.proofs.lemmas.Result.{err_from_is_err_and}
use Rattle.slot_store.specs.Layout.{HasRecords}
use Rattle.slot_store.proofs.Steps.{begins}
use Rattle.slot_store.proofs.DiskReading.{sees_at_rest, rests_unchanged}
use Rattle.slot_store.proofs.OpenLemmas.{disk_refuses, other_size}
use Rattle.slot_store.proofs.Counting.{opened_reads, opened_is_there, opened_in_format, opened_known}
use Rattle.slot_store.proofs.store.SlotStore.open.Goals as goal

pub returns-then-found-needed : goal.returns-then-found-needed
returns-then-found-needed g c = record {
  moments = λ seen format records rests image_has. begins _ (λ image. HasRecords c.args.slots c.args.digest.now format image records);
  opened = tt;
  format = tt;
  size = tt;
  known = tt;
  refused = λ seen sees. (c.needed_of-needed.ensures, c.size-found.ensures, c.if-found-needed.true);
  small = (c.needed_of-needed.ensures, c.size-found.ensures, c.if-found-needed.true);
  unwritten = λ seen other rests. rests;
  extent = refl;
  cause = refl;
  beside = g.met.D.Disk.beside_same _;
}

pub returns-in_default : goal.returns-in_default
returns-in_default g c = record {
  moments = λ seen format records rests image_has. begins _ (λ image. HasRecords c.args.slots c.args.digest.now format image records);
  opened = tt;
  format = tt;
  size = tt;
  known = tt;
  refused = λ seen sees. tt;
  small = tt;
  unwritten = λ seen other rests. rests;
  extent = refl;
  cause = refl;
  beside = g.met.D.Disk.beside_same _;
}

pub returns-in_err-in_use : goal.returns-in_err-in_use
returns-in_err-in_use g c =
    let p = err_from_is_err_and c.from_residual.result c.from_residual.ensures.1 in
    record {
      moments = c.in_err-in_use.ensures.moments;
      opened = rw p.1 tt;
      format = rw p.1 tt;
      size = rw p.1 tt;
      known = rw p.1 tt;
      refused = rw (p.1, p.2) (λ seen sees. disk_refuses c.args.slots c.args.digest.now (g.D.Disk.extent c.args.disk.now) seen _ (c.in_err-in_use.ensures.refused seen sees));
      small = rw (p.1, p.2) (other_size c.args.slots (g.D.Disk.extent c.args.disk.now) _ c.in_err-in_use.ensures.sized);
      unwritten = rw (p.1, p.2) c.in_err-in_use.ensures.unwritten;
      extent = c.in_err-in_use.ensures.extent;
      cause = rw (p.1, p.2) c.in_err-in_use.ensures.cause;
      beside = c.in_err-in_use.ensures.beside;
    }

pub returns-in_err-used : goal.returns-in_err-used
returns-in_err-used g c =
    let p = err_from_is_err_and c.from_residual-in_err-used.result c.from_residual-in_err-used.ensures.1 in
    let same = c.in_ok-in_use.ensures.cause in
    let rose = rw c.in_err-used.ensures.fault at c.in_err-used.ensures.cause in
    record {
      moments = λ seen format records rests image_has.
          opened_reads _ _ _ c.args.slots c.args.digest.now seen c.in_ok-in_use.in_use.selector c.in_ok-in_use.in_use.format format records (c.in_ok-in_use.ensures.moments seen format records rests image_has) (c.in_ok-in_use.ensures.opened seen (sees_at_rest _ seen rests)) image_has c.in_err-used.ensures.keeps;
      opened = rw p.1 tt;
      format = rw p.1 tt;
      size = rw p.1 tt;
      known = rw p.1 tt;
      refused = rw (p.1, p.2, c.in_err-used.ensures.fault) (λ seen sees. tt);
      small = rw (p.1, p.2, c.in_err-used.ensures.fault) tt;
      unwritten = rw (p.1, p.2, c.in_err-used.ensures.fault) (λ seen other rests. absurd (other refl));
      extent = c.in_err-used.ensures.extent ∙ c.in_ok-in_use.ensures.extent;
      cause = rw (p.1, p.2, c.in_err-used.ensures.fault) (omega (arith, same, rose));
      beside = g.met.D.Disk.beside_then _ _ _ c.in_ok-in_use.ensures.beside c.in_err-used.ensures.beside;
    }

pub returns : goal.returns
returns g c =
    let needed = c.needed_of-needed.ensures in
    let found = c.size-found.ensures in
    let large = c.if-found-needed.false in
    let extent = c.in_ok-used.ensures.extent ∙ c.in_ok-in_use.ensures.extent in
    record {
      moments = λ seen format records rests image_has.
          opened_reads _ _ _ c.args.slots c.args.digest.now seen c.in_ok-in_use.in_use.selector c.in_ok-in_use.in_use.format format records (c.in_ok-in_use.ensures.moments seen format records rests image_has) (c.in_ok-in_use.ensures.opened seen (sees_at_rest _ seen rests)) image_has c.in_ok-used.ensures.keeps;
      opened = λ seen format records sees image_has.
          rests_unchanged _ _ _ c.in_ok-used.ensures.keeps (opened_is_there _ c.args.slots c.args.digest.now seen c.in_ok-in_use.in_use.selector c.in_ok-in_use.in_use.format format c.in_ok-used.used records (c.in_ok-in_use.ensures.opened seen sees) image_has c.in_ok-used.ensures.count);
      format = λ seen format records sees image_has. opened_in_format _ c.args.slots c.args.digest.now seen c.in_ok-in_use.in_use.selector c.in_ok-in_use.in_use.format format records (c.in_ok-in_use.ensures.opened seen sees) image_has;
      size = (refl, omega (arith, needed, found, large, extent));
      known = λ seen sees.
          rests_unchanged _ _ _ c.in_ok-used.ensures.keeps (opened_known _ c.args.slots c.args.digest.now seen c.in_ok-in_use.in_use.selector c.in_ok-in_use.in_use.format c.in_ok-used.used (c.in_ok-in_use.ensures.opened seen sees) c.in_ok-used.ensures.count);
      refused = tt;
      small = tt;
      unwritten = tt;
      extent = extent;
      cause = c.in_ok-used.ensures.cause ∙ c.in_ok-in_use.ensures.cause;
      beside = g.met.D.Disk.beside_then _ _ _ c.in_ok-in_use.ensures.beside c.in_ok-used.ensures.beside;
    }
