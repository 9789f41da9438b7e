use Rattle.std.proofs.Common.{arith, ◌≡◌, ◌∙◌, ap, length}
use Rattle.std.proofs.lemmas.Result.{err_from_is_err_and}
use Rattle.dots_host.specs.Media.{bytes_at}
use Rattle.slot_store.specs.Opening.{Is}
use Rattle.slot_store.proofs.DiskReading.{reads_none, reads_more, reads_lost, rests_unchanged, sees_at_rest, bytes_seen}
use Rattle.slot_store.proofs.OpenLemmas.{sync_lost, sync_left, sync_rests, sync_reads}
use Rattle.slot_store.proofs.formatting.read_header.Goals as goal

pub returns-in_err-sync : goal.returns-in_err-sync
returns-in_err-sync g c =
    let p = err_from_is_err_and c.from_residual.result c.from_residual.ensures.1 in
    record {
      moments = λ seen rests. sync_lost _ _ seen rests c.in_err-sync.ensures.err;
      rests = rw p.1 tt;
      bytes = rw p.1 tt;
      extent = c.in_err-sync.ensures.extent;
      cause = record { later = c.in_err-sync.ensures.cause.later; same = rw p.1 tt; rose = rw p.1 c.in_err-sync.ensures.cause.rose };
      beside = c.in_err-sync.ensures.beside;
    }

pub returns-in_err-read : goal.returns-in_err-read
returns-in_err-read g c =
    let p = err_from_is_err_and c.from_residual-in_err-read.result c.from_residual-in_err-read.ensures.1 in
    let same = c.in_ok-sync.ensures.cause.same in
    let later = c.in_err-read.ensures.cause.later in
    let rose = c.in_err-read.ensures.cause.rose in
    record {
      moments = λ seen rests.
          sync_reads _ _ _ seen (sync_left _ _ seen rests c.in_ok-sync.ensures.ok) (reads_lost _ _ _ (reads_none _) c.in_err-read.ensures.err) (sync_rests _ _ seen (sees_at_rest _ seen rests) c.in_ok-sync.ensures.ok);
      rests = rw p.1 tt;
      bytes = rw p.1 tt;
      extent = c.in_err-read.ensures.extent ∙ c.in_ok-sync.ensures.extent;
      cause = record { later = omega (arith, same, later); same = rw p.1 tt; rose = rw p.1 (omega (arith, same, rose)) };
      beside = g.met.D.Disk.beside_then _ _ _ c.in_ok-sync.ensures.beside c.in_err-read.ensures.beside;
    }

pub returns : goal.returns
returns g c =
    let same = c.in_ok-read.ensures.cause.same ∙ c.in_ok-sync.ensures.cause.same in
    let size : length c.args.found.now ≡ 64 = omega arith in
    record {
      moments = λ seen rests.
          sync_reads _ _ _ seen (sync_left _ _ seen rests c.in_ok-sync.ensures.ok) (reads_more _ _ _ (reads_none _) c.in_ok-read.ensures.ok) (sync_rests _ _ seen (sees_at_rest _ seen rests) c.in_ok-sync.ensures.ok);
      rests = λ seen sees. rests_unchanged _ _ (Is seen) (reads_more _ _ _ (reads_none _) c.in_ok-read.ensures.ok) (sync_rests _ _ seen sees c.in_ok-sync.ensures.ok);
      bytes = λ seen sees.
          bytes_seen _ seen 0 (length c.args.found.now) _ c.in_ok-read.ensures.bytes (sees_at_rest _ seen (sync_rests _ _ seen sees c.in_ok-sync.ensures.ok)) ∙ ap (bytes_at seen 0) size;
      extent = c.in_ok-read.ensures.extent ∙ c.in_ok-sync.ensures.extent;
      cause = record { later = omega (arith, same); same = same; rose = tt };
      beside = g.met.D.Disk.beside_then _ _ _ c.in_ok-sync.ensures.beside c.in_ok-read.ensures.beside;
    }
