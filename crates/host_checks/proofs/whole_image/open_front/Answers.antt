use Rattle.std.proofs.Common.{◌∙◌, arith}
use Rattle.std.proofs.lemmas.Result.{err_from_is_err_and}
use Rattle.slot_store.proofs.Stages.{write_lost, write_done, sync_lost, sync_done, open_lost, open_done, last_lost, last_left, last_done}
use Rattle.host_checks.proofs.whole_image.open_front.Goals as goal

pub returns-in_err-write_at : goal.returns-in_err-write_at
returns-in_err-write_at g c =
    let p = err_from_is_err_and c.from_residual.result c.from_residual.ensures.1 in
    record {
      moments = λ seen rests. write_lost _ _ seen 0 c.args.bytes.now rests c.in_err-write_at.ensures.err;
      opened = rw p.1 tt;
      extent = c.in_err-write_at.ensures.extent;
      cause = record { later = c.in_err-write_at.ensures.cause.later; same = rw p.1 tt; rose = rw p.1 c.in_err-write_at.ensures.cause.rose };
      beside = c.in_err-write_at.ensures.beside;
    }

pub returns-in_err-sync : goal.returns-in_err-sync
returns-in_err-sync g c =
    let p = err_from_is_err_and c.from_residual-in_err-sync.result c.from_residual-in_err-sync.ensures.1 in
    let same = c.in_ok-write_at.ensures.cause.same in
    let later = c.in_err-sync.ensures.cause.later in
    let rose = c.in_err-sync.ensures.cause.rose in
    record {
      moments = λ seen rests.
          let wrote = write_done _ _ seen 0 c.args.bytes.now rests c.in_ok-write_at.ensures.ok in
          sync_lost _ _ _ seen 0 c.args.bytes.now wrote c.in_err-sync.ensures.err;
      opened = rw p.1 tt;
      extent = c.in_err-sync.ensures.extent ∙ c.in_ok-write_at.ensures.extent;
      cause = record { later = omega (arith, same, later); same = rw p.1 tt; rose = rw p.1 (omega (arith, same, rose)) };
      beside = g.met.D.Disk.beside_then _ _ _ c.in_ok-write_at.ensures.beside c.in_err-sync.ensures.beside;
    }

pub returns-in_err-write_at-2 : goal.returns-in_err-write_at-2
returns-in_err-write_at-2 g c =
    let p = err_from_is_err_and c.from_residual-in_err-write_at-2.result c.from_residual-in_err-write_at-2.ensures.1 in
    let same = c.in_ok-sync.ensures.cause.same ∙ c.in_ok-write_at.ensures.cause.same in
    let later = c.in_err-write_at-2.ensures.cause.later in
    let rose = c.in_err-write_at-2.ensures.cause.rose in
    record {
      moments = λ seen rests.
          let wrote = write_done _ _ seen 0 c.args.bytes.now rests c.in_ok-write_at.ensures.ok in
          let synced = sync_done _ _ _ seen 0 c.args.bytes.now wrote c.in_ok-sync.ensures.ok in
          open_lost _ _ _ seen 0 c.args.bytes.now synced c.in_err-write_at-2.ensures.err;
      opened = rw p.1 tt;
      extent = c.in_err-write_at-2.ensures.extent ∙ c.in_ok-sync.ensures.extent ∙ c.in_ok-write_at.ensures.extent;
      cause = record { later = omega (arith, same, later); same = rw p.1 tt; rose = rw p.1 (omega (arith, same, rose)) };
      beside = g.met.D.Disk.beside_then _ _ _ (g.met.D.Disk.beside_then _ _ _ c.in_ok-write_at.ensures.beside c.in_ok-sync.ensures.beside) c.in_err-write_at-2.ensures.beside;
    }

pub returns-in_err-sync-2 : goal.returns-in_err-sync-2
returns-in_err-sync-2 g c =
    let p = err_from_is_err_and c.from_residual-in_err-sync-2.result c.from_residual-in_err-sync-2.ensures.1 in
    let same = c.in_ok-write_at-2.ensures.cause.same ∙ c.in_ok-sync.ensures.cause.same ∙ c.in_ok-write_at.ensures.cause.same in
    let later = c.in_err-sync-2.ensures.cause.later in
    let rose = c.in_err-sync-2.ensures.cause.rose in
    record {
      moments = λ seen rests.
          let wrote = write_done _ _ seen 0 c.args.bytes.now rests c.in_ok-write_at.ensures.ok in
          let synced = sync_done _ _ _ seen 0 c.args.bytes.now wrote c.in_ok-sync.ensures.ok in
          let opened = open_done _ _ _ seen 0 c.args.bytes.now synced c.in_ok-write_at-2.ensures.ok in
          last_lost _ _ _ seen 0 c.args.bytes.now opened c.in_err-sync-2.ensures.err;
      opened = rw p.1 tt;
      extent = c.in_err-sync-2.ensures.extent ∙ c.in_ok-write_at-2.ensures.extent ∙ c.in_ok-sync.ensures.extent ∙ c.in_ok-write_at.ensures.extent;
      cause = record { later = omega (arith, same, later); same = rw p.1 tt; rose = rw p.1 (omega (arith, same, rose)) };
      beside = g.met.D.Disk.beside_then _ _ _
          (g.met.D.Disk.beside_then _ _ _ (g.met.D.Disk.beside_then _ _ _ c.in_ok-write_at.ensures.beside c.in_ok-sync.ensures.beside) c.in_ok-write_at-2.ensures.beside)
          c.in_err-sync-2.ensures.beside;
    }

pub returns : goal.returns
returns g c =
    let same = c.in_ok-sync-2.ensures.cause.same ∙ c.in_ok-write_at-2.ensures.cause.same ∙ c.in_ok-sync.ensures.cause.same ∙ c.in_ok-write_at.ensures.cause.same in
    record {
      moments = λ seen rests.
          let wrote = write_done _ _ seen 0 c.args.bytes.now rests c.in_ok-write_at.ensures.ok in
          let synced = sync_done _ _ _ seen 0 c.args.bytes.now wrote c.in_ok-sync.ensures.ok in
          let opened = open_done _ _ _ seen 0 c.args.bytes.now synced c.in_ok-write_at-2.ensures.ok in
          last_left _ _ _ seen 0 c.args.bytes.now opened c.in_ok-sync-2.ensures.ok;
      opened = λ seen rests.
          let wrote = write_done _ _ seen 0 c.args.bytes.now rests c.in_ok-write_at.ensures.ok in
          let synced = sync_done _ _ _ seen 0 c.args.bytes.now wrote c.in_ok-sync.ensures.ok in
          let opened = open_done _ _ _ seen 0 c.args.bytes.now synced c.in_ok-write_at-2.ensures.ok in
          last_done _ _ _ seen 0 c.args.bytes.now rests opened c.in_ok-sync-2.ensures.ok;
      extent = c.in_ok-sync-2.ensures.extent ∙ c.in_ok-write_at-2.ensures.extent ∙ c.in_ok-sync.ensures.extent ∙ c.in_ok-write_at.ensures.extent;
      cause = record { later = omega (arith, same); same = same; rose = tt };
      beside = g.met.D.Disk.beside_then _ _ _
          (g.met.D.Disk.beside_then _ _ _ (g.met.D.Disk.beside_then _ _ _ c.in_ok-write_at.ensures.beside c.in_ok-sync.ensures.beside) c.in_ok-write_at-2.ensures.beside)
          c.in_ok-sync-2.ensures.beside;
    }
