use Rattle.std.proofs.Common.{arith, ◌∙◌}
use Rattle.std.proofs.lemmas.Result.{err_from_is_err_and}
use Rattle.slot_store.proofs.SelectLemmas.{select_lost, select_written, select_unsynced, select_left, select_done}
use Rattle.slot_store.proofs.selecting.select.Goals as goal

pub returns-in_err-write_at : goal.returns-in_err-write_at
returns-in_err-write_at g c =
    let p = err_from_is_err_and c.from_residual.result c.from_residual.ensures.1 in
    record {
      moments = λ seen rests. select_lost _ _ seen rests c.in_err-write_at.ensures.err;
      selected = rw p.1 tt;
      extent = c.in_err-write_at.ensures.extent;
      cause = record { later = c.in_err-write_at.ensures.cause.later; same = rw p.1 tt; rose = rw p.1 c.in_err-write_at.ensures.cause.rose };
      beside = c.in_err-write_at.ensures.beside;
    }

pub returns-in_err-sync : goal.returns-in_err-sync
returns-in_err-sync g c =
    let p = err_from_is_err_and c.from_residual-in_err-sync.result c.from_residual-in_err-sync.ensures.1 in
    let same = c.in_ok-write_at.ensures.cause.same in
    let later = c.in_err-sync.ensures.cause.later in
    let rose = c.in_err-sync.ensures.cause.rose in
    record {
      moments = λ seen rests.
          let wrote = select_written _ _ seen c.args.selector rests c.in_ok-write_at.ensures.ok in
          select_unsynced _ _ _ seen c.args.selector wrote c.in_err-sync.ensures.err;
      selected = rw p.1 tt;
      extent = c.in_err-sync.ensures.extent ∙ c.in_ok-write_at.ensures.extent;
      cause = record { later = omega (arith, same, later); same = rw p.1 tt; rose = rw p.1 (omega (arith, same, rose)) };
      beside = g.met.D.Disk.beside_then _ _ _ c.in_ok-write_at.ensures.beside c.in_err-sync.ensures.beside;
    }

pub returns : goal.returns
returns g c =
    let same = c.in_ok-sync.ensures.cause.same ∙ c.in_ok-write_at.ensures.cause.same in
    record {
      moments = λ seen rests.
          let wrote = select_written _ _ seen c.args.selector rests c.in_ok-write_at.ensures.ok in
          select_left _ _ _ seen c.args.selector wrote c.in_ok-sync.ensures.ok;
      selected = λ seen rests.
          let wrote = select_written _ _ seen c.args.selector rests c.in_ok-write_at.ensures.ok in
          select_done _ _ _ seen c.args.selector rests wrote c.in_ok-sync.ensures.ok;
      extent = c.in_ok-sync.ensures.extent ∙ c.in_ok-write_at.ensures.extent;
      cause = record { later = omega (arith, same); same = same; rose = tt };
      beside = g.met.D.Disk.beside_then _ _ _ c.in_ok-write_at.ensures.beside c.in_ok-sync.ensures.beside;
    }
