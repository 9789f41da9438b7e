use Rattle.std.proofs.Common.{inl, refl, sym, subst}
use Rattle.std.proofs.lemmas.Result.{err_from_is_err_and}
use Rattle.slot_store.proofs.Steps.{begins}
use Rattle.slot_journal.specs.DiskEntries.{HasEntries}
use Rattle.dots_registry.specs.Kept.{filed}
use Rattle.dots_registry.specs.RegistryValues.{RegistryValue, IsOf}
use Rattle.dots_registry.specs.LedgerValues.{Represents}
use Rattle.dots_registry.specs.Beginning.{HasBegun}
use Rattle.dots_registry.proofs.ledger.Ledger.begin.Goals as goal

-- ---- before the disk is touched

pub returns-in_err-keep : goal.returns-in_err-keep
returns-in_err-keep g c =
    let p = err_from_is_err_and c.from_residual.result c.from_residual.ensures.1 in
    record {
      moments = λ seen entries rests image_has. begins (g.D.Disk.media c.args.disk.now) (λ image. HasEntries c.args.settings.now image entries);
      recovered = rw p.1 tt;
      size = rw p.1 tt;
      refused = rw (p.1, p.2) (λ seen sees. tt);
      complete = rw (p.1, p.2) (λ seen entries sees image_has calm size. tt);
      small = rw (p.1, p.2) tt;
      unwritten = rw p.1 (λ seen other rests. inl rests);
      extent = refl;
      cause = rw (p.1, p.2) refl;
      beside = g.met.D.Disk.beside_same _;
    }

pub returns-in_err-gathering : goal.returns-in_err-gathering
returns-in_err-gathering g c =
    let p = err_from_is_err_and c.from_residual-in_err-gathering.result c.from_residual-in_err-gathering.ensures.1 in
    record {
      moments = λ seen entries rests image_has. begins (g.D.Disk.media c.args.disk.now) (λ image. HasEntries c.args.settings.now image entries);
      recovered = rw p.1 tt;
      size = rw p.1 tt;
      refused = rw (p.1, p.2) (λ seen sees. tt);
      complete = rw (p.1, p.2) (λ seen entries sees image_has calm size. tt);
      small = rw (p.1, p.2) tt;
      unwritten = rw p.1 (λ seen other rests. inl rests);
      extent = refl;
      cause = rw (p.1, p.2) refl;
      beside = g.met.D.Disk.beside_same _;
    }

-- ---- with the tables

pub fill-requires : goal.fill-requires
fill-requires g c = record {
  early = c.requires.early;
  first = c.in_ok-gathering.ensures;
  fewer = c.keep_list.ensures.fewer;
}

pub returns-in-Err : goal.returns-in-Err
returns-in-Err g c = record {
  moments = c.in-Err.ensures.moments;
  recovered = tt;
  size = tt;
  refused = rw c.give_up.ensures c.in-Err.ensures.refused;
  complete = rw c.give_up.ensures c.in-Err.ensures.complete;
  small = rw c.give_up.ensures c.in-Err.ensures.small;
  unwritten = rw c.give_up.ensures c.in-Err.ensures.unwritten;
  extent = c.in-Err.ensures.extent;
  cause = rw c.give_up.ensures c.in-Err.ensures.cause;
  beside = c.in-Err.ensures.beside;
}

pub into_registry-requires : goal.into_registry-requires
into_registry-requires g c =
    let begun = c.in-Ok.ensures.recovered in
    record { filed = filed begun.entries; represents = begun.represents.represents_filed; room = c.in-Ok.ensures.room }

pub returns-in-Ok : goal.returns-in-Ok
returns-in-Ok g c = record {
  moments = c.in-Ok.ensures.moments;
  recovered = subst
      (λ (r : RegistryValue). HasBegun c.args.settings.now c.args.at (g.D.Disk.media c.args.disk.now) (g.D.Disk.media c.fill.new.disk) (record { registry = r; journal = c.in-Ok.journal }))
      (sym c.into_registry.ensures)
      c.in-Ok.ensures.recovered;
  size = c.in-Ok.ensures.size;
  refused = tt;
  complete = tt;
  small = tt;
  unwritten = tt;
  extent = c.in-Ok.ensures.extent;
  cause = c.in-Ok.ensures.cause;
  beside = c.in-Ok.ensures.beside;
}

pub invariant_of-result : goal.invariant_of-result
invariant_of-result g c =
    let begun = c.in-Ok.ensures.recovered in (
      record {
        settings = c.args.settings.now;
        history = begun.entries;
        entries = begun.entries;
        represents = subst
            (λ (r : RegistryValue). Represents (record { registry = r; journal = c.in-Ok.journal }) c.args.settings.now begun.entries begun.entries)
            (sym c.into_registry.ensures)
            begun.represents;
      },
      c.in_ok-keep.ensures.room c.into_registry.result (subst (IsOf c.args.settings.now) (sym c.into_registry.ensures) begun.represents.is_of),
    )
