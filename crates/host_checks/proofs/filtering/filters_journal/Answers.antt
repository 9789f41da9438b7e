use Rattle.std.proofs.Common.{ℕ, refl, sym, subst}
use Rattle.slot_store.specs.Gates.{Sees}
use Rattle.slot_store.proofs.OpenLemmas.{if_ok_as}
use Rattle.host_checks.specs.Filters.{ReportsFilters}
use Rattle.host_checks.proofs.filtering.filters_journal.Goals as goal

pub returns-in-Err : goal.returns-in-Err
returns-in-Err g c = record {
  told = if_ok_as c.refused.result _
      (λ told. (seen : ℕ → ℕ) → Sees (g.D.Disk.media c.args.disk.now) seen
      → ReportsFilters c.args.form c.args.settings.now c.args.now (g.D.Disk.extent c.args.disk.now) seen (g.D.Disk.media c.text_at.new.disk) told)
      (λ told is seen sees.
      subst (ReportsFilters c.args.form c.args.settings.now c.args.now (g.D.Disk.extent c.args.disk.now) seen (g.D.Disk.media c.text_at.new.disk)) (sym is)
      (record { fault = c.in-Err.fault; is_told = refl; cause = c.in-Err.ensures.refused seen sees; only = λ entries has calm room. c.in-Err.ensures.complete seen entries sees has calm room }))
      c.refused.ensures;
  extent = c.in-Err.ensures.extent;
}
