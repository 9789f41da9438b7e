use Rattle.std.proofs.Common.{◌≡◌, ℕ, drop}
use Rattle.std.specs.Prelude.{slice_get}
use Rattle.held_resources.specs.Tables.{lost_in}
use Rattle.live_mitigations.specs.LiveRows.{mitigations_in}
use Rattle.dots_registry.specs.ObserverViews.{seen_among}
use Rattle.dots_registry.proofs.viewing.seen_at.Given as goal

abbrev pub invariant-loop-row : goal.invariant-loop-row
invariant-loop-row l = record {
  so_far : (t : ℕ) → slice_get (seen_among (lost_in l.among.held.now) l.among.domain t l.cuid l.mid (drop l.row-index (mitigations_in l.among.rows.now))) l.before ≡ slice_get (seen_among (lost_in l.among.held.now) l.among.domain t l.cuid l.mid (mitigations_in l.among.rows.now)) l.place;
}
