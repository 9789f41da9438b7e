-- What is shown by the tables is what is shown by the history.
use Rattle.std.proofs.Common.{◌≡◌, ℕ, List, map}
use Rattle.dots_history.specs.declared.entry.Entry.{Entry}
use Rattle.dots_history.specs.Histories.{held}
use Rattle.dots_history.specs.Rows.{is_lost_in}
use Rattle.conflict_rules.specs.LiveViews.{LiveView}
use Rattle.held_resources.specs.Tables.{Tables, Represents, lost_in}
use Rattle.conflict_rules.proofs.Alone.{views_by}
use Rattle.held_resources.proofs.HistoryTables.{lost_is}
use Rattle.conflict_rules.specs.Statuses.{view_with}

pub views_so : (tables : Tables) (entries : List Entry) (domain : ℕ) (views : List LiveView) → Represents tables entries
    → map (view_with (lost_in tables) domain) views ≡ map (view_with (is_lost_in (held entries)) domain) views
views_so tables entries domain views represents =
    views_by (lost_in tables) (is_lost_in (held entries)) domain views (λ peer. lost_is tables (held entries) represents peer domain)
