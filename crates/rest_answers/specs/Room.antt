-- What a history has that takes whatever the rules accept.
use Rattle.std.specs.Prelude.{◌≡◌, ℕ, ◌≤◌, true, List}
use Rattle.dots_settings.specs.declared.limits.Limits.{Limits}
use Rattle.dots_history.specs.declared.entry.Entry.{Entry}
use Rattle.dots_history.specs.Histories.{mitigations, held}
use Rattle.dots_history.specs.Fits.{last_time, keeps_room}

-- Its last entry isn't after the time; and in what it comes to then each domain and each client, that of any entry, keeps the capacities.
pub record KeepsRoom (limits : Limits) (t : ℕ) (history : List Entry) : Type 0 where
  pub last : last_time history ≤ t
  pub room : (e : Entry) → keeps_room limits e (mitigations t history) (held history) ≡ true
