-- The filters that are shown at a time, and what tells them from others.
use Rattle.std.specs.Prelude.{◌≡◌, ℕ, ◌+◌, ◌-◌, ◌^◌, min, Bool, ◌&&◌, bytes_eq, List, ◌++◌, map, Option, Some, None}
use Rattle.dots_settings.specs.Settings.{SettingsValue}
use Rattle.dots_history.specs.declared.entry.Entry.{Entry}
use Rattle.dots_machine.specs.Machine.{afresh}
use Rattle.dots_machine.specs.Report.{report_of}
use Rattle.host_checks.specs.declared.filtering.FilterForm.{FilterForm}
use Rattle.host_checks.specs.declared.filtering.FilterForm.TheVariants as form
use Rattle.host_checks.specs.declared.shown.Shown.{Shown}
use Rattle.host_checks.specs.Ends.{TimedScrub, TimedAcl, timed_scrubs, timed_acls}

-- the greatest second
abbrev pub last_second : ℕ
last_second = 2 ^ 64 - 1

-- the second at which a filter is over of which so much is left at this one, and the greatest for one that has no end
abbrev pub end_at : ℕ → Option ℕ → ℕ
end_at t None = last_second
end_at t (Some left) = min (t + left) last_second

abbrev pub row_ends : ℕ → List TimedScrub → List ℕ
row_ends t timed = map (λ (one : TimedScrub). end_at t one.left) timed

abbrev pub list_ends : ℕ → List TimedAcl → List ℕ
list_ends t timed = map (λ (one : TimedAcl). end_at t one.left) timed

-- when the filters of these entries are over: the rows of mitigations, and behind them the access lists
abbrev pub ends_at : SettingsValue → ℕ → List Entry → List ℕ
ends_at settings t entries = row_ends t (timed_scrubs settings t entries) ++ list_ends t (timed_acls settings t entries)

-- the filters of these entries at a time
pub record AreShown (settings : SettingsValue) (t : ℕ) (entries : List Entry) (shown : Shown) : Type 0 where
  pub report : shown.report ≡ report_of settings (afresh settings entries t)
  pub ends : shown.ends ≡ ends_at settings t entries

-- both have the same filters, in this form: a script says when they are over, and a report doesn't
abbrev pub same_filters : FilterForm → Shown → Shown → Bool
same_filters form.Report shown other = bytes_eq shown.report other.report
same_filters form.Script shown other = bytes_eq shown.report other.report && bytes_eq shown.ends other.ends
