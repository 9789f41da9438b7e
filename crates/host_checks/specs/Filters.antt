-- What is told of the filters of a journal.
use Rattle.std.specs.Prelude.{◌≡◌, ℕ, ◌≤◌, true, max, List, Option}
use Rattle.dots_host.specs.Media.{Media}
use Rattle.dots_settings.specs.Settings.{SettingsValue}
use Rattle.dots_history.specs.declared.entry.Entry.{Entry}
use Rattle.dots_history.specs.Fits.{last_time, is_calm}
use Rattle.slot_store.specs.Layout.{needed_of}
use Rattle.slot_journal.specs.declared.fault.JournalFault.{JournalFault}
use Rattle.slot_journal.specs.DiskEntries.{HasEntries}
use Rattle.slot_journal.specs.Sizes.{slots_of}
use Rattle.slot_journal.specs.Untaken.{RefusesLedger, IsFailure}
use Rattle.host_checks.specs.Ends.{IsScript}
use Rattle.dots_machine.specs.Machine.{afresh}
use Rattle.dots_machine.specs.Report.{report_of}
use Rattle.dots_script.specs.declared.checked.Checked.{Checked}
use Rattle.dots_script.specs.declared.checked.Checked.TheVariants as checked
use Rattle.host_checks.specs.declared.filtering.FilterForm.{FilterForm}
use Rattle.host_checks.specs.declared.filtering.FilterForm.TheVariants as form
use Rattle.host_checks.specs.Journals.{refused_text}

-- the filters of these entries at a time: the report that a server prints at its end, or the script for `nft -f`
abbrev pub HasForm : FilterForm → SettingsValue → ℕ → List Entry → List ℕ → Type 0
HasForm form.Report settings t entries text = text ≡ report_of settings (afresh settings entries t)
HasForm form.Script settings t entries text = IsScript settings t entries text

-- The disk of so many bytes is refused for this fault, which it has, and by which it is told. Calm entries with room for them are refused for
-- a failure alone.
pub record RefusesFilters (settings : SettingsValue) (extent : ℕ) (seen : ℕ → ℕ) (left : Option Media) (text : List ℕ) : Type 0 where
  pub fault : JournalFault
  pub is_told : text ≡ refused_text fault
  pub cause : RefusesLedger settings extent seen left fault
  pub only : (entries : List Entry) → HasEntries settings seen entries → is_calm settings entries ≡ true → needed_of (slots_of settings) ≤ extent → IsFailure fault

-- The filters that the entries of the image come to, at this second or that of the last entry; or why the journal is refused.
abbrev pub ReportsFilters : FilterForm → SettingsValue → ℕ → ℕ → (ℕ → ℕ) → Option Media → Checked → Type 0
ReportsFilters form settings now extent seen left (checked.Good text) =
    (entries : List Entry) × HasEntries settings seen entries × HasForm form settings (max now (last_time entries)) entries text
ReportsFilters form settings now extent seen left (checked.AtFault text) = RefusesFilters settings extent seen left text
