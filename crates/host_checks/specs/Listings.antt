-- The listing of a journal.
use Rattle.std.specs.Prelude.{◌≡◌, ◌⊎◌, ℕ, Bool, true, List, ◌++◌}
use Rattle.dots_settings.specs.Settings.{SettingsValue}
use Rattle.dots_history.specs.declared.entry.Entry.{Entry}
use Rattle.slot_journal.specs.declared.fault.JournalFault.{JournalFault}
use Rattle.slot_journal.specs.DiskEntries.{HasEntries}
use Rattle.slot_journal.specs.Refused.{Refuses}
use Rattle.dots_script.specs.declared.checked.Checked.{Checked}
use Rattle.dots_script.specs.declared.checked.Checked.TheVariants as checked
use Rattle.host_checks.specs.EntryLines.{entry_lines}
use Rattle.host_checks.specs.Journals.{refused_text}

-- the lines of some entries, and behind them why a server refuses the journal
abbrev pub listed_with : SettingsValue → List Entry → JournalFault → List ℕ
listed_with settings entries why = entry_lines settings 0 entries ++ refused_text why

-- The disk of this size, which seems so, holds entries, and these are their lines; or a server refuses it, and the lines are of what could be read of it.
abbrev pub ListsJournal : SettingsValue → ℕ → (ℕ → ℕ) → Checked → Type 0
ListsJournal settings extent seen (checked.Good text) = (entries : List Entry) × HasEntries settings seen entries × (text ≡ entry_lines settings 0 entries)
ListsJournal settings extent seen (checked.AtFault text) =
    (why : JournalFault) × (entries : List Entry) × Refuses settings extent seen why × (text ≡ listed_with settings entries why)
