-- How a migration ends by what three files say: the old settings, the new ones, and the host file.
use Rattle.std.specs.Prelude.{◌≡◌, ◌⊎◌, ◌<◌, ◌≤◌, ℕ, Bool, true, false, List, ◌++◌, length, codes, Result, Ok, Err}
use Rattle.dots_lists.specs.Lines.{lines_of}
use Rattle.dots_settings.specs.Settings.{SettingsValue}
use Rattle.dots_settings.specs.File.{SettingsAre, SettingsFail}
use Rattle.dots_settings.specs.declared.fault.SettingsFault.{SettingsFault}
use Rattle.dots_edge.specs.HostLine.{LineValue}
use Rattle.dots_edge.specs.HostFile.{Stand}
use Rattle.dots_script.specs.declared.checked.Checked.{Checked}
use Rattle.dots_script.specs.declared.checked.Checked.TheVariants as checked
use Rattle.dots_script.specs.Checks.{ChecksSettings}
use Rattle.slot_journal.specs.declared.fault.JournalFault.{JournalFault}
use Rattle.slot_journal.specs.declared.fault.JournalFault.TheVariants as fault
use Rattle.host_checks.specs.HostChecks.{IsAtFault, max_host_file, too_long}
use Rattle.host_checks.specs.declared.made_journal.MadeJournal.{MadeJournal}
use Rattle.host_checks.specs.declared.made_journal.MakeFault.{MakeFault}
use Rattle.host_checks.specs.declared.made_journal.MakeFault.TheVariants as make
use Rattle.host_checks.specs.declared.moving_files.MigrateEnd.{MigrateEnd}
use Rattle.host_checks.specs.declared.moving_files.MigrateEnd.TheVariants as end

-- ---- by the three files

-- what is told of a file of settings
abbrev pub text_in : Checked → List ℕ
text_in (checked.Good text) = text
text_in (checked.AtFault text) = text

-- a file of settings has a fault, and what a check tells of it is told behind these words
pub record IsToldOf (words file text : List ℕ) : Type 0 where
  pub why : SettingsFault
  pub fails : SettingsFail file why
  pub told : Checked
  pub checks : ChecksSettings file told
  pub is : text ≡ words ++ text_in told

-- the file gives settings
abbrev pub AreSettings : List ℕ → Type 0
AreSettings file = (settings : SettingsValue) × SettingsAre file settings

abbrev pub is_of_settings : MigrateEnd → Bool
is_of_settings end.SettingsAtFault = true
is_of_settings _ = false

-- Of the host file it is told that it is too long, or its first fault, as a failure of the disk; or its lines say something, and it doesn't end
-- with a fault of the settings.
abbrev pub EndsByHost : List ℕ → MigrateEnd → List ℕ → Type 0
EndsByHost host ending text =
    ((ending ≡ end.DiskFailed) × (((max_host_file < length host) × (text ≡ too_long)) ⊎ IsAtFault host text))
    ⊎ ((length host ≤ max_host_file) × ((said : List LineValue) × Stand (lines_of host) said) × (is_of_settings ending ≡ false))

-- The new settings have a fault, which is told; or it ends by the host file.
abbrev pub EndsByNew : List ℕ → List ℕ → MigrateEnd → List ℕ → Type 0
EndsByNew new host ending text =
    ((ending ≡ end.SettingsAtFault) × IsToldOf (codes "the new settings: ") new text)
    ⊎ (AreSettings new × EndsByHost host ending text)

-- The old settings have a fault, which is told; or it ends by the new ones. So it ends with a fault of the settings just where one of both has one.
abbrev pub EndsBy : List ℕ → List ℕ → List ℕ → MigrateEnd → List ℕ → Type 0
EndsBy old new host ending text =
    ((ending ≡ end.SettingsAtFault) × IsToldOf (codes "the old settings: ") old text)
    ⊎ (AreSettings old × EndsByNew new host ending text)

-- ---- by what was made

-- how it ends where the journal is refused
abbrev pub end_of : JournalFault → MigrateEnd
end_of (fault.TooSmall needed found) = end.TooSmall
end_of (fault.NotOurs at) = end.NotOurs
end_of (fault.SettingsChanged stored given) = end.OtherSettings
end_of fault.DiskFault = end.DiskFailed
end_of fault.NoMemory = end.DiskFailed

-- How it ends by what was made, and what is told then. Where it is only to be told nothing can fail.
abbrev pub Finishes : Result MadeJournal MakeFault → Bool → MigrateEnd → List ℕ → Type 0
Finishes (Ok made) dry ending text = ((ending ≡ end.Done) × (text ≡ made.text.items)) ⊎ ((ending ≡ end.DiskFailed) × (dry ≡ false))
Finishes (Err (make.Refused why)) dry ending text = ending ≡ end_of why
Finishes (Err make.TooSmall) dry ending text = ending ≡ end.TooSmall
Finishes (Err make.NoMemory) dry ending text = ⊥
