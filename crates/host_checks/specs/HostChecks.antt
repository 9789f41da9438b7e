-- What is told of a host file that is used with some settings, and of its journal; or the first fault of its lines.
use Rattle.std.specs.Prelude.{◌≡◌, ◌≢◌, ◌⊎◌, ℕ, ◌-◌, ◌<◌, ◌≤◌, true, false, ◌&&◌, Bool, List, ◌++◌, length, codes, decimal, take, drop, Some, ⊤}
use Rattle.dots_lists.specs.Lines.{lines_of, fields_of}
use Rattle.dots_settings.specs.Settings.{SettingsValue}
use Rattle.dots_settings.specs.File.{SettingsAre, SettingsFail}
use Rattle.dots_settings.specs.declared.fault.SettingsFault.{SettingsFault}
use Rattle.dots_edge.specs.HostLine.{LineValue}
use Rattle.dots_edge.specs.HostFile.{Stand, IsRefused}
use Rattle.dots_edge.specs.Complaints.{JudgesFault}
use Rattle.dots_edge.specs.FaultText.{fault_text}
use Rattle.dots_edge.specs.declared.complaint.Complaint.{Complaint}
use Rattle.dots_edge.specs.declared.host_fault.HostFault.{HostFault}
use Rattle.dots_edge.specs.declared.host_fault.HostFault.TheVariants as fault
use Rattle.dots_script.specs.declared.checked.Checked.{Checked}
use Rattle.dots_script.specs.declared.checked.Checked.TheVariants as checked
use Rattle.dots_script.specs.Checks.{ChecksSettings, quoted_part, line_in}
use Rattle.dots_script.specs.Quoting.{quoted}
use Rattle.host_checks.specs.declared.journal_state.JournalState.{JournalState}
use Rattle.host_checks.specs.declared.files.Task.{Task}
use Rattle.host_checks.specs.declared.files.Task.TheVariants as task
use Rattle.host_checks.specs.Findings.{findings, is_startable}
use Rattle.host_checks.specs.Journals.{journal_text, is_fit}
use Rattle.host_checks.specs.Reasons.{reason_words}

-- the line of this number
abbrev pub line_at : List ℕ → ℕ → List ℕ
line_at file number = line_in (drop (number - 1) (lines_of file))

-- the number of the line at fault; 0 where none is
abbrev pub number_of : HostFault → ℕ
number_of (fault.Line n) = n
number_of (fault.Twice n) = n
number_of (fault.Many n) = n
number_of (fault.Wildcard n) = n
number_of fault.NoMemory = 0

-- the line of the fault, and one that says why, as `line N: why: "field"`
abbrev pub report_of : HostFault → Complaint → List ℕ → List ℕ
report_of why complaint line =
    fault_text why ++ codes "\nline " ++ decimal (number_of why) ++ codes ": " ++ reason_words complaint.reason ++ codes ": "
    ++ quoted (quoted_part complaint.field line (fields_of line)) ++ codes "\n"

-- the file has this fault, and this is the report of it
pub record IsAtFault (file text : List ℕ) : Type 0 where
  pub why : HostFault
  pub no_want : why ≢ fault.NoMemory
  pub refused : IsRefused file why
  pub complaint : Complaint
  pub judged : JudgesFault why (line_at file (number_of why)) (Some complaint)
  pub is : text ≡ report_of why complaint (line_at file (number_of why))

-- the lines of the file say something, and this is what is to be said of them, and of the journal at this second
pub record IsSaidOf (settings : SettingsValue) (now : ℕ) (state : JournalState) (file text : List ℕ) (startable : Bool) : Type 0 where
  pub said : List LineValue
  pub stand : Stand (lines_of file) said
  pub is : text ≡ findings settings said ++ journal_text now state
  pub starts : (is_startable settings said && is_fit now state) ≡ startable

-- A server starts with the file, or it doesn't.
abbrev pub ChecksHost : SettingsValue → ℕ → JournalState → List ℕ → Checked → Type 0
ChecksHost settings now state file (checked.Good text) = IsSaidOf settings now state file text true
ChecksHost settings now state file (checked.AtFault text) = IsSaidOf settings now state file text false

-- ---- both files

-- how many bytes a host file may have
abbrev pub max_host_file : ℕ
max_host_file = 65536

abbrev pub too_long : List ℕ
too_long = codes "fault 6: the host file has more than 65536 bytes\n"

-- What is to be said of its lines and of the journal, as that was found at some second.
abbrev pub ReportsChecked : SettingsValue → List ℕ → Checked → Type 0
ReportsChecked settings file told = (now : ℕ) × (state : JournalState) × ChecksHost settings now state file told

-- Where neither file has a fault, that; or what was found in the journal, of which the bytes of the two files say nothing.
abbrev pub ReportsTask : Task → SettingsValue → List ℕ → Checked → Type 0
ReportsTask task.Check settings file told = ReportsChecked settings file told
ReportsTask task.List settings file told = ⊤
ReportsTask (task.Filters form) settings file told = ⊤

-- What is told of the host file: that it is too long, or the report of its first fault, or what there is to be told.
abbrev pub ReportsHost : Task → SettingsValue → List ℕ → Checked → Type 0
ReportsHost asked settings file told =
    ((max_host_file < length file) × (told ≡ checked.AtFault too_long))
    ⊎ (((text : List ℕ) × (told ≡ checked.AtFault text) × IsAtFault file text)
    ⊎ ((length file ≤ max_host_file) × ((said : List LineValue) × Stand (lines_of file) said) × ReportsTask asked settings file told))

-- what is read of a file: one byte more than it may have, so that it is seen to be too long
abbrev pub front_of : List ℕ → List ℕ
front_of file = take 65537 file

-- The settings file is at fault, and this is the report of its first fault; or it gives settings, and this is told of the host file beside them.
abbrev pub ChecksFiles : Task → List ℕ → List ℕ → Checked → Type 0
ChecksFiles asked file host told =
    ((why : SettingsFault) × SettingsFail file why × ChecksSettings file told)
    ⊎ ((settings : SettingsValue) × SettingsAre file settings × ReportsHost asked settings host told)
