-- What is told of a settings file and of a script.
use Rattle.std.specs.Prelude.{◌≡◌, ℕ, ◌+◌, ◌-◌, Bool, false, ◌==◌, List, [], ◌∷◌, ◌++◌, length, drop, codes, decimal, Option, Some, None}
use Rattle.std.specs.List.{list_any}
use Rattle.dots_settings.specs.declared.fault.SettingsFault.{SettingsFault}
use Rattle.dots_settings.specs.declared.fault.SettingsFault.TheVariants as fault
use Rattle.dots_settings.specs.FaultText.{fault_text}
use Rattle.dots_settings.specs.File.{SettingsAre, SettingsFail, is_past}
use Rattle.dots_settings.specs.Lines.{lines_of, fields_of, content_of}
use Rattle.dots_settings.specs.Settings.{SettingsValue}
use Rattle.dots_host.specs.Memory.{Coming}
use Rattle.dots_script.specs.Accounts.{AreMade, LineSays}
use Rattle.dots_script.specs.Lines.{with_feeds, IsFault}
use Rattle.dots_script.specs.declared.checked.Checked.{Checked}
use Rattle.dots_script.specs.declared.checked.Checked.TheVariants as checked
use Rattle.dots_script.specs.declared.remark.Remark.{Remark}
use Rattle.dots_script.specs.Remarks.{field_of, remark_of}
use Rattle.dots_script.specs.Quoting.{quoted}
use Rattle.dots_script.specs.Reason.{reason_text}
use Rattle.dots_script.specs.ScriptRemarks.{script_remark}
use Rattle.dots_script.specs.Summary.{count_line, summary}

-- what is quoted of a line: the field of this place, or all of it
abbrev pub quoted_part : Option ℕ → List ℕ → List (List ℕ) → List ℕ
quoted_part None line fields = line
quoted_part (Some place) line fields = field_of fields place

-- `line N: why: "field"`
abbrev pub remark_line : ℕ → Remark → List ℕ → List (List ℕ) → List ℕ
remark_line number remark line fields =
    codes "line " ++ decimal number ++ codes ": " ++ reason_text remark.reason ++ codes ": " ++ quoted (quoted_part remark.field line fields) ++ codes "\n"

-- the first of some lines, and whether the file is too long in it
abbrev pub line_in : List (List ℕ) → List ℕ
line_in [] = []
line_in (line ∷ lines) = line

abbrev pub past_in : List ℕ → List (List ℕ) → Bool
past_in content [] = false
past_in content (line ∷ lines) = is_past content lines

-- ---- settings

-- the number of the line at fault
abbrev pub number_of : SettingsFault → ℕ
number_of (fault.Line n) = n
number_of (fault.Twice n) = n
number_of (fault.Unknown n) = n
number_of (fault.Overlap a b) = b
number_of (fault.Capacity n) = n
number_of fault.ReadFault = 0
number_of fault.NoMemory = 0

-- the lines from the one of this number on
abbrev pub lines_from : List ℕ → ℕ → List (List ℕ)
lines_from content number = drop (number - 1) (lines_of content)

-- the line of the fault, and the one that says why
abbrev pub report_with : SettingsFault → List ℕ → Bool → List ℕ
report_with why line past =
    (fault_text why ++ codes "\n") ++ remark_line (number_of why) (remark_of why past (fields_of line)) line (fields_of line)

abbrev pub fault_report : List ℕ → SettingsFault → List ℕ
fault_report content why = report_with why (line_in (lines_from content (number_of why))) (past_in content (lines_from content (number_of why)))

-- The file gives settings, and this is their summary; or this is the report of its first fault.
abbrev pub ChecksSettings : List ℕ → Checked → Type 0
ChecksSettings file (checked.Good text) = (settings : SettingsValue) × SettingsAre file settings × (text ≡ summary settings)
ChecksSettings file (checked.AtFault text) = (why : SettingsFault) × SettingsFail file why × (text ≡ fault_report (content_of file) why)

-- ---- scripts

abbrev pub has_feed : List ℕ → Bool
has_feed text = list_any (λ byte. byte == 10) text

-- `script line N: "line"`, and the line that says why, of a text that begins with the line at fault
abbrev pub script_report : ℕ → List ℕ → List ℕ → List ℕ
script_report number rest line =
    codes "script line " ++ decimal number ++ codes ": " ++ quoted line ++ codes "\n"
    ++ remark_line number (script_remark (has_feed rest) line) line (fields_of line)

-- The lines of the script say so many events; or so do those before the first that is none, of which this is the report.
abbrev pub ChecksScript : List ℕ → Checked → Type 0
ChecksScript script (checked.Good text) =
    (lines : List (List ℕ)) × (said : List Coming) × (script ≡ with_feeds lines) × AreMade LineSays lines said × (text ≡ count_line (codes "events") (length said))
ChecksScript script (checked.AtFault text) =
    (lines : List (List ℕ)) × (said : List Coming) × (rest : List ℕ) × (script ≡ with_feeds lines ++ rest) × AreMade LineSays lines said × IsFault rest
    × (text ≡ script_report (length lines + 1) rest (line_in (lines_of rest)))
