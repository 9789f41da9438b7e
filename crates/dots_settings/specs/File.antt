-- What a settings file means: settings, or the fault of its first line that has one.
use Rattle.std.specs.Prelude.{◌≡◌, ℕ, ◌+◌, ◌^◌, ◌≤◌, ◌⊎◌, Bool, false, nat_lt, List, [], ◌∷◌, ◌++◌, length, Option, Some, None, Result, Ok, Err, ⊤}
use Rattle.std.specs.Bool.{MatchBool}
use Rattle.dots_settings.specs.declared.fault.SettingsFault.{SettingsFault}
use Rattle.dots_settings.specs.declared.fault.SettingsFault.TheVariants as fault
use Rattle.dots_settings.specs.Lines.{lines_of, is_skipped, content_of}
use Rattle.dots_settings.specs.Form.{FormValue, Says}
use Rattle.dots_settings.specs.Row.{Row, AreRows}
use Rattle.dots_settings.specs.Draft.{DraftValue, draft_of}
use Rattle.dots_settings.specs.Faults.{fault_of}
use Rattle.dots_settings.specs.Settings.{SettingsValue, settings_of}

-- none of the rows, each behind those before it, has a fault
abbrev pub AreFaultless : List Row → List Row → Type 0
AreFaultless before [] = ⊤
AreFaultless before (row ∷ rows) = (fault_of (draft_of before) row.number row.form ≡ None) × AreFaultless (before ++ row ∷ []) rows

-- the lines are skipped or have a form, and none has a fault; these are the rows among them
pub record Stand (lines : List (List ℕ)) (rows : List Row) : Type 0 where
  pub read : AreRows 1 lines rows
  pub faultless : AreFaultless [] rows

-- the file has at most 65,536 bytes, and the settings are what its rows say
pub record SettingsAre (file : List ℕ) (settings : SettingsValue) : Type 0 where
  pub rows : List Row
  pub stand : Stand (lines_of (content_of file)) rows
  pub short : length file ≤ 2 ^ 16
  pub given : settings ≡ settings_of (length (lines_of file)) rows

-- the line, which has this number and follows these rows, has none of the forms, or has a fault as it follows them
abbrev pub HasFault : List Row → ℕ → List ℕ → SettingsFault → Type 0
HasFault rows number line why =
    ((is_skipped line ≡ false) × ((form : FormValue) → ¬ (Says line form)) × (why ≡ fault.Line number))
    ⊎ ((is_skipped line ≡ false) × (form : FormValue) × Says line form × (fault_of (draft_of rows) number form ≡ Some why))

-- the byte after the 65,536th stands in the last of the lines that are read: no line is behind it
abbrev pub is_past : List ℕ → List (List ℕ) → Bool
is_past file [] = nat_lt (2 ^ 16) (length file)
is_past file (line ∷ lines) = false

-- The lines before this one stand. In it stands the byte after the 65,536th, or else it has this fault.
pub record SettingsFail (file : List ℕ) (why : SettingsFault) : Type 0 where
  pub before : List (List ℕ)
  pub line : List ℕ
  pub behind : List (List ℕ)
  pub split : lines_of (content_of file) ≡ before ++ line ∷ behind
  pub rows : List Row
  pub stand : Stand before rows
  pub at_fault : MatchBool (is_past file behind) (why ≡ fault.Capacity (length before + 1)) (HasFault rows (length before + 1) line why)

-- The first line at fault has that fault. Why a file couldn't be read, or for want of memory, is no fault of a line.
abbrev pub IsRefused : List ℕ → SettingsFault → Type 0
IsRefused file fault.ReadFault = ⊤
IsRefused file fault.NoMemory = ⊤
IsRefused file line_fault = SettingsFail file line_fault

abbrev pub IsNoLineFault : SettingsFault → Type 0
IsNoLineFault fault.ReadFault = ⊤
IsNoLineFault fault.NoMemory = ⊤
IsNoLineFault line_fault = ⊥

-- Of the file that was left, bytes were read, and these are left now: either none, or 65,537 were read.
pub record IsReadTo (file rest : List ℕ) : Type 0 where
  pub read : List ℕ
  pub split : file ≡ read ++ rest
  pub enough : (rest ≡ []) ⊎ (2 ^ 16 + 1 ≤ length read)

-- where the source tells what it has left
abbrev pub IsReadThrough : Option (List ℕ) → Option (List ℕ) → Type 0
IsReadThrough None rest = ⊤
IsReadThrough (Some file) None = ⊥
IsReadThrough (Some file) (Some rest) = IsReadTo file rest

-- where there are settings, or a line is refused
abbrev pub WhereJudged : Result SettingsValue SettingsFault → Type 0 → Type 0
WhereJudged (Ok settings) P = P
WhereJudged (Err fault.ReadFault) P = ⊤
WhereJudged (Err fault.NoMemory) P = ⊤
WhereJudged (Err line_fault) P = P

-- what all the rows of some faultless lines have said
abbrev pub IsSound : DraftValue → Type 0
IsSound draft = (rows : List Row) × (lines : List (List ℕ)) × Stand lines rows × (draft ≡ draft_of rows)
