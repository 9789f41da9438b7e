-- What a file of client settings means: settings, or the number of its first line at fault.
use Rattle.std.specs.Prelude.{◌≡◌, ℕ, ◌+◌, ◌^◌, ⊤, Bool, ◌==◌, nat_lt, if◌then◌else◌, List, [], ◌∷◌, ◌++◌, length, take, Option, Some, None, Result, Ok, Err, IfSome, ◌≤◌}
use Rattle.std.specs.Option.{option_map_or}
use Rattle.dots_lists.specs.Lines.{lines_of}
use Rattle.ask_agent.specs.declared.fault.AskSettingsFault.{AskSettingsFault}
use Rattle.ask_agent.specs.declared.fault.AskSettingsFault.TheVariants as fault
use Rattle.ask_agent.specs.declared.line.Line.{Line}
use Rattle.ask_agent.specs.declared.settings.AskSettings.{AskSettings}
use Rattle.ask_agent.specs.Lines.{line_says}
use Rattle.ask_agent.specs.SettingsSaid.{said_of, may_follow, settings_by}

-- ---- the lines

-- what is read of a file: its first 65,537 bytes, one more than it can have
abbrev pub content_of : List ℕ → List ℕ
content_of file = take (2 ^ 16 + 1) file

abbrev pub is_long : List ℕ → Bool
is_long file = nat_lt (2 ^ 16) (length file)

abbrev pub but_last : {A : Type 0} → List A → List A
but_last [] = []
but_last (x ∷ []) = []
but_last (x ∷ y ∷ xs) = x ∷ but_last (y ∷ xs)

-- the lines of a file that is too long say nothing from the byte after its 65,536th on
abbrev pub whole_lines : Bool → List (List ℕ) → List (List ℕ)
whole_lines long lines = if long then but_last lines else lines

-- ---- what they say

-- what a line says, where it may stand behind those that said this
abbrev pub fitting : List Line → Option Line → Option Line
fitting before None = None
fitting before (Some line) = if may_follow (said_of before) line then Some line else None

-- What these lines and those before them say, up to the first that can't stand.
abbrev pub said_from : List Line → List (List ℕ) → List Line
said_from before [] = before
said_from before (line ∷ lines) = option_map_or (λ more. said_from (before ++ more ∷ []) lines) (fitting before (line_says line)) before

abbrev pub said_in : List ℕ → List Line
said_in file = said_from [] (whole_lines (is_long file) (lines_of (content_of file)))

-- ---- the meaning

-- the settings, or that the line behind these is at fault
abbrev pub or_missing : ℕ → Option AskSettings → Result AskSettings ℕ
or_missing lines None = Err (lines + 1)
or_missing lines (Some settings) = Ok settings

-- Each line stands behind those before it and nothing is missing. Else the first that doesn't is at fault, or the one that isn't
-- there.
abbrev pub meaning_by : ℕ → List Line → Result AskSettings ℕ
meaning_by lines said = if length said == lines then or_missing lines (settings_by (said_of said)) else Err (length said + 1)

abbrev pub meaning : List ℕ → Result AskSettings ℕ
meaning file = meaning_by (length (lines_of (content_of file))) (said_in file)

-- ---- faults

-- A line at fault is the first one. That a file couldn't be read, or that memory ran out, is no fault of a line.
abbrev pub IsRefused : List ℕ → AskSettingsFault → Type 0
IsRefused file (fault.Line n) = meaning file ≡ Err n
IsRefused file fault.ReadFault = ⊤
IsRefused file fault.NoMemory = ⊤

-- where there are settings, or a line is refused
abbrev pub WhereJudged : Result AskSettings AskSettingsFault → Type 0 → Type 0
WhereJudged (Ok settings) P = P
WhereJudged (Err (fault.Line n)) P = P
WhereJudged (Err fault.ReadFault) P = ⊤
WhereJudged (Err fault.NoMemory) P = ⊤

-- ---- what holds of all settings

-- a client can begin with the mid
abbrev pub IsMidFit : AskSettings → Type 0
IsMidFit settings = IfSome settings.mid (λ mid. mid ≤ 3221225471)
