-- What is told of the settings of a client, without asking.
use Rattle.std.specs.Prelude.{◌≡◌, ℕ, List, ◌++◌, length, codes, Ok, Err}
use Rattle.dots_script.specs.declared.checked.Checked.{Checked}
use Rattle.dots_script.specs.declared.checked.Checked.TheVariants as checked
use Rattle.dots_script.specs.Summary.{count_line}
use Rattle.ask_agent.specs.declared.settings.AskSettings.{AskSettings}
use Rattle.ask_agent.specs.File.{meaning}
use Rattle.ask_agent.specs.Report.{refusal_line}

-- `cuid: NAME`
abbrev pub name_line : List ℕ → List ℕ
name_line name = codes "cuid: " ++ name ++ codes "\n"

-- the server, the name of the client, and how many asks there are
abbrev pub settings_lines : AskSettings → List ℕ
settings_lines settings = count_line (codes "server") settings.server ++ name_line settings.cuid ++ count_line (codes "asks") (length settings.asks)

-- The file gives settings, or a line is at fault.
abbrev pub ChecksAsk : List ℕ → Checked → Type 0
ChecksAsk file (checked.Good text) = (settings : AskSettings) × (meaning file ≡ Ok settings) × (text ≡ settings_lines settings)
ChecksAsk file (checked.AtFault text) = (line : ℕ) × (meaning file ≡ Err line) × (text ≡ refusal_line line)
