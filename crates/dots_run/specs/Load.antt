-- What is told of a generated run.
use Rattle.std.specs.Prelude.{◌≡◌, ℕ, List, [], ◌∷◌, ◌++◌, length, filter, Result, Ok, Err, ⊤}
use Rattle.dots_host.specs.declared.event.Event.TheVariants as event
use Rattle.dots_host.specs.Acts.{Timed}
use Rattle.dots_host.specs.Runs.{resting, EndsBy}
use Rattle.dots_settings.specs.Settings.{SettingsValue}
use Rattle.dots_settings.specs.File.{SettingsAre}
use Rattle.dots_history.specs.Rows.{plain_rows}
use Rattle.dots_machine.specs.Machine.{State, begun_from}
use Rattle.dots_machine.specs.Surviving.{Story}
use Rattle.dots_load.specs.Domains.{settings_text}
use Rattle.dots_load.specs.Events.{load_events}
use Rattle.dots_load.specs.Report.{coming_in, NoneUnavailable, load_text}
use Rattle.dots_script.specs.declared.checked.Checked.{Checked}
use Rattle.dots_script.specs.declared.checked.Checked.TheVariants as checked
use Rattle.dots_script.specs.declared.checked.Unchecked.{Unchecked}
use Rattle.dots_script.specs.declared.checked.Unchecked.TheVariants as unchecked

-- how many rows of mitigations filter in a state
abbrev pub rows_of : State → ℕ
rows_of state = length (filter (λ row. row.active) (plain_rows state.time state.history))

-- The acts are a run of the machine, with the settings of a generated run and from an empty disk, to End, where so many rows filter.
pub record RunsToEnd (acts : List Timed) (rows : ℕ) : Type 0 where
  pub settings : SettingsValue
  pub are : SettingsAre settings_text settings
  pub trace : List State
  pub end : State
  pub run : Story settings (resting (begun_from settings [])) acts trace (resting end)
  pub ends : EndsBy event.End acts
  pub rows_are : rows ≡ rows_of end

-- The text is the report of a run of the machine, with the settings of a generated run and from an empty disk, over the events of a seed, to
-- each of which it replied without a 5.00, and then End.
pub record LoadReported (seed : ℕ) (text : List ℕ) : Type 0 where
  pub settings : SettingsValue
  pub are : SettingsAre settings_text settings
  pub acts : List Timed
  pub trace : List State
  pub end : State
  pub run : Story settings (resting (begun_from settings [])) acts trace (resting end)
  pub events : coming_in acts ≡ load_events seed ++ (record { event = event.End; at = 0 }) ∷ []
  pub served : NoneUnavailable acts
  pub text_is : text ≡ load_text acts (rows_of end)

-- what is told of the generated run of a seed: there is no fault
abbrev pub ReportsLoad : ℕ → Checked → Type 0
ReportsLoad seed (checked.Good text) = LoadReported seed text
ReportsLoad seed (checked.AtFault text) = ⊥

-- what is found of it, or nothing for want of memory
abbrev pub FindsLoad : ℕ → Result Checked Unchecked → Type 0
FindsLoad seed (Ok found) = ReportsLoad seed found
FindsLoad seed (Err unchecked.NoMemory) = ⊤
FindsLoad seed (Err unchecked.ReadFailed) = ⊥
