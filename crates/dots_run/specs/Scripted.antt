-- A run over a script, from text to text.
use Rattle.std.specs.Prelude.{◌≡◌, ◌^◌, List, ℕ, [], Option, Some, IfSome}
use Rattle.dots_host.specs.Acts.{Timed}
use Rattle.dots_host.specs.Runs.{Owing}
use Rattle.dots_host.specs.Writing.{AppendsBeginning}
use Rattle.dots_host.specs.Media.{blank}
use Rattle.dots_host.specs.Logged.{media_since, acts_told}
use Rattle.coap_block.specs.Blocks.{Blocks}
use Rattle.coap_block.specs.Around.{AreSeen, no_blocks}
use Rattle.dots_script.specs.Accounts.{Outer, Accounts}
use Rattle.dots_script.specs.Scripting.{Scripting}
use Rattle.dots_settings.specs.Settings.{SettingsValue}
use Rattle.dots_settings.specs.File.{SettingsAre}
use Rattle.dots_machine.specs.declared.ending.Ending.{Ending}
use Rattle.dots_machine.specs.declared.ending.Ending.TheVariants as ending
use Rattle.dots_machine.specs.declared.ending.Stop.{Stop}
use Rattle.dots_machine.specs.declared.ending.Stop.TheVariants as stop
use Rattle.dots_machine.specs.Machine.{State, begun_from}
use Rattle.dots_machine.specs.Outside.{Outside}
use Rattle.dots_machine.specs.Endings.{HasRun, Reports}
use Rattle.dots_machine.specs.Report.{report_of}

-- What stands outside a run over a script: before its first call no act, and a disk of 2^30 zeros; and then what its host has done.
abbrev pub outside_first : Option (List ℕ) → ℕ → Option (List ℕ) → ℕ → Outside
outside_first left source_faults written report_faults = record {
  left = left;
  source_faults = source_faults;
  acts = Some [];
  wire_faults = 0;
  media = Some (blank []);
  extent = 2 ^ 30;
  disk_faults = 0;
  written = written;
  report_faults = report_faults;
}

abbrev pub outside_with : {S K : Type 0} → Option (List ℕ) → ℕ → Scripting S K → Option (List ℕ) → ℕ → Outside
outside_with left source_faults host written report_faults = record {
  left = left;
  source_faults = source_faults;
  acts = acts_told host.disk;
  wire_faults = host.faults;
  media = Some (media_since host.disk.acts);
  extent = host.disk.extent;
  disk_faults = host.disk.faults;
  written = written;
  report_faults = report_faults;
}

-- Some acts are a run of the machine with these settings from an empty disk, which stops so, keeps the laws, and survives a crash at any moment.
-- The acts of the host are the same ones as they were handed on, with replies in blocks: their events are, in order, those of the script's lines,
-- and their sends are, line by line, what the sink of sends was written. Of the last state this was written.
pub record Replays (settings : SettingsValue) (how : Stop) (before after : Outside) (handed : Option (List Timed)) (start now : Outer) (wrote : State → Type 0) : Type 0 where
  pub acts : List Timed
  pub acts_are : handed ≡ Some acts
  pub seen : List Timed
  pub seen_are : after.acts ≡ Some seen
  pub blocks : Blocks
  pub handed_on : AreSeen no_blocks acts seen blocks
  pub end : Owing State
  pub trace : List State
  pub has_run : HasRun settings (begun_from settings []) how before after trace end seen
  pub accounts : Accounts start now acts
  pub reports : wrote end.last

-- What a run over a script comes to, by its ending. It saw the acts that stand outside in the end, and these are those of its host.
abbrev pub JoinsTexts : Ending → Outside → Outside → Option (List Timed) → Outer → Outer → Type 0
JoinsTexts (ending.Served how) before after handed start now =
    (settings : SettingsValue) × IfSome before.left (λ bytes. SettingsAre bytes settings) × Replays settings how before after handed start now (Reports how settings before after)
JoinsTexts ending.ReportFailed before after handed start now =
    (settings : SettingsValue) × IfSome before.left (λ bytes. SettingsAre bytes settings)
    × Replays settings stop.Ended before after handed start now (λ state. AppendsBeginning before.written after.written (report_of settings state))
JoinsTexts (ending.Unrecovered fault) before after handed start now = Accounts start now []
JoinsTexts _ before after handed start now = now ≡ start
