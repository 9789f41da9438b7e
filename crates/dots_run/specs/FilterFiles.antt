-- Files that have the filters of a server, where its host file asks for them.
use Rattle.std.specs.Prelude.{◌≡◌, ◌⊎◌, ℕ, Bool, true, false, List, [], ◌∷◌, Option, Some, None, Result, Ok, Err, ⊤}
use Rattle.dots_lists.specs.Lines.{lines_of}
use Rattle.dots_lists.specs.declared.memory.NoMemory.{NoMemory}
use Rattle.dots_edge.specs.HostLine.{LineValue}
use Rattle.dots_edge.specs.HostFile.{Stand, FileFails}
use Rattle.dots_edge.specs.Found.{filters_in, filters_nft_in}
use Rattle.dots_edge.specs.declared.host_fault.HostFault.{HostFault}
use Rattle.dots_settings.specs.Settings.{SettingsValue}
use Rattle.dots_machine.specs.Machine.{State}
use Rattle.dots_server.specs.ServerValues.{ServerValue, Represents}
use Rattle.host_checks.specs.declared.filtering.FilterForm.{FilterForm}
use Rattle.host_checks.specs.declared.filtering.FilterForm.TheVariants as form
use Rattle.host_checks.specs.declared.shown.Shown.{Shown}
use Rattle.host_checks.specs.Filters.{HasForm}
use Rattle.host_checks.specs.Shown.{AreShown, same_filters}
use Rattle.dots_run.specs.declared.filter_files.FilterFile.{FilterFile}
use Rattle.dots_run.specs.declared.filter_files.NamedFiles.{NamedFiles}
use Rattle.dots_run.specs.declared.filter_files.Refreshed.{Refreshed}
use Rattle.dots_run.specs.declared.filter_files.Refreshed.TheVariants as refreshed

-- the filters of the state that a server represents, and the text of them in this form
abbrev pub IsShownOf : ServerValue → Shown → Type 0
IsShownOf server shown = (settings : SettingsValue) (state : State) → Represents server settings state → AreShown settings state.time state.history shown

abbrev pub IsTextOf : FilterForm → ServerValue → List ℕ → Type 0
IsTextOf form server text = (settings : SettingsValue) (state : State) → Represents server settings state → HasForm form settings state.time state.history text

-- these filters were put in the file last
abbrev pub has_last : FilterFile → Shown → Bool
has_last file shown = by file.last
  where
    by : Option Shown → Bool
    by None = false
    by (Some last) = same_filters file.form last shown

-- One file more was handed over for the path: it has the text of the server's filters, which aren't those that were put there last.
pub record HandsOver (server : ServerValue) (old new : FilterFile) (stands : Bool) (shown : Shown) : Type 0 where
  pub text : List ℕ
  pub is_text : IsTextOf old.form server text
  pub is_shown : IsShownOf server shown
  pub differs : has_last old shown ≡ false
  pub puts : new.file.log.puts ≡ (text, stands) ∷ old.file.log.puts
  pub path : new.file.path ≡ old.file.path
  pub form : new.form ≡ old.form

-- What came of a look at a server. Where the file system fails, or memory runs out, the filters that were put there last stay those, and so what is owed is
-- handed over at the next look that finds others.
abbrev pub Refreshes : ServerValue → FilterFile → FilterFile → Result Refreshed NoMemory → Type 0
Refreshes server old new (Ok refreshed.Same) = (shown : Shown) × IsShownOf server shown × (has_last old shown ≡ true) × (new ≡ old)
Refreshes server old new (Ok refreshed.Put) = (shown : Shown) × HandsOver server old new true shown × (new.last ≡ Some shown)
Refreshes server old new (Ok refreshed.Failed) = (shown : Shown) × HandsOver server old new false shown × (new.last ≡ old.last)
Refreshes server old new (Err NoMemory) = new ≡ old

abbrev pub LooksAt : ServerValue → Option FilterFile → Option FilterFile → Type 0
LooksAt server (Some old) (Some new) = (came : Result Refreshed NoMemory) × Refreshes server old new came
LooksAt server None None = ⊤
LooksAt server _ _ = ⊥

pub record LooksAtBoth (server : ServerValue) (old new : NamedFiles) : Type 0 where
  pub report : LooksAt server old.report new.report
  pub script : LooksAt server old.script new.script

-- one look at each of these servers, in order
abbrev pub SawAll : NamedFiles → NamedFiles → List ServerValue → Type 0
SawAll old new [] = new ≡ old
SawAll old new (server ∷ seen) = (mid : NamedFiles) × LooksAtBoth server old mid × SawAll mid new seen

-- the file for filters in this form is at the path, and nothing was put there yet; or there is neither
abbrev pub IsFileFor : FilterForm → Option (List ℕ) → Option FilterFile → Type 0
IsFileFor form (Some path) (Some file) = (file.file.path ≡ path) × (file.file.log.puts ≡ []) × (file.form ≡ form) × (file.last ≡ None)
IsFileFor form None None = ⊤
IsFileFor form _ _ = ⊥

-- The files are those that the lines of a host file name. One with a fault names none.
abbrev pub AreNamedIn : List ℕ → NamedFiles → Type 0
AreNamedIn text files =
    ((values : List LineValue) × Stand (lines_of text) values × IsFileFor form.Report (filters_in values) files.report × IsFileFor form.Script (filters_nft_in values) files.script)
    ⊎ ((fault : HostFault) × FileFails text fault × (files.report ≡ None) × (files.script ≡ None))
