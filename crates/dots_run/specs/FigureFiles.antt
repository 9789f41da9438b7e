-- A file that has the figures of a server, where its host file asks for it.
use Rattle.std.specs.Prelude.{◌≡◌, ◌⊎◌, ℕ, ◌-◌, ◌<◌, Bool, List, [], ◌∷◌, Option, Some, None, Result, Ok, Err, ⊤}
use Rattle.dots_lists.specs.Lines.{lines_of}
use Rattle.dots_lists.specs.declared.memory.NoMemory.{NoMemory}
use Rattle.dots_host.specs.declared.act.Act.{Act}
use Rattle.dots_edge.specs.HostLine.{LineValue}
use Rattle.dots_edge.specs.HostFile.{Stand, FileFails}
use Rattle.dots_edge.specs.Found.{figures_in}
use Rattle.dots_edge.specs.declared.host_fault.HostFault.{HostFault}
use Rattle.dots_settings.specs.Settings.{SettingsValue}
use Rattle.dots_machine.specs.Machine.{State}
use Rattle.dots_server.specs.ServerValues.{ServerValue, Represents}
use Rattle.server_figures.specs.Figures.{figures_of}
use Rattle.dots_run.specs.declared.figure_file.FigureFile.{FigureFile}

-- The text has the figures of the state that a server represents and of its journal, and those of some calls and of some count of the clock.
abbrev pub IsFiguresOf : ServerValue → List ℕ → Type 0
IsFiguresOf server text =
    (calls : List Act) × (strayed : ℕ)
    × ((settings : SettingsValue) (state : State) → Represents server settings state → text ≡ figures_of settings state.time state.history server.journal calls strayed)

-- one text more was handed over for the path, or memory ran out for it
abbrev pub Refreshes : ServerValue → FigureFile → FigureFile → Result Bool NoMemory → Type 0
Refreshes server old new (Ok stands) =
    (text : List ℕ) × IsFiguresOf server text × (new.file.log.puts ≡ (text, stands) ∷ old.file.log.puts) × (new.file.path ≡ old.file.path) × (new.wait ≡ old.wait)
Refreshes server old new (Err NoMemory) = new ≡ old

-- the file as it is while ten ticks go by, of which this is the first
abbrev pub begun : FigureFile → FigureFile
begun file = record { file = file.file; wait = 9 }

-- A tick is passed over, or the figures are handed over, and nine are passed over then.
abbrev pub LooksForFigures : ServerValue → FigureFile → FigureFile → Type 0
LooksForFigures server old new =
    ((0 < old.wait) × (new ≡ record { file = old.file; wait = old.wait - 1 }))
    ⊎ ((old.wait ≡ 0) × (came : Result Bool NoMemory) × Refreshes server (begun old) new came)

abbrev pub LooksThere : ServerValue → Option FigureFile → Option FigureFile → Type 0
LooksThere server (Some old) (Some new) = LooksForFigures server old new
LooksThere server None None = ⊤
LooksThere server _ _ = ⊥

-- one look at each of these servers, in order
abbrev pub SawFigures : Option FigureFile → Option FigureFile → List ServerValue → Type 0
SawFigures old new [] = new ≡ old
SawFigures old new (server ∷ seen) = (mid : Option FigureFile) × LooksThere server old mid × SawFigures mid new seen

-- the file is at the path, and nothing was put there yet; or there is neither
abbrev pub IsFigureFileAt : Option (List ℕ) → Option FigureFile → Type 0
IsFigureFileAt (Some path) (Some file) = (file.file.path ≡ path) × (file.file.log.puts ≡ []) × (file.wait ≡ 0)
IsFigureFileAt None None = ⊤
IsFigureFileAt _ _ = ⊥

-- The file is the one that a line of a host file names. One with a fault names none.
abbrev pub IsNamedIn : List ℕ → Option FigureFile → Type 0
IsNamedIn text file =
    ((values : List LineValue) × Stand (lines_of text) values × IsFigureFileAt (figures_in values) file)
    ⊎ ((fault : HostFault) × FileFails text fault × (file ≡ None))
