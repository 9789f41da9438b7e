-- What one event comes to in a run.
use Rattle.std.specs.Prelude.{◌≡◌, ◌≢◌, ◌⊎◌, ℕ, List, [], ◌∷◌, Option}
use Rattle.dots_host.specs.declared.event.Event.{Event}
use Rattle.dots_host.specs.Acts.{Timed}
use Rattle.dots_host.specs.Runs.{Turn, owed_in, each_telling}
use Rattle.dots_host.specs.Media.{Media}
use Rattle.dots_settings.specs.Settings.{SettingsValue}
use Rattle.dots_history.specs.declared.entry.Entry.{Entry}
use Rattle.dots_host.specs.declared.out.OwnedOut.{OwnedOut}
use Rattle.dots_host.specs.declared.out.OwnedOut.TheVariants as owned
use Rattle.dots_machine.specs.declared.verdict.Verdict.TheVariants as verdict
use Rattle.dots_machine.specs.Machine.{State, Step, StepInto, Answers, Decides, Hears, with_entry}
use Rattle.dots_server.specs.ServerValues.{ServerValue, RestartsWith}
use Rattle.dots_server.specs.Turning.{Turned, Broke, Stored, LiesOn, Grows, last_left, Chained}

abbrev pub stored_of : ServerValue → List Entry → Stored
stored_of server entries = record { journal = server.journal; entries = entries }

-- It led to a new state, which is kept, by these turns.
pub record Took (settings : SettingsValue) (state : State) (came : Event) (at : ℕ) (old now : ServerValue) (entries : List Entry) (media media_now : Option Media) (acts acts_now : Option (List Timed)) : Type 0 where
  pub turns : List (Turn State)
  pub new : State
  pub few : List Entry
  pub step : Step settings state came at (owed_in turns) new
  pub kept : RestartsWith now settings new few
  pub chained : Chained settings new.time state (stored_of old entries) turns (stored_of now few) media media_now acts acts_now
  pub left : new.history ≡ (last_left state turns).history

-- The disk failed in the middle of it: some turns were carried out, and the one after them was being written. What is written stands on the disk as
-- steps, a turn in one or more, of which the last has what the turn sends.
pub record BrokeOff (settings : SettingsValue) (state : State) (came : Event) (at : ℕ) (server : ServerValue) (entries : List Entry) (media media_now : Option Media) (acts acts_now : Option (List Timed)) : Type 0 where
  pub turns : List (Turn State)
  pub last : Turn State
  pub into : StepInto settings state came at turns last
  pub steps : List (Turn State)
  pub owes : owed_in steps ≡ owed_in turns
  pub stored : Stored
  pub there : Option Media
  pub told : Option (List Timed)
  pub chained : Chained settings last.left.time state (stored_of server entries) steps stored media there acts told
  pub grows : Grows (last_left state steps).history last.left.history
  pub broke : Broke settings (last_left state steps) last.left (LiesOn settings stored) there media_now told acts_now

-- ---- a datagram

-- Its peer was met in a state. It was answered there, the observers that were due were notified, and what that led to is kept.
pub record Answered (settings : SettingsValue) (state met : State) (peer : ℕ) (datagram : List ℕ) (old now : ServerValue) (entries : List Entry) (media media_now : Option Media) (acts acts_now : Option (List Timed)) : Type 0 where
  pub sends : List OwnedOut
  pub new : State
  pub few : List Entry
  pub answers : Answers settings state peer datagram sends new
  pub kept : RestartsWith now settings new few
  pub turned : Turned settings met new sends (LiesOn settings (stored_of old entries)) (LiesOn settings (stored_of now few)) media media_now acts acts_now
  pub grows : Grows met.history new.history

-- The disk failed while an entry was written that it asks for.
pub record Failing (settings : SettingsValue) (met : State) (peer : ℕ) (datagram : List ℕ) (server : ServerValue) (entries : List Entry) (media media_now : Option Media) (acts acts_now : Option (List Timed)) : Type 0 where
  pub reply : List ℕ
  pub entry : Entry
  pub decides : Decides settings met peer datagram (verdict.Accept reply entry)
  pub broke : Broke settings met (with_entry met entry) (LiesOn settings (stored_of server entries)) media media_now acts acts_now

-- A datagram was taken: its peer was met, which may have been kept, and it was answered.
pub record DatagramTaken (settings : SettingsValue) (state : State) (peer : ℕ) (datagram : List ℕ) (old now : ServerValue) (entries : List Entry) (media media_now : Option Media) (acts acts_now : Option (List Timed)) : Type 0 where
  pub sends : List OwnedOut
  pub new : State
  pub few : List Entry
  pub answers : Answers settings state peer datagram sends new
  pub kept : RestartsWith now settings new few
  pub steps : List (Turn State)
  pub owes : owed_in steps ≡ each_telling new sends
  pub chained : Chained settings new.time state (stored_of old entries) steps (stored_of now few) media media_now acts acts_now
  pub left : new.history ≡ (last_left state steps).history

-- what was being written: that a signal is back, or what the datagram asks for
abbrev pub IsCut : SettingsValue → State → State → ℕ → List ℕ → Turn State → Type 0
IsCut settings state met peer datagram last =
    ((met.history ≢ state.history) × (last ≡ (record { sends = []; left = met })))
    ⊎ ((reply : List ℕ) × (entry : Entry) × Decides settings met peer datagram (verdict.Accept reply entry)
    × (last ≡ (record { sends = owned.To peer reply ∷ []; left = with_entry met entry })))

-- The disk failed in the middle of it.
pub record DatagramBroke (settings : SettingsValue) (state : State) (peer : ℕ) (datagram : List ℕ) (server : ServerValue) (entries : List Entry) (media media_now : Option Media) (acts acts_now : Option (List Timed)) : Type 0 where
  pub met : State
  pub hears : Hears settings state peer datagram met
  pub last : Turn State
  pub cut : IsCut settings state met peer datagram last
  pub steps : List (Turn State)
  pub silent : owed_in steps ≡ []
  pub stored : Stored
  pub there : Option Media
  pub told : Option (List Timed)
  pub chained : Chained settings last.left.time state (stored_of server entries) steps stored media there acts told
  pub grows : Grows (last_left state steps).history last.left.history
  pub broke : Broke settings (last_left state steps) last.left (LiesOn settings stored) there media_now told acts_now
