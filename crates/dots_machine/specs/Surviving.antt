-- What a crash leaves on the disk, at each moment of a run.
use Rattle.std.specs.Prelude.{◌≡◌, ℕ, ◌+◌, ◌≤◌, nat_lt, if◌then◌else◌, List, [], ◌∷◌, ◌++◌, length, take, map, Option, Some, None, ⊤}
use Rattle.dots_host.specs.declared.out.OwnedOut.{OwnedOut}
use Rattle.dots_host.specs.Acts.{WireAct, took, gave, Timed}
use Rattle.dots_host.specs.Runs.{Owing, ToldStep}
use Rattle.dots_host.specs.Media.{Medium, Media, IsImage, all_media}
use Rattle.dots_settings.specs.Settings.{SettingsValue}
use Rattle.dots_history.specs.declared.entry.Entry.{Entry}
use Rattle.slot_journal.specs.Kept.{HasKept}
use Rattle.dots_machine.specs.Machine.{State, Step}

-- ---- a run with all that it tells

-- an event that was taken tells the state after it
abbrev pub ShowsState : WireAct → State → Owing State → Type 0
ShowsState (took event at) state new = state ≡ new.last
ShowsState (gave out done) state new = ⊤

-- The acts, one after the other, are a run of the machine, and beside each stands the state that it shows: beside an event the state after
-- it, and beside a send the one with which it was owed.
abbrev pub Story : SettingsValue → Owing State → List Timed → List State → Owing State → Type 0
Story settings old [] [] new = new ≡ old
Story settings old (timed ∷ acts) (state ∷ trace) new =
    (between : Owing State) × ToldStep (Step settings) old timed.act state between × ShowsState timed.act state between × Story settings between acts trace new
Story settings old [] (state ∷ trace) new = ⊥
Story settings old (timed ∷ acts) [] new = ⊥

-- the states that sends show
abbrev pub shown_by : List (State × OwnedOut) → List State
shown_by owed = map (λ send. send.0) owed

-- ---- what was shown before a moment

-- a send shows the entries of its state, and an event none
abbrev pub entries_shown : WireAct → State → ℕ → ℕ
entries_shown (took event at) state n = n
entries_shown (gave out done) state n = length state.history

-- How many entries were shown before the moment: those of the last send that was handed in before it, or so many where there is none.
abbrev pub shown : ℕ → List Timed → List State → ℕ → ℕ
shown m [] trace n = n
shown m (timed ∷ acts) [] n = n
shown m (timed ∷ acts) (state ∷ trace) n = shown m acts trace (if nat_lt timed.moment m then entries_shown timed.act state n else n)

-- an event moves the time, and a send doesn't
abbrev pub time_shown : WireAct → State → ℕ → ℕ
time_shown (took event at) state t = state.time
time_shown (gave out done) state t = t

-- The time of the machine at the moment: that after the last event that was taken before it, or this one where there is none.
abbrev pub time_at : ℕ → List Timed → List State → ℕ → ℕ
time_at m [] trace t = t
time_at m (timed ∷ acts) [] t = t
time_at m (timed ∷ acts) (state ∷ trace) t = time_at m acts trace (if nat_lt timed.moment m then time_shown timed.act state t else t)

-- how many calls were made of a host, where its disk is told
abbrev pub past_of : Option Media → ℕ
past_of None = 0
past_of (Some media) = length media.past

-- none of the acts came before the moment
abbrev pub NoneBefore : ℕ → List Timed → Type 0
NoneBefore m [] = ⊤
NoneBefore m (timed ∷ acts) = (m ≤ timed.moment) × NoneBefore m acts

-- ---- the disk

-- At the moment the image holds calm entries that are a part of a front of the history, with the view of that front at the machine's time; and
-- the front has at least the entries that were shown before.
pub record MeansAt (settings : SettingsValue) (start : State) (acts : List Timed) (trace : List State) (history : List Entry) (m : ℕ) (image : ℕ → ℕ) : Type 0 where
  pub count : ℕ
  pub within : count ≤ length history
  pub has_shown : shown m acts trace (length start.history) ≤ count
  pub image_has : HasKept settings settings.limits.remembered (time_at m acts trace start.time) (take count history) image

-- the disk at each moment, from this one on, has the property in each image that a crash may leave of it
abbrev pub EachFrom : ℕ → List Medium → (ℕ → (ℕ → ℕ) → Type 0) → Type 0
EachFrom m [] P = ⊤
EachFrom m (medium ∷ media) P = ((image : ℕ → ℕ) → IsImage medium image → P m image) × EachFrom (m + 1) media P

-- Moments came, and at each of them every image that a crash may leave has the property, which speaks of the moment.
abbrev pub LeavesAt : Option Media → Option Media → (ℕ → (ℕ → ℕ) → Type 0) → Type 0
LeavesAt (Some old) (Some new) P = (added : List Medium) × (all_media new ≡ all_media old ++ added) × EachFrom (length old.past + 1) added P
LeavesAt _ _ P = ⊥

-- A run survives a crash at any moment: of the disk as it was before the run and as it is after it, and of the history to which the run came.
abbrev pub Survives : SettingsValue → State → Option Media → Option Media → List Timed → List State → List Entry → Type 0
Survives settings start before now acts trace history = LeavesAt before now (MeansAt settings start acts trace history)
