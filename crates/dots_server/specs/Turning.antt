-- What an event does to the disk and to the wire, one turn after the other: first it is written, and then the sends are given.
use Rattle.std.specs.Prelude.{◌≡◌, ◌⊎◌, ℕ, ◌≤◌, true, List, [], ◌∷◌, ◌++◌, Option, ⊤}
use Rattle.std.specs.List.{list_all}
use Rattle.dots_host.specs.declared.event.What.{What}
use Rattle.dots_host.specs.declared.event.What.TheVariants as what
use Rattle.dots_host.specs.declared.out.OwnedOut.{OwnedOut}
use Rattle.dots_host.specs.Acts.{Timed}
use Rattle.dots_host.specs.Runs.{Turn, Added, Gives}
use Rattle.dots_host.specs.Media.{Media}
use Rattle.dots_host.specs.Becoming.{Leaves, RestsWith, KeepsMedia, IsMoment}
use Rattle.dots_host.specs.Beside.{KeepsActs}
use Rattle.dots_settings.specs.Settings.{SettingsValue}
use Rattle.dots_history.specs.declared.entry.Entry.{Entry}
use Rattle.dots_history.specs.Histories.{Kept}
use Rattle.dots_history.specs.Calm.{is_own}
use Rattle.dots_history.specs.Fits.{is_calm, last_time}
use Rattle.slot_store.specs.StoreValues.{JournalValue}
use Rattle.slot_journal.specs.DiskEntries as journal
use Rattle.slot_journal.specs.Kept.{HasKept}
use Rattle.session_core.specs.Notifying.{SentTo}
use Rattle.dots_machine.specs.Machine.{State}

-- an event that a server takes: neither the end nor a failure of the host, nor a restart, at which a server begins anew
abbrev pub IsServed : What → Type 0
IsServed what.End = ⊥
IsServed what.Failed = ⊥
IsServed what.Restart = ⊥
IsServed _ = ⊤

-- A crash between the states leaves calm entries with the view of the history of the one, or of the other, at the time of the later one.
abbrev pub HasTurn : SettingsValue → State → State → (ℕ → ℕ) → Type 0
HasTurn settings old new image =
    HasKept settings settings.limits.remembered new.time old.history image ⊎ HasKept settings settings.limits.remembered new.time new.history image

-- A turn led from the one state to the other. At each moment up to the first send the disk has entries with the view of the one history or
-- of the other; there it rests with those of the other; and from then on nothing is written, and the sends are given, one moment after the
-- other. What the disk must rest with at the start, and does in the end, is said by two relations.
pub record Turned (settings : SettingsValue) (old new : State) (outs : List OwnedOut) (before after : (ℕ → ℕ) → Type 0) (media media_new : Option Media) (acts acts_new : Option (List Timed)) : Type 0 where
  pub between : Option Media
  pub moment : ℕ
  pub is_moment : IsMoment moment between
  pub gives : Added acts acts_new (Gives moment outs)
  pub writes : RestsWith media before → Leaves media between (HasTurn settings old new)
  pub rests : RestsWith media before → RestsWith between after
  pub sends : KeepsMedia between media_new

-- The same, where the last of the sends was given up to this moment.
pub record TurnedTo (last : ℕ) (settings : SettingsValue) (old new : State) (outs : List OwnedOut) (before after : (ℕ → ℕ) → Type 0) (media media_new : Option Media) (acts acts_new : Option (List Timed)) : Type 0 where
  pub between : Option Media
  pub moment : ℕ
  pub is_moment : IsMoment moment between
  pub gives : Added acts acts_new (SentTo moment last outs)
  pub writes : RestsWith media before → Leaves media between (HasTurn settings old new)
  pub rests : RestsWith media before → RestsWith between after
  pub sends : KeepsMedia between media_new

-- It was written on the way from the one state to the other, and nothing was sent. At each moment the disk has entries with the view of the one
-- history or of the other, and in the end it rests with those of the other.
pub record Wrote (settings : SettingsValue) (old new : State) (before after : (ℕ → ℕ) → Type 0) (media media_new : Option Media) (acts acts_new : Option (List Timed)) : Type 0 where
  pub silent : KeepsActs acts acts_new
  pub writes : RestsWith media before → Leaves media media_new (HasTurn settings old new)
  pub rests : RestsWith media before → RestsWith media_new after

-- a history to which entries were added, or none
abbrev pub Grows : List Entry → List Entry → Type 0
Grows history new = (extra : List Entry) × (new ≡ history ++ extra)

-- The disk failed on the way from the one state to the other, while a history was written on which the other builds: nothing was sent, and at each
-- moment the disk has entries with the view of the one history or of what was written. The entries of the other are the settings' own.
pub record Broke (settings : SettingsValue) (old new : State) (before : (ℕ → ℕ) → Type 0) (media media_new : Option Media) (acts acts_new : Option (List Timed)) : Type 0 where
  pub written : List Entry
  pub adds : Grows old.history written
  pub on : Grows written new.history
  pub silent : KeepsActs acts acts_new
  pub writes : RestsWith media before → Leaves media media_new (HasTurn settings old (record new { history = written }))
  pub own : list_all (is_own settings) new.history ≡ true

-- a journal, with the entries that are on its disk
pub record Stored : Type 0 where
  pub journal : JournalValue
  pub entries : List Entry

abbrev pub LiesOn : SettingsValue → Stored → (ℕ → ℕ) → Type 0
LiesOn settings stored image = journal.Represents stored.journal settings stored.entries image

-- The entries are calm, and have the view of the history at the time of its last entry, which isn't after this time.
pub record IsStored (settings : SettingsValue) (time : ℕ) (history entries : List Entry) : Type 0 where
  pub calm : is_calm settings entries ≡ true
  pub kept : Kept settings.limits.remembered (last_time history) entries history
  pub timely : last_time history ≤ time

-- the state that the last turn left
abbrev pub last_left : State → List (Turn State) → State
last_left old [] = old
last_left old (turn ∷ turns) = last_left turn.left turns

-- The turns of an event lead from the one state on, all at one time. Each is written, and then sends; it only adds to the history; and between
-- two of them the disk rests, with entries that have the view of the history so far.
abbrev pub Chained : SettingsValue → ℕ → State → Stored → List (Turn State) → Stored → Option Media → Option Media → Option (List Timed) → Option (List Timed) → Type 0
Chained settings time old stored [] after media media_new acts acts_new = (after ≡ stored) × (media_new ≡ media) × (acts_new ≡ acts)
Chained settings time old stored (turn ∷ turns) after media media_new acts acts_new =
    (between : Stored) × (there : Option Media) × (told : Option (List Timed)) × (turn.left.time ≡ time) × Grows old.history turn.left.history
    × IsStored settings time turn.left.history between.entries
    × Turned settings old turn.left turn.sends (LiesOn settings stored) (LiesOn settings between) media there acts told
    × Chained settings time turn.left between turns after there media_new told acts_new
