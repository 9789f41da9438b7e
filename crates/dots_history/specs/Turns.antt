-- What a list of turns makes of a view.
use Rattle.std.specs.Prelude.{ℕ, ◌≤◌, List, [], ◌∷◌}
use Rattle.dots_history.specs.declared.entry.Entry.{Entry}
use Rattle.dots_history.specs.Histories.{View}
use Rattle.dots_history.specs.Views.{view_at, view_with}

-- time moves, or an entry is accepted
pub data Turn : Type 0 where
  Tick : ℕ → Turn
  Apply : Entry → Turn

abbrev pub turn_time : Turn → ℕ
turn_time (Tick u) = u
turn_time (Apply e) = e.time

-- times don't fall, from this one on
abbrev pub TurnsRise : ℕ → List Turn → Type 0
TurnsRise low [] = Unit {0}
TurnsRise low (turn ∷ turns) = (low ≤ turn_time turn) × TurnsRise (turn_time turn) turns

-- the time of the last turn
abbrev pub time_after : ℕ → List Turn → ℕ
time_after low [] = low
time_after low (turn ∷ turns) = time_after (turn_time turn) turns

-- the entries that were accepted
abbrev pub applied : List Turn → List Entry
applied [] = []
applied (Tick u ∷ turns) = applied turns
applied (Apply e ∷ turns) = e ∷ applied turns

abbrev pub view_after_turn : ℕ → View → Turn → View
view_after_turn n v (Tick u) = view_at u v
view_after_turn n v (Apply e) = view_with n e v

-- one turn after the other
abbrev pub view_after : ℕ → View → List Turn → View
view_after n v [] = v
view_after n v (turn ∷ turns) = view_after n (view_after_turn n v turn) turns
