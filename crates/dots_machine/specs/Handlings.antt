-- A run by handlings: each event that was taken, with the time beside it and the sends that follow it.
use Rattle.std.specs.Prelude.{◌≡◌, ℕ, List, [], ◌∷◌, ⊤}
use Rattle.dots_host.specs.declared.event.Event.{Event}
use Rattle.dots_host.specs.declared.out.OwnedOut.{OwnedOut}
use Rattle.dots_host.specs.Acts.{WireAct, took, gave, Timed}
use Rattle.dots_host.specs.Runs.{IsSend, outs_of}
use Rattle.dots_settings.specs.Settings.{SettingsValue}
use Rattle.dots_machine.specs.Machine.{State, Step}

pub record Handling : Type 0 where
  pub what : Event
  pub at : ℕ
  pub sends : List OwnedOut

-- the sends at the front of the acts, before an event is taken
abbrev pub onto_sends : WireAct → List OwnedOut → List OwnedOut
onto_sends (took event at) sends = []
onto_sends (gave out done) sends = out ∷ sends

abbrev pub first_sends : List Timed → List OwnedOut
first_sends [] = []
first_sends (timed ∷ acts) = onto_sends timed.act (first_sends acts)

-- the handlings of a list of acts
abbrev pub onto_handlings : WireAct → List OwnedOut → List Handling → List Handling
onto_handlings (took event at) sends handlings = (record { what = event; at = at; sends = sends }) ∷ handlings
onto_handlings (gave out done) sends handlings = handlings

abbrev pub handlings_of : List Timed → List Handling
handlings_of [] = []
handlings_of (timed ∷ acts) = onto_handlings timed.act (first_sends acts) (handlings_of acts)

-- the acts are these sends, in order, each done or lost
abbrev pub AreSends : List OwnedOut → List Timed → Type 0
AreSends [] [] = ⊤
AreSends (out ∷ sends) (timed ∷ acts) = IsSend out timed.act × AreSends sends acts
AreSends [] (timed ∷ acts) = ⊥
AreSends (out ∷ sends) [] = ⊥

-- the handling is a step of the machine, and all that it owes was sent
pub record IsHandling (settings : SettingsValue) (old : State) (handling : Handling) (new : State) : Type 0 where
  pub owed : List (State × OwnedOut)
  pub step : Step settings old handling.what handling.at owed new
  pub sent : outs_of owed ≡ handling.sends

-- from the one state to the other, the property holds of each handling, which goes on from the state that the one before it left
abbrev pub EachHandling : (State → Handling → State → Type 0) → State → List Handling → State → Type 0
EachHandling Handled old [] new = new ≡ old
EachHandling Handled old (handling ∷ handlings) new = (between : State) × Handled old handling between × EachHandling Handled between handlings new
