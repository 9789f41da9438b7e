-- What all the calls of a host of a script have read and written.
use Rattle.std.specs.Prelude.{◌≡◌, ℕ, ◌+◌, ◌^◌, ◌≤◌, ◌⊎◌, true, false, List, [], ◌∷◌, ◌++◌, length, Option, Some, None, ⊤}
use Rattle.std.specs.Io.KnownBytes.{Appends}
use Rattle.dots_host.specs.declared.event.Event.{Event}
use Rattle.dots_host.specs.declared.event.Event.TheVariants as event
use Rattle.dots_host.specs.Acts.{Timed, WireAct, took, gave, wire_acts}
use Rattle.dots_host.specs.Causes.{Rose}
use Rattle.dots_host.specs.Memory.{Coming}
use Rattle.dots_script.specs.Script.{IsSkipped, IsEventLine}
use Rattle.dots_script.specs.Lines.{IsLine, with_feeds, IsFault, to_come}
use Rattle.dots_script.specs.Scripting.{Scripting}
use Rattle.dots_script.specs.Sends.{line_of}

-- the whole is the parts that the items make, in order
abbrev pub AreMade : {A B : Type 0} → (A → List B → Type 0) → List A → List B → Type 0
AreMade makes [] whole = whole ≡ []
AreMade {A} {B} makes (item ∷ items) whole = (part later : List B) × (whole ≡ part ++ later) × makes item part × AreMade makes items later

-- ---- what was read

-- a line says nothing where it is skipped, and else its event with the time beside it
abbrev pub LineSays : List ℕ → List Coming → Type 0
LineSays line said = IsLine line × ((IsSkipped line × (said ≡ [])) ⊎ ((coming : Coming) × IsEventLine line coming.event coming.at × (said ≡ coming ∷ [])))

-- the event that an act hands in, where that is neither End nor a failure
abbrev pub event_in : WireAct → List Coming
event_in (took event.End at) = []
event_in (took event.Failed at) = []
event_in (took coming at) = (record { event = coming; at = at }) ∷ []
event_in (gave out done) = []

abbrev pub events_among : List Timed → List Coming
events_among [] = []
events_among (timed ∷ acts) = event_in timed.act ++ events_among acts

abbrev pub IsTaken : Event → WireAct → Type 0
IsTaken event (took other at) = other ≡ event
IsTaken event (gave out done) = ⊥

-- the event is among those that the acts hand in
abbrev pub Took : Event → List Timed → Type 0
Took event [] = ⊥
Took event (timed ∷ acts) = IsTaken event timed.act ⊎ Took event acts

-- The script is the lines that were passed and the rest. What these lines say is what was handed in, in order. End
-- came only where nothing is left, and a failure only where the rest doesn't go on with a line of a script, or 2^40
-- lines were skipped, or for the other reason.
pub record HasRead (script rest : List ℕ) (other : Type 0) (acts : List Timed) : Type 0 where
  pub lines : List (List ℕ)
  pub split : script ≡ with_feeds lines ++ rest
  pub said : AreMade LineSays lines (events_among acts)
  pub ended : Took event.End acts → rest ≡ []
  pub failed : Took event.Failed acts → IsFault rest ⊎ ((length (events_among acts) + 2 ^ 40 ≤ length lines) ⊎ other)

-- where the script is known, so is the rest
abbrev pub HasReadKnown : Option (List ℕ) → Option (List ℕ) → Type 0 → List Timed → Type 0
HasReadKnown None rest other acts = ⊤
HasReadKnown (Some script) None other acts = ⊥
HasReadKnown (Some script) (Some rest) other acts = HasRead script rest other acts

-- ---- what was written

-- an act writes nothing where it hands in an event, the line of a send that was done, and a beginning of the line of one that was lost
abbrev pub WireWrites : WireAct → List ℕ → Type 0
WireWrites (took event at) text = text ≡ []
WireWrites (gave out true) text = text ≡ line_of out
WireWrites (gave out false) text = (later : List ℕ) × (line_of out ≡ text ++ later)

abbrev pub ActWrites : Timed → List ℕ → Type 0
ActWrites timed text = WireWrites timed.act text

-- what is known to be held grew by what the acts write
pub record HasWritten (old new : Option (List ℕ)) (acts : List Timed) : Type 0 where
  pub text : List ℕ
  pub made : AreMade ActWrites acts text
  pub appends : Appends old new text

-- ---- both

-- what is known to come of a script, what a sink is known to hold, and how often the source of the script failed
pub record Outer : Type 0 where
  pub script : Option (List ℕ)
  pub written : Option (List ℕ)
  pub failures : ℕ

-- from the one standing to the other the acts have read the script and written their sends
pub record Accounts (start now : Outer) (acts : List Timed) : Type 0 where
  pub later : start.failures ≤ now.failures
  pub read : HasReadKnown start.script now.script (Rose start.failures now.failures) acts
  pub written : HasWritten start.written now.written acts

-- how a host stands, by what its source and its sink tell
abbrev pub outer : {S K : Type 0} → (S → Option (List ℕ)) → (S → ℕ) → (K → Option (List ℕ)) → Scripting S K → Outer
outer left failures holds host = record { script = to_come host.ahead (left host.source); written = holds host.sink; failures = failures host.source }

-- the acts of a host are all that was read and written since that start
abbrev pub AccountsSince : {S K : Type 0} → (S → Option (List ℕ)) → (S → ℕ) → (K → Option (List ℕ)) → Outer → Scripting S K → Type 0
AccountsSince left failures holds start host = Accounts start (outer left failures holds host) (wire_acts 0 host.disk.acts)
