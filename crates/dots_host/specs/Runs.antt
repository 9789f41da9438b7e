-- Runs of a machine over the acts of a wire, whatever the machine is. A step takes an event with the time beside it,
-- and gives the sends that it owes, each beside the state that it tells, and the state after it.
use Rattle.std.specs.Prelude.{◌≡◌, ℕ, ◌+◌, List, [], ◌∷◌, ◌++◌, map, Option, Some, None, ⊤}
use Rattle.dots_host.specs.declared.event.Event.{Event}
use Rattle.dots_host.specs.declared.event.Event.TheVariants as event
use Rattle.dots_host.specs.declared.out.OwnedOut.{OwnedOut}
use Rattle.dots_host.specs.Acts.{WireAct, took, gave, Timed}

-- a state once nothing is owed, and the sends that are still owed, in order, each beside the state that it tells
pub record Owing (S : Type 0) : Type 0 where
  pub last : S
  pub owed : List (S × OwnedOut)

abbrev pub resting : {S : Type 0} → S → Owing S
resting state = record { last = state; owed = [] }

-- One act: an event is taken where nothing is owed; a send is the next one owed, done or lost. The act tells a state.
abbrev pub ToldStep : {S : Type 0} → (S → Event → ℕ → List (S × OwnedOut) → S → Type 0) → Owing S → WireAct → S → Owing S → Type 0
ToldStep step old (took event at) told new = (old.owed ≡ []) × step old.last event at new.owed new.last
ToldStep step old (gave out done) told new = (old.owed ≡ (told, out) ∷ new.owed) × (new.last ≡ old.last)

-- the acts, one after the other, and beside each the state that it tells
abbrev pub Trace : {S : Type 0} → (S → Event → ℕ → List (S × OwnedOut) → S → Type 0) → Owing S → List Timed → List S → Owing S → Type 0
Trace step old [] [] new = new ≡ old
Trace {S} step old (timed ∷ acts) (told ∷ trace) new = (between : Owing S) × ToldStep step old timed.act told between × Trace step between acts trace new
Trace step old [] (told ∷ trace) new = ⊥
Trace step old (timed ∷ acts) [] new = ⊥

-- each send beside the state, which it tells
abbrev pub each_telling : {S : Type 0} → S → List OwnedOut → List (S × OwnedOut)
each_telling state sends = map (λ out. (state, out)) sends

-- One turn of an event: its sends, in order, and the state after it, which each of them tells. What it writes is written before the first of them.
pub record Turn (S : Type 0) : Type 0 where
  pub sends : List OwnedOut
  pub left : S

-- the turns, one after the other, lead from the one state to the other
abbrev pub Chain : {S : Type 0} → (S → List OwnedOut → S → Type 0) → S → List (Turn S) → S → Type 0
Chain makes old [] new = new ≡ old
Chain makes old (turn ∷ turns) new = makes old turn.sends turn.left × Chain makes turn.left turns new

-- the sends of all turns, each beside the state that its turn leaves
abbrev pub owed_in : {S : Type 0} → List (Turn S) → List (S × OwnedOut)
owed_in [] = []
owed_in (turn ∷ turns) = each_telling turn.left turn.sends ++ owed_in turns

-- in one turn: all the sends tell the state after it
abbrev pub in_one_turn : {S : Type 0} → (List OwnedOut → Type 0) → List (S × OwnedOut) → S → Type 0
in_one_turn makes owed new = (sends : List OwnedOut) × (owed ≡ each_telling new sends) × makes sends

-- Where the acts are told in the end they were told at the start, and what was added to them has the property.
abbrev pub Added : Option (List Timed) → Option (List Timed) → (List Timed → Type 0) → Type 0
Added old None P = ⊤
Added None (Some new) P = ⊥
Added (Some old) (Some new) P = (more : List Timed) × (new ≡ old ++ more) × P more

abbrev pub IsSend : OwnedOut → WireAct → Type 0
IsSend out (gave given done) = given ≡ out
IsSend out (took event at) = ⊥

-- the sends that are owed, without the states that they tell
abbrev pub outs_of : {S : Type 0} → List (S × OwnedOut) → List OwnedOut
outs_of owed = map (λ send. send.1) owed

-- The acts are these sends, in order, each done or lost. The first was made at the moment, and each other one a moment later.
abbrev pub Gives : ℕ → List OwnedOut → List Timed → Type 0
Gives moment [] [] = ⊤
Gives moment (out ∷ owed) (timed ∷ acts) = (timed.moment ≡ moment) × IsSend out timed.act × Gives (moment + 1) owed acts
Gives moment [] (timed ∷ acts) = ⊥
Gives moment (out ∷ owed) [] = ⊥

abbrev pub IsNoEnd : WireAct → Type 0
IsNoEnd (took event.End at) = ⊥
IsNoEnd (took event.Failed at) = ⊥
IsNoEnd _ = ⊤

-- no End and no failed call of the wire is among the acts
abbrev pub GoOn : List Timed → Type 0
GoOn [] = ⊤
GoOn (timed ∷ acts) = IsNoEnd timed.act × GoOn acts

-- the last act is this event, and before it the acts go on
abbrev pub EndsBy : Event → List Timed → Type 0
EndsBy event acts = (before : List Timed) × (last : Timed) × (at : ℕ) × (last.act ≡ took event at) × (acts ≡ before ++ last ∷ []) × GoOn before

abbrev pub count_of : WireAct → ℕ
count_of (took event at) = 1
count_of (gave out done) = 0

-- how many events were taken
abbrev pub events_in : List Timed → ℕ
events_in [] = 0
events_in (timed ∷ acts) = count_of timed.act + events_in acts
