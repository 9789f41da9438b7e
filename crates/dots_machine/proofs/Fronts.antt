-- What is answered of a connection: what stays, and what is added.
use Rattle.std.proofs.Common.{◌≡◌, ℕ, List, [], ◌∷◌, ◌++◌, refl, sym, ap, ◌∙◌, subst, append_assoc, append-nil}
use Rattle.dots_host.specs.declared.out.OwnedOut.{OwnedOut}
use Rattle.dots_host.specs.Runs.{Turn, Chain, owed_in, each_telling, outs_of}
use Rattle.dots_host.proofs.RunLemmas.{outs_back}
use Rattle.dots_settings.specs.Settings.{SettingsValue}
use Rattle.dots_history.specs.declared.entry.Entry.{Entry}
use Rattle.session_core.specs.Notifying.{Apart}
use Rattle.rest_answers.specs.Turns.{entries_of}
use Rattle.dots_machine.specs.Machine.{State, AnswersFront, Takes}
use Rattle.dots_machine.proofs.Observing.{notified_history, notified_time, notified_apart}

-- ---- the sends of turns

pub outs_then : {S : Type 0} (xs ys : List (S × OwnedOut)) → outs_of (xs ++ ys) ≡ outs_of xs ++ outs_of ys
outs_then [] ys = refl
outs_then (send ∷ xs) ys = ap (λ outs. send.1 ∷ outs) (outs_then xs ys)

pub owed_then : {S : Type 0} (turns more : List (Turn S)) → owed_in (turns ++ more) ≡ owed_in turns ++ owed_in more
owed_then [] more = refl
owed_then (turn ∷ turns) more =
    ap (λ owed. each_telling turn.left turn.sends ++ owed) (owed_then turns more) ∙ sym (append_assoc (each_telling turn.left turn.sends) (owed_in turns) (owed_in more))

-- what all turns send, in order
abbrev pub outs_in : {S : Type 0} → List (Turn S) → List OwnedOut
outs_in turns = outs_of (owed_in turns)

pub outs_first : {S : Type 0} (turn : Turn S) (turns : List (Turn S)) → outs_in (turn ∷ turns) ≡ turn.sends ++ outs_in turns
outs_first turn turns =
    outs_then (each_telling turn.left turn.sends) (owed_in turns) ∙ ap (λ outs. outs ++ outs_in turns) (outs_back turn.left turn.sends)

outs_one : {S : Type 0} (turn : Turn S) → outs_in (turn ∷ []) ≡ turn.sends
outs_one turn = outs_first turn [] ∙ append-nil turn.sends

-- the last turn's stand behind those of the others
pub outs_last : {S : Type 0} (turns : List (Turn S)) (last : Turn S) → outs_in (turns ++ last ∷ []) ≡ outs_in turns ++ last.sends
outs_last turns last =
    ap outs_of (owed_then turns (last ∷ [])) ∙ outs_then (owed_in turns) (owed_in (last ∷ [])) ∙ ap (λ outs. outs_in turns ++ outs) (outs_one last)

-- ---- one front

module _ (settings : SettingsValue) (conn : ℕ) where
  module _ (state : State) (sends : List OwnedOut) (new : State) (x : AnswersFront settings conn state sends new) where
    pub front_history : new.history ≡ state.history ++ entries_of x.2.front
    front_history = ap (λ (s : State). s.history) x.3 ∙ x.2.history_is

    pub front_lines : new.lines ≡ x.1
    front_lines = ap (λ (s : State). s.lines) x.3

    pub front_time : new.time ≡ state.time
    front_time = ap (λ (s : State). s.time) x.3

    pub front_observers : new.observers ≡ state.observers
    front_observers = ap (λ (s : State). s.observers) x.3

  -- ---- one after the other

  pub fronts_grow : (state : State) (turns : List (Turn State)) (new : State) → Chain (AnswersFront settings conn) state turns new → (extra : List Entry) × (new.history ≡ state.history ++ extra)
  fronts_grow state [] new is = ([], ap (λ (s : State). s.history) is ∙ sym (append-nil state.history))
  fronts_grow state (turn ∷ turns) new x =
      let more = fronts_grow turn.left turns new x.1 in
      let front : AnswersFront settings conn state turn.sends turn.left = x.0 in (
        entries_of front.2.front ++ more.0,
        more.1 ∙ ap (λ es. es ++ more.0) (front_history state turn.sends turn.left front) ∙ append_assoc state.history (entries_of front.2.front) more.0,
      )

  pub fronts_time : (state : State) (turns : List (Turn State)) (new : State) → Chain (AnswersFront settings conn) state turns new → new.time ≡ state.time
  fronts_time state [] new is = ap (λ (s : State). s.time) is
  fronts_time state (turn ∷ turns) new x = fronts_time turn.left turns new x.1 ∙ front_time state turn.sends turn.left x.0

  pub fronts_observers : (state : State) (turns : List (Turn State)) (new : State) → Chain (AnswersFront settings conn) state turns new → new.observers ≡ state.observers
  fronts_observers state [] new is = ap (λ (s : State). s.observers) is
  fronts_observers state (turn ∷ turns) new x = fronts_observers turn.left turns new x.1 ∙ front_observers state turn.sends turn.left x.0

  -- ---- a whole piece

  module _ (state : State) (turns : List (Turn State)) (new : State) (x : Takes settings conn state turns new) where
    pub takes_grows : (extra : List Entry) × (new.history ≡ state.history ++ extra)
    takes_grows =
        let grown = fronts_grow state x.answered x.rested x.fronts in
        (grown.0, notified_history settings x.rested new x.notices x.notified ∙ grown.1)

    pub takes_time : new.time ≡ state.time
    takes_time = notified_time settings x.rested new x.notices x.notified ∙ fronts_time state x.answered x.rested x.fronts

    pub takes_apart : Apart state.observers → Apart new.observers
    takes_apart apart = notified_apart settings x.rested new x.notices (subst Apart (sym (fronts_observers state x.answered x.rested x.fronts)) apart) x.notified

    pub takes_outs : outs_in turns ≡ outs_in x.answered ++ x.notices
    takes_outs = ap outs_in x.turns_are ∙ outs_last x.answered (record { sends = x.notices; left = new })
