-- What is answered of a connection is one, or memory ran out, or it is refused early.
use Rattle.std.proofs.Common.{◌≡◌, ◌⊎◌, inl, inr, ℕ, false, List, [], ◌∷◌, ◌++◌, Option, Some, refl, sym, ap, ◌∙◌, subst, append_assoc}
use Rattle.std.specs.Prelude.{MatchOption, ⊤}
use Rattle.std.proofs.lemmas.Bool.{false≢true}
use Rattle.std.proofs.lemmas.Option.{same_Some}
use Rattle.dots_host.specs.declared.out.OwnedOut.{OwnedOut}
use Rattle.dots_host.specs.Runs.{Turn, Chain}
use Rattle.dots_settings.specs.Settings.{SettingsValue}
use Rattle.dots_history.specs.declared.entry.Entry.{Entry}
use Rattle.stream_table.specs.Lines.{Line, PeerLines, line_of}
use Rattle.http_cut.specs.Requests.{waits, IsCut}
use Rattle.rest_answers.specs.declared.caller.Caller.{Caller}
use Rattle.rest_answers.specs.declared.front.RestFront.TheVariants as fronts
use Rattle.rest_answers.specs.Turns.{RestFront, IsFront, is_waiting, sends_of, entries_of, lines_behind, Rests, LackMemory, IsEarly}
use Rattle.rest_answers.proofs.Turning.{one_front}
use Rattle.dots_machine.specs.Machine.{State, AnswersFront}
use Rattle.dots_machine.specs.Answering.{PartWays}
use Rattle.dots_machine.proofs.Fronts.{outs_in, outs_first}

module _ (settings : SettingsValue) (conn : ℕ) where
  abbrev Fronts : State → List (Turn State) → State → Type 0
  Fronts state turns new = Chain (AnswersFront settings conn) state turns new

  -- ---- two fronts of one state

  module _ (state : State) where
    abbrev Differs : List ℕ → RestFront → RestFront → Type 0
    Differs buffered one other = LackMemory one other ⊎ IsEarly buffered one other

    -- a front of a turn, over what is held in another
    stands_for : (front : RestFront) (caller own : Caller) (line there : Line) → own ≡ caller → there ≡ line
        → IsFront settings state.time state.history own there.buffered front → IsFront settings state.time state.history caller line.buffered front
    stands_for front caller own line there same_caller same_line x =
        subst (λ (c : Caller). IsFront settings state.time state.history c line.buffered front) same_caller
        (subst (λ (l : Line). IsFront settings state.time state.history own l.buffered front) same_line x)

    module _ (sends others : List OwnedOut) (new last : State) (x : AnswersFront settings conn state sends new) (y : AnswersFront settings conn state others last) where
      second_stands : IsFront settings state.time state.history x.2.caller x.2.line.buffered y.2.front
      second_stands =
          stands_for y.2.front x.2.caller y.2.caller x.2.line y.2.line (same_Some y.2.caller x.2.caller (sym y.2.asks ∙ x.2.asks))
          (same_Some y.2.line x.2.line (sym y.2.there ∙ x.2.there)) y.2.stands

      abbrev with_front : List Entry → List PeerLines → State
      with_front history lines = record state { history = history; lines = lines }

      alike_turns : x.2.front ≡ y.2.front → (sends ≡ others) × (new ≡ last)
      alike_turns same = (
        x.2.sends_are ∙ ap (sends_of conn) same ∙ sym y.2.sends_are,
        x.3 ∙ ap (λ es. with_front es x.1) (x.2.history_is ∙ ap (λ f. state.history ++ entries_of f) same ∙ sym y.2.history_is)
            ∙ ap (with_front y.0) (x.2.lines_are ∙ ap (λ f. lines_behind conn f state.lines) same ∙ sym y.2.lines_are) ∙ sym y.3,
      )

    -- a turn stands at a front at which nothing else waits
    waits_there : (line : Line) → line_of conn state.lines ≡ Some line → Rests conn state.lines → IsCut line.buffered waits
    waits_there line there rests = subst (λ (o : Option Line). MatchOption o ⊤ (λ (l : Line). IsCut l.buffered waits)) there rests

    never_waits : (front : RestFront) → is_waiting front ≡ false → fronts.Waits ≡ front → ⊥
    never_waits front due same = false≢true (sym due ∙ ap is_waiting (sym same))

  -- ---- two ways of taking what is held

  abbrev pub AreAlike : State → List (Turn State) → List (Turn State) → State → State → List OwnedOut → List OwnedOut → Type 0
  AreAlike state turns others new last more rest =
      ((turns ≡ others) × (new ≡ last)) ⊎ PartWays settings conn state (outs_in turns ++ more) (outs_in others ++ rest)

  behind_turn : (turn : Turn State) (turns : List (Turn State)) (more : List OwnedOut) → outs_in (turn ∷ turns) ++ more ≡ turn.sends ++ (outs_in turns ++ more)
  behind_turn turn turns more = ap (λ outs. outs ++ more) (outs_first turn turns) ∙ append_assoc turn.sends (outs_in turns) more

  -- the one waits where the other answers
  first_waits : (state : State) (turn : Turn State) (turns : List (Turn State)) (more rest : List OwnedOut) → Rests conn state.lines → AnswersFront settings conn state turn.sends turn.left
      → PartWays settings conn state more (outs_in (turn ∷ turns) ++ rest)
  first_waits state turn turns more rest rests y = by_fronts (one_front settings state.time state.history y.2.caller y.2.line.buffered fronts.Waits y.2.front waiting y.2.stands)
    where
      waiting : IsCut y.2.line.buffered waits
      waiting = waits_there state y.2.line y.2.there rests

      by_fronts : (fronts.Waits ≡ y.2.front) ⊎ (LackMemory fronts.Waits y.2.front ⊎ IsEarly y.2.line.buffered fronts.Waits y.2.front)
          → PartWays settings conn state more (outs_in (turn ∷ turns) ++ rest)
      by_fronts (inl same) = absurd (never_waits state y.2.front y.2.due same)
      by_fronts (inr differ) = record {
        turns = [];
        met = state;
        fronts = refl;
        caller = y.2.caller;
        asks = y.2.asks;
        line = y.2.line;
        there = y.2.there;
        one = fronts.Waits;
        other = y.2.front;
        stands = waiting;
        stands_too = y.2.stands;
        differ = differ;
        more = more;
        rest = outs_in turns ++ rest;
        first = refl;
        second = behind_turn turn turns rest ∙ ap (λ outs. outs ++ (outs_in turns ++ rest)) y.2.sends_are;
      }

  second_waits : (state : State) (turn : Turn State) (turns : List (Turn State)) (more rest : List OwnedOut) → AnswersFront settings conn state turn.sends turn.left → Rests conn state.lines
      → PartWays settings conn state (outs_in (turn ∷ turns) ++ more) rest
  second_waits state turn turns more rest x rests = by_fronts (one_front settings state.time state.history x.2.caller x.2.line.buffered x.2.front fronts.Waits x.2.stands waiting)
    where
      waiting : IsCut x.2.line.buffered waits
      waiting = waits_there state x.2.line x.2.there rests

      by_fronts : (x.2.front ≡ fronts.Waits) ⊎ (LackMemory x.2.front fronts.Waits ⊎ IsEarly x.2.line.buffered x.2.front fronts.Waits)
          → PartWays settings conn state (outs_in (turn ∷ turns) ++ more) rest
      by_fronts (inl same) = absurd (never_waits state x.2.front x.2.due (sym same))
      by_fronts (inr differ) = record {
        turns = [];
        met = state;
        fronts = refl;
        caller = x.2.caller;
        asks = x.2.asks;
        line = x.2.line;
        there = x.2.there;
        one = x.2.front;
        other = fronts.Waits;
        stands = x.2.stands;
        stands_too = waiting;
        differ = differ;
        more = outs_in turns ++ more;
        rest = rest;
        first = behind_turn turn turns more ∙ ap (λ outs. outs ++ (outs_in turns ++ more)) x.2.sends_are;
        second = refl;
      }

  both_differ : (state : State) (turn other : Turn State) (turns others : List (Turn State)) (more rest : List OwnedOut)
      (x : AnswersFront settings conn state turn.sends turn.left) (y : AnswersFront settings conn state other.sends other.left)
      → LackMemory x.2.front y.2.front ⊎ IsEarly x.2.line.buffered x.2.front y.2.front
      → PartWays settings conn state (outs_in (turn ∷ turns) ++ more) (outs_in (other ∷ others) ++ rest)
  both_differ state turn other turns others more rest x y differ = record {
    turns = [];
    met = state;
    fronts = refl;
    caller = x.2.caller;
    asks = x.2.asks;
    line = x.2.line;
    there = x.2.there;
    one = x.2.front;
    other = y.2.front;
    stands = x.2.stands;
    stands_too = second_stands state turn.sends other.sends turn.left other.left x y;
    differ = differ;
    more = outs_in turns ++ more;
    rest = outs_in others ++ rest;
    first = behind_turn turn turns more ∙ ap (λ outs. outs ++ (outs_in turns ++ more)) x.2.sends_are;
    second = behind_turn other others rest ∙ ap (λ outs. outs ++ (outs_in others ++ rest)) y.2.sends_are;
  }

  -- a turn that both begin with
  begins_so : (state : State) (turn : Turn State) (one other : List OwnedOut) → AnswersFront settings conn state turn.sends turn.left → PartWays settings conn turn.left one other
      → PartWays settings conn state (turn.sends ++ one) (turn.sends ++ other)
  begins_so state turn one other x part = record {
    turns = turn ∷ part.turns;
    met = part.met;
    fronts = (x, part.fronts);
    caller = part.caller;
    asks = part.asks;
    line = part.line;
    there = part.there;
    one = part.one;
    other = part.other;
    stands = part.stands;
    stands_too = part.stands_too;
    differ = part.differ;
    more = part.more;
    rest = part.rest;
    first = ap (λ outs. turn.sends ++ outs) part.first ∙ sym (behind_turn turn part.turns (sends_of conn part.one ++ part.more));
    second = ap (λ outs. turn.sends ++ outs) part.second ∙ sym (behind_turn turn part.turns (sends_of conn part.other ++ part.rest));
  }

  pub fronts_once : (state : State) (turns others : List (Turn State)) (new last : State) (more rest : List OwnedOut) → Fronts state turns new → Rests conn new.lines
      → Fronts state others last → Rests conn last.lines → AreAlike state turns others new last more rest
  fronts_once state [] [] new last more rest x rested y resting = inl (refl, x ∙ sym y)
  fronts_once state [] (other ∷ others) new last more rest x rested y resting =
      inr (first_waits state other others more rest (subst (λ (s : State). Rests conn s.lines) x rested) y.0)
  fronts_once state (turn ∷ turns) [] new last more rest x rested y resting =
      inr (second_waits state turn turns more rest x.0 (subst (λ (s : State). Rests conn s.lines) y resting))
  fronts_once state (turn ∷ turns) (other ∷ others) new last more rest x rested y resting =
      by_fronts (λ z. fronts_once turn.left turns others new last more rest x.1 rested z resting)
      (one_front settings state.time state.history x.0.2.caller x.0.2.line.buffered x.0.2.front y.0.2.front x.0.2.stands (second_stands state turn.sends other.sends turn.left other.left x.0 y.0))
    where
      made : List OwnedOut → State → Turn State
      made sends left = record { sends = sends; left = left }

      by_rest : (turn ≡ other) → AreAlike turn.left turns others new last more rest → AreAlike state (turn ∷ turns) (other ∷ others) new last more rest
      by_rest one (inl same) = inl (ap (λ t. t ∷ turns) one ∙ ap (λ ts. other ∷ ts) same.0, same.1)
      by_rest one (inr part) =
          inr (subst (λ outs. PartWays settings conn state outs (outs_in (other ∷ others) ++ rest)) (sym (behind_turn turn turns more))
          (subst (PartWays settings conn state (turn.sends ++ (outs_in turns ++ more)))
          (ap (λ (t : Turn State). t.sends ++ (outs_in others ++ rest)) one ∙ sym (behind_turn other others rest))
          (begins_so state turn (outs_in turns ++ more) (outs_in others ++ rest) x.0 part)))

      by_fronts : (Fronts turn.left others last → AreAlike turn.left turns others new last more rest)
          → (x.0.2.front ≡ y.0.2.front) ⊎ (LackMemory x.0.2.front y.0.2.front ⊎ IsEarly x.0.2.line.buffered x.0.2.front y.0.2.front)
          → AreAlike state (turn ∷ turns) (other ∷ others) new last more rest
      by_fronts further (inl same) =
          let one = alike_turns state turn.sends other.sends turn.left other.left x.0 y.0 same in
          by_rest (ap (λ outs. made outs turn.left) one.0 ∙ ap (made other.sends) one.1)
          (further (subst (λ s. Fronts s others last) (sym one.1) y.1))
      by_fronts further (inr differ) = inr (both_differ state turn other turns others more rest x.0 y.0 differ)
