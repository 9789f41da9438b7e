-- What is answered of a connection goes by the entries of its domain alone.
use Rattle.std.proofs.Common.{◌≡◌, ◌==◌, ℕ, Bool, true, false, not, cond, List, [], ◌∷◌, ◌++◌, Some, None, refl, sym, ap, ◌∙◌, subst}
use Rattle.std.specs.Prelude.{find, option_map, option_and_then}
use Rattle.std.specs.List.{list_any}
use Rattle.std.proofs.lemmas.Bool.{cond-false, or_from}
use Rattle.std.proofs.lemmas.List.Elements.{filter-append}
use Rattle.std.proofs.lemmas.Option.{none-some}
use Rattle.dots_host.specs.declared.out.OwnedOut.{OwnedOut}
use Rattle.dots_host.specs.Runs.{Turn, Chain}
use Rattle.dots_settings.specs.Settings.{SettingsValue}
use Rattle.dots_history.specs.declared.entry.Entry.{Entry}
use Rattle.dots_history.specs.Histories.{alone}
use Rattle.stream_table.specs.Lines.{Line, PeerLines, is_number, has_number, peer_in, peer_of, others, row_forgotten, forgotten}
use Rattle.stream_table.proofs.Buffering.{same_peer}
use Rattle.rest_answers.specs.declared.caller.Caller.{Caller}
use Rattle.rest_answers.specs.declared.front.RestFront.TheVariants as fronts
use Rattle.rest_answers.specs.Turns.{RestFront, caller_by, caller_of, lines_behind, HttpTurn}
use Rattle.rest_answers.proofs.Apart.{turn_alike, turn_elsewhere}
use Rattle.dots_machine.specs.Machine.{State, AnswersFront, receiving}
use Rattle.dots_machine.specs.Apart.{SameFor, AsksOn, AsksElsewhere}
use Rattle.dots_machine.proofs.Fronts.{outs_in, outs_first, front_lines, front_time}

-- ---- who asks on a connection stays the same, or nobody does any more

none_numbered : (conn : ℕ) (lines : List Line) → list_any (is_number conn) (others conn lines) ≡ false
none_numbered conn [] = refl
none_numbered conn (line ∷ lines) = by_test (is_number conn line) refl (none_numbered conn lines)
  where
    by_test : (b : Bool) → is_number conn line ≡ b → list_any (is_number conn) (others conn lines) ≡ false
        → list_any (is_number conn) (cond (not b) (line ∷ others conn lines) (others conn lines)) ≡ false
    by_test true is rest = rest
    by_test false is rest = or_from (is_number conn line) (list_any (is_number conn) (others conn lines)) is rest

pub peer_gone : (conn : ℕ) (rows : List PeerLines) → peer_of conn (forgotten conn rows) ≡ None
peer_gone conn [] = refl
peer_gone conn (row ∷ rows) =
    ap (option_map peer_in) (cond-false (has_number conn (row_forgotten conn row)) (Some (row_forgotten conn row)) (find (has_number conn) (forgotten conn rows)) (none_numbered conn row.lines))
    ∙ peer_gone conn rows

module _ (settings : SettingsValue) (conn : ℕ) where
  module _ (lines : List PeerLines) (caller : Caller) where
    gone_asks : caller_of settings conn (forgotten conn lines) ≡ Some caller → caller_of settings conn lines ≡ Some caller
    gone_asks is = absurd (none-some caller (sym (ap (option_and_then (caller_by settings)) (peer_gone conn lines)) ∙ is))

    still_asks : (at : RestFront) → caller_of settings conn (lines_behind conn at lines) ≡ Some caller → caller_of settings conn lines ≡ Some caller
    still_asks fronts.Waits is = is
    still_asks (fronts.Refused fault) is = gone_asks is
    still_asks (fronts.Answered size true answered) is = gone_asks is
    still_asks (fronts.Answered size false answered) is = sym (ap (option_and_then (caller_by settings)) (same_peer conn _ lines)) ∙ is

  front_asks : (state : State) (sends : List OwnedOut) (new : State) (x : AnswersFront settings conn state sends new) (caller : Caller)
      → caller_of settings conn new.lines ≡ Some caller → caller_of settings conn state.lines ≡ Some caller
  front_asks state sends new x caller is =
      still_asks state.lines caller x.2.front
      (subst (λ ls. caller_of settings conn ls ≡ Some caller) (front_lines settings conn state sends new x ∙ x.2.lines_are) is)

  pub on_still : (domain : ℕ) (state : State) (sends : List OwnedOut) (new : State) → AnswersFront settings conn state sends new → AsksOn settings domain conn state → AsksOn settings domain conn new
  on_still domain state sends new x asks caller is = asks caller (front_asks state sends new x caller is)

  pub elsewhere_still : (domain : ℕ) (state : State) (sends : List OwnedOut) (new : State) → AnswersFront settings conn state sends new → AsksElsewhere settings domain conn state
      → AsksElsewhere settings domain conn new
  elsewhere_still domain state sends new x asks caller is = asks caller (front_asks state sends new x caller is)

  -- a piece changes nobody who asks
  received_asks : (piece : List ℕ) (state : State) → caller_of settings conn (receiving conn piece state).lines ≡ caller_of settings conn state.lines
  received_asks piece state = ap (option_and_then (caller_by settings)) (same_peer conn _ state.lines)

  pub on_received : (domain : ℕ) (piece : List ℕ) (state : State) → AsksOn settings domain conn state → AsksOn settings domain conn (receiving conn piece state)
  on_received domain piece state asks caller is = asks caller (sym (received_asks piece state) ∙ is)

  pub elsewhere_received : (domain : ℕ) (piece : List ℕ) (state : State) → AsksElsewhere settings domain conn state → AsksElsewhere settings domain conn (receiving conn piece state)
  elsewhere_received domain piece state asks caller is = asks caller (sym (received_asks piece state) ∙ is)

  -- ---- of another domain

  pub front_elsewhere : (domain : ℕ) (state : State) (sends : List OwnedOut) (new : State) → AnswersFront settings conn state sends new → AsksElsewhere settings domain conn state
      → alone domain new.history ≡ alone domain state.history
  front_elsewhere domain state sends new x asks =
      ap (λ (s : State). alone domain s.history) x.3
      ∙ turn_elsewhere settings conn state.time state.history state.lines sends x.0 x.1 x.2.caller x.2 x.2.asks domain (asks x.2.caller x.2.asks)

  pub fronts_elsewhere : (domain : ℕ) (state : State) (turns : List (Turn State)) (new : State) → Chain (AnswersFront settings conn) state turns new → AsksElsewhere settings domain conn state
      → alone domain new.history ≡ alone domain state.history
  fronts_elsewhere domain state [] new x asks = ap (λ (s : State). alone domain s.history) x
  fronts_elsewhere domain state (turn ∷ turns) new x asks =
      fronts_elsewhere domain turn.left turns new x.1 (elsewhere_still domain state turn.sends turn.left x.0 asks)
      ∙ front_elsewhere domain state turn.sends turn.left x.0 asks

  -- ---- of the domain

  module _ (domain : ℕ) where
    -- what a turn adds is the same by the entries of the domain, and is of it
    pub record FrontAlike (one other : State) (sends : List OwnedOut) (new : State) : Type 0 where
      pub extra : List Entry
      pub history_is : new.history ≡ one.history ++ extra
      pub own : alone domain extra ≡ extra
      pub lines : List PeerLines
      pub lines_are : new.lines ≡ lines
      pub turn : HttpTurn settings conn one.time other.history one.lines sends (other.history ++ extra) lines

    pub front_alike : (one other : State) (sends : List OwnedOut) (new : State) → AnswersFront settings conn one sends new → AsksOn settings domain conn one
        → alone domain one.history ≡ alone domain other.history → FrontAlike one other sends new
    front_alike one other sends new x asks same =
        let caller : Caller = x.2.caller in
        let here : caller.domain ≡ domain = asks caller x.2.asks in
        let a = turn_alike settings conn one.time one.history other.history one.lines sends x.0 x.1 caller x.2 x.2.asks
        (subst (λ d. alone d one.history ≡ alone d other.history) (sym here) same) in record {
          extra = a.0;
          history_is = ap (λ (s : State). s.history) x.3 ∙ a.1;
          own = subst (λ d. alone d a.0 ≡ a.0) here a.2;
          lines = x.1;
          lines_are = ap (λ (s : State). s.lines) x.3;
          turn = a.3;
        }

    pub added_alike : (one other extra : List Entry) → alone domain one ≡ alone domain other → alone domain (one ++ extra) ≡ alone domain (other ++ extra)
    added_alike one other extra same =
        filter-append (λ (e : Entry). e.domain == domain) one extra ∙ ap (λ es. es ++ alone domain extra) same
        ∙ sym (filter-append (λ (e : Entry). e.domain == domain) other extra)

    -- the same is answered from another state, which has the same connections
    abbrev pub FrontsAlike : State → List (Turn State) → State → Type 0
    FrontsAlike other turns new =
        (others : List (Turn State)) × (left : State) × Chain (AnswersFront settings conn) other others left × (outs_in turns ≡ outs_in others) × SameFor domain new left

    pub fronts_alike : (one other : State) (turns : List (Turn State)) (new : State) → Chain (AnswersFront settings conn) one turns new → AsksOn settings domain conn one
        → one.lines ≡ other.lines → SameFor domain one other → FrontsAlike other turns new
    fronts_alike one other [] new x asks lines same =
        ([], other, refl, refl, record { time = ap (λ (s : State). s.time) x ∙ same.time; entries = ap (λ (s : State). alone domain s.history) x ∙ same.entries })
    fronts_alike one other (turn ∷ turns) new x asks lines same =
        let a = front_alike one other turn.sends turn.left x.0 asks same.entries in
        let next : State = record other { history = other.history ++ a.extra; lines = a.lines } in
        let answers : AnswersFront settings conn other turn.sends next = (
          other.history ++ a.extra,
          a.lines,
          subst (λ t. HttpTurn settings conn t other.history other.lines turn.sends (other.history ++ a.extra) a.lines) same.time
              (subst (λ ls. HttpTurn settings conn one.time other.history ls turn.sends (other.history ++ a.extra) a.lines) lines a.turn),
          refl,
        ) in
        let left : SameFor domain turn.left next = record {
          time = front_time settings conn one turn.sends turn.left x.0 ∙ same.time;
          entries = ap (alone domain) a.history_is ∙ added_alike one.history other.history a.extra same.entries;
        } in
        let more = fronts_alike turn.left next turns new x.1 (on_still domain one turn.sends turn.left x.0 asks) a.lines_are left in
        let first : Turn State = record { sends = turn.sends; left = next } in (
          first ∷ more.0,
          more.1,
          (answers, more.2),
          outs_first turn turns ∙ ap (λ outs. turn.sends ++ outs) more.3 ∙ sym (outs_first first more.0),
          more.4,
        )
