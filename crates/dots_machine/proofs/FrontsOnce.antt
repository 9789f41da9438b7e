-- The sends fix what was answered of a connection.
use Rattle.std.proofs.Common.{◌≡◌, inl, inr, ℕ, Bool, true, false, List, [], ◌∷◌, ◌++◌, refl, sym, ap, ◌∙◌, subst, append_assoc}
use Rattle.std.proofs.lemmas.Bool.{false≢true}
use Rattle.dots_host.specs.declared.out.OwnedOut.{OwnedOut}
use Rattle.dots_host.specs.declared.out.OwnedOut.TheVariants as owned
use Rattle.dots_host.specs.Runs.{Turn, Chain}
use Rattle.dots_settings.specs.Settings.{SettingsValue}
use Rattle.dots_history.specs.declared.entry.Entry.{Entry}
use Rattle.coap_observe.specs.Observed.{ObservedValue}
use Rattle.coap_observe.specs.Seen.{Lists}
use Rattle.session_core.specs.declared.contact.PeerContact.{PeerContact}
use Rattle.session_core.specs.Notifying.{Bodies, Notifies, Apart}
use Rattle.stream_table.specs.Lines.{PeerLines}
use Rattle.rest_answers.proofs.Turning.{turn_begins, first_send_fixes}
use Rattle.dots_machine.specs.Observing.{bodies_at}
use Rattle.dots_machine.specs.Machine.{State, seen_in, Notified, AnswersFront, Takes}
use Rattle.dots_machine.proofs.Observing.{notified_once}
use Rattle.dots_machine.proofs.Fronts.{outs_in, outs_first, fronts_observers, takes_outs}

-- ---- what goes to a connection, and what doesn't

abbrev pub is_on : OwnedOut → Bool
is_on (owned.Conn conn bytes) = true
is_on _ = false

-- the first of these isn't for a connection
abbrev pub BeginsElsewhere : List OwnedOut → Type 0
BeginsElsewhere [] = Unit {0}
BeginsElsewhere (out ∷ outs) = is_on out ≡ false

never_on : (outs tail : List OwnedOut) (conn : ℕ) (reply : List ℕ) → BeginsElsewhere outs → outs ≡ owned.Conn conn reply ∷ tail → ⊥
never_on [] tail conn reply elsewhere is = cc is
never_on (out ∷ outs) tail conn reply elsewhere is = let first : out ≡ owned.Conn conn reply = cc is in false≢true (sym elsewhere ∙ ap is_on first)

pub notices_elsewhere : (lists : Lists) (bodies : Bodies) (old new : List ObservedValue) (contacts left : List PeerContact) (sends : List OwnedOut)
    → Notifies lists bodies old contacts sends new left → BeginsElsewhere sends
notices_elsewhere lists bodies [] new contacts left sends n = subst BeginsElsewhere (sym n.0) tt
notices_elsewhere lists bodies (o ∷ os) new contacts left sends (inl n) = notices_elsewhere lists bodies os n.0 contacts left sends n.2
notices_elsewhere lists bodies (o ∷ os) new contacts left sends (inr n) = subst BeginsElsewhere (sym n.5) refl

-- ---- one front, and one after the other

first_out : (o p : OwnedOut) (os ps : List OwnedOut) → o ∷ os ≡ p ∷ ps → o ≡ p
first_out o p os ps e = cc e

other_outs : (o p : OwnedOut) (os ps : List OwnedOut) → o ∷ os ≡ p ∷ ps → os ≡ ps
other_outs o p os ps e = cc e

without_front : (front one other : List OwnedOut) → front ++ one ≡ front ++ other → one ≡ other
without_front [] one other same = same
without_front (out ∷ front) one other same = without_front front one other (other_outs out out (front ++ one) (front ++ other) same)

module _ (settings : SettingsValue) (conn : ℕ) where
  abbrev Fronts : State → List (Turn State) → State → Type 0
  Fronts state turns new = Chain (AnswersFront settings conn) state turns new

  abbrev with_front : State → List Entry → List PeerLines → State
  with_front state history lines = record state { history = history; lines = lines }

  pub front_begins : (state : State) (sends : List OwnedOut) (new : State) → AnswersFront settings conn state sends new → (reply : List ℕ) × (rest : List OwnedOut) × (sends ≡ owned.Conn conn reply ∷ rest)
  front_begins state sends new x = turn_begins settings conn state.time state.history state.lines sends x.0 x.1 x.2

  front_once : (state : State) (out : OwnedOut) (rest others : List OwnedOut) (new last : State) → AnswersFront settings conn state (out ∷ rest) new → AnswersFront settings conn state (out ∷ others) last
      → (rest ≡ others) × (new ≡ last)
  front_once state out rest others new last x y =
      let same = first_send_fixes settings conn state.time state.history state.lines out rest others x.0 y.0 x.1 y.1 x.2 y.2 in
      (same.0, x.3 ∙ ap (λ es. with_front state es x.1) same.1 ∙ ap (λ ls. with_front state y.0 ls) same.2 ∙ sym y.3)

  module _ (state : State) (turn other : Turn State) (x : AnswersFront settings conn state turn.sends turn.left) (y : AnswersFront settings conn state other.sends other.left)
      (more rest : List OwnedOut) (same : turn.sends ++ more ≡ other.sends ++ rest) where
    -- two turns of one state, with the same sends and others behind them
    turn_once : (turn ≡ other) × (turn.left ≡ other.left) × (more ≡ rest)
    turn_once =
        let a = front_begins state turn.sends turn.left x in
        let b = front_begins state other.sends other.left y in
        let whole : owned.Conn conn a.0 ∷ (a.1 ++ more) ≡ owned.Conn conn b.0 ∷ (b.1 ++ rest) =
        sym (ap (λ outs. outs ++ more) a.2) ∙ same ∙ ap (λ outs. outs ++ rest) b.2 in
        let first : owned.Conn conn a.0 ≡ owned.Conn conn b.0 = first_out (owned.Conn conn a.0) (owned.Conn conn b.0) (a.1 ++ more) (b.1 ++ rest) whole in
        let tails : a.1 ++ more ≡ b.1 ++ rest = other_outs (owned.Conn conn a.0) (owned.Conn conn b.0) (a.1 ++ more) (b.1 ++ rest) whole in
        let one = front_once state (owned.Conn conn a.0) a.1 b.1 turn.left other.left (subst (λ outs. AnswersFront settings conn state outs turn.left) a.2 x)
        (subst (λ out. AnswersFront settings conn state (out ∷ b.1) other.left) (sym first) (subst (λ outs. AnswersFront settings conn state outs other.left) b.2 y)) in
        let sends : turn.sends ≡ other.sends = a.2 ∙ ap (λ out. out ∷ a.1) first ∙ ap (λ outs. owned.Conn conn b.0 ∷ outs) one.0 ∙ sym b.2 in (
          ap (λ outs. made outs turn.left) sends ∙ ap (λ left. made other.sends left) one.1,
          one.1,
          without_front b.1 more rest (sym (ap (λ outs. outs ++ more) one.0) ∙ tails),
        )
      where
        made : List OwnedOut → State → Turn State
        made sends left = record { sends = sends; left = left }

  chain_once : (state : State) (turns others : List (Turn State)) (new last : State) (more rest : List OwnedOut) → Fronts state turns new → Fronts state others last
      → BeginsElsewhere more → BeginsElsewhere rest → outs_in turns ++ more ≡ outs_in others ++ rest → (turns ≡ others) × (new ≡ last) × (more ≡ rest)
  chain_once state [] [] new last more rest x y none nought same = (refl, x ∙ sym y, same)
  chain_once state [] (other ∷ others) new last more rest x y none nought same =
      let b = front_begins state other.sends other.left y.0 in
      absurd (never_on more ((b.1 ++ outs_in others) ++ rest) conn b.0 none (same ∙ ap (λ outs. outs ++ rest) (outs_first other others ∙ ap (λ outs. outs ++ outs_in others) b.2)))
  chain_once state (turn ∷ turns) [] new last more rest x y none nought same =
      let a = front_begins state turn.sends turn.left x.0 in
      absurd (never_on rest ((a.1 ++ outs_in turns) ++ more) conn a.0 nought (sym same ∙ ap (λ outs. outs ++ more) (outs_first turn turns ∙ ap (λ outs. outs ++ outs_in turns) a.2)))
  chain_once state (turn ∷ turns) (other ∷ others) new last more rest x y none nought same =
      let whole : turn.sends ++ (outs_in turns ++ more) ≡ other.sends ++ (outs_in others ++ rest) =
      sym (ap (λ outs. outs ++ more) (outs_first turn turns) ∙ append_assoc turn.sends (outs_in turns) more)
      ∙ same ∙ ap (λ outs. outs ++ rest) (outs_first other others) ∙ append_assoc other.sends (outs_in others) rest in
      let one = turn_once state turn other x.0 y.0 (outs_in turns ++ more) (outs_in others ++ rest) whole in
      let tail = chain_once turn.left turns others new last more rest x.1 (subst (λ s. Fronts s others last) (sym one.1) y.1) none nought one.2 in
      (ap (λ t. t ∷ turns) one.0 ∙ ap (λ ts. other ∷ ts) tail.0, tail.1, tail.2)

  -- ---- a piece

  module _ (state : State) (turns others : List (Turn State)) (new last : State) (apart : Apart state.observers) (x : Takes settings conn state turns new) (y : Takes settings conn state others last)
      (same : outs_in turns ≡ outs_in others) where
    one : (x.answered ≡ y.answered) × (x.rested ≡ y.rested) × (x.notices ≡ y.notices)
    one =
        chain_once state x.answered y.answered x.rested y.rested x.notices y.notices x.fronts y.fronts
        (notices_elsewhere (seen_in settings x.rested) (bodies_at settings x.rested.time x.rested.history) x.rested.observers x.notified.0 x.rested.contacts x.notified.1 x.notices x.notified.2)
        (notices_elsewhere (seen_in settings y.rested) (bodies_at settings y.rested.time y.rested.history) y.rested.observers y.notified.0 y.rested.contacts y.notified.1 y.notices y.notified.2)
        (sym (takes_outs settings conn state turns new x) ∙ same ∙ takes_outs settings conn state others last y)

    same_left : new ≡ last
    same_left =
        notified_once settings y.rested new last y.notices (subst Apart (sym (fronts_observers settings conn state y.answered y.rested y.fronts)) apart)
        (subst (λ notices. Notified settings y.rested notices new) one.2 (subst (λ from. Notified settings from x.notices new) one.1 x.notified)) y.notified

    pub takes_once : (turns ≡ others) × (new ≡ last)
    takes_once = (
      x.turns_are ∙ ap (λ answered. all answered x.notices new) one.0 ∙ ap (λ notices. all y.answered notices new) one.2 ∙ ap (all y.answered y.notices) same_left ∙ sym y.turns_are,
      same_left,
    )
      where
        all : List (Turn State) → List OwnedOut → State → List (Turn State)
        all answered notices left = answered ++ record { sends = notices; left = left } ∷ []
