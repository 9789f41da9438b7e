-- An event, joined from its parts.
use Rattle.std.proofs.Common.{◌≡◌, ◌≢◌, ℕ, eqb, Bool, inl, inr, true, false, List, [], ◌∷◌, ◌++◌, Option, Some, refl, sym, ap, ◌∙◌, subst}
use Rattle.std.specs.Bool.{MatchBool}
use Rattle.std.proofs.lemmas.Bool.{false≢true}
use Rattle.std.proofs.lemmas.Bool.Decides.{eqb_tells}
use Rattle.std.proofs.lemmas.List.{map-append}
use Rattle.dots_client.specs.declared.heard.Heard.{Heard}
use Rattle.dots_client.specs.declared.heard.Heard.TheVariants as heard
use Rattle.dots_client.specs.Client.{ClientValue}
use Rattle.dots_client.specs.Receiving.{Receives}
use Rattle.dots_host.specs.declared.event.Event.{Event}
use Rattle.dots_host.specs.declared.event.What.{What}
use Rattle.dots_host.specs.declared.event.What.TheVariants as what
use Rattle.dots_host.specs.declared.out.OwnedOut.{OwnedOut}
use Rattle.dots_host.specs.declared.out.OwnedOut.TheVariants as owned
use Rattle.dots_host.specs.Acts.{Timed, event_of}
use Rattle.dots_host.specs.Sending.{Handed}
use Rattle.dots_host.proofs.Sends.{handed_then, handed_none}
use Rattle.ask_agent.specs.declared.refusal.Refusal.{Refusal}
use Rattle.ask_agent.specs.Asking.{AskState, at_time, answers_to, refused_after, ReceivesDatagram, ReceivesEvent, AsksDue, HandsOut, Takes, Turns, to_server}

-- an event that isn't the last is a turn
pub taken_turns : (old new : AskState) (w : What) (room : List ℕ) (at : ℕ) (outs : List OwnedOut) → w ≢ what.End → w ≢ what.Failed → Takes old (event_of w room) at outs new
    → Turns old (event_of w room) at outs new
taken_turns old new (what.Datagram from len) room at outs e f takes = takes
taken_turns old new (what.Opened conn from) room at outs e f takes = takes
taken_turns old new (what.Piece conn len) room at outs e f takes = takes
taken_turns old new (what.Closed conn) room at outs e f takes = takes
taken_turns old new what.Tick room at outs e f takes = takes
taken_turns old new what.Restart room at outs e f takes = takes
taken_turns old new what.End room at outs e f takes = absurd (e refl)
taken_turns old new what.Failed room at outs e f takes = absurd (f refl)

-- nothing is heard of what is no datagram, nor of one from another peer
pub receives_nothing : (old : AskState) (w : What) (room : List ℕ) → ((from len : ℕ) → w ≡ what.Datagram from len → ⊥) → ReceivesEvent old (event_of w room) [] old
receives_nothing old (what.Datagram from len) room none = absurd (none from len refl)
receives_nothing old (what.Opened conn from) room none = (refl, refl)
receives_nothing old (what.Piece conn len) room none = (refl, refl)
receives_nothing old (what.Closed conn) room none = (refl, refl)
receives_nothing old what.Tick room none = (refl, refl)
receives_nothing old what.Restart room none = (refl, refl)
receives_nothing old what.End room none = (refl, refl)
receives_nothing old what.Failed room none = (refl, refl)

at_false : (b : Bool) (P Q : Type 0) → b ≡ false → Q → MatchBool b P Q
at_false true P Q is q = absurd (false≢true (sym is))
at_false false P Q is q = q

differs : (a b : ℕ) → a ≢ b → eqb a b ≡ false
differs a b apart = elim (eqb_tells a b) [ inl same ↦ absurd (apart same.1) | inr other ↦ other.0 ]

pub receives_other : (old : AskState) (w : What) (room : List ℕ) (from len server : ℕ) → w ≡ what.Datagram from len → server ≡ old.server → from ≢ server → ReceivesEvent old (event_of w room) [] old
receives_other old w room from len server is same apart =
    subst (λ v. ReceivesEvent old (event_of v room) [] old) (sym is)
    (at_false (eqb from old.server) _ _ (differs from old.server (λ equal. apart (equal ∙ sym same))) (refl, refl))

-- a heartbeat is answered
pub received_beat : (old new : AskState) (bytes answer sent : List ℕ) (peer : ℕ) (client : ClientValue) (a b : Option (List Timed)) (k l : ℕ) → Receives old.client bytes old.time (heard.Beat answer) client
    → new ≡ record old { client = client } → peer ≡ old.server → sent ≡ answer → Handed a k b l (owned.To peer sent ∷ [])
    → (answers : List (List ℕ)) × ReceivesDatagram old bytes answers new × Handed a k b l (to_server old.server answers)
received_beat old new bytes answer sent peer client a b k l receives leaves same spelled handed = (
  answer ∷ [],
  record { said = heard.Beat answer; client = client; receives = receives; answered = refl; leaves = leaves },
  subst (λ p. Handed a k b l (owned.To p answer ∷ [])) same (subst (λ (s : List ℕ). Handed a k b l (owned.To peer s ∷ [])) spelled handed),
)

silent : (said : Heard) → ((answer : List ℕ) → said ≡ heard.Beat answer → ⊥) → [] ≡ answers_to said
silent (heard.Granted mid) none = refl
silent (heard.Withdrawn mid) none = refl
silent (heard.Refused mid code) none = refl
silent (heard.Beat answer) none = absurd (none answer refl)
silent heard.Nothing none = refl
silent heard.NoMemory none = refl

-- only a refusal is kept
stays : (before : Option Refusal) (said : Heard) → ((mid code : ℕ) → said ≡ heard.Refused mid code → ⊥) → before ≡ refused_after before said
stays before (heard.Granted mid) none = refl
stays before (heard.Withdrawn mid) none = refl
stays before (heard.Refused mid code) none = absurd (none mid code refl)
stays before (heard.Beat answer) none = refl
stays before heard.Nothing none = refl
stays before heard.NoMemory none = refl

-- a refusal
pub received_refused : (old new : AskState) (bytes : List ℕ) (mid code : ℕ) (client : ClientValue) (a : Option (List Timed)) (k : ℕ) → Receives old.client bytes old.time (heard.Refused mid code) client
    → new ≡ record old { client = client; refused = Some (record { mid = mid; code = code }) }
    → (answers : List (List ℕ)) × ReceivesDatagram old bytes answers new × Handed a k a k (to_server old.server answers)
received_refused old new bytes mid code client a k receives leaves =
    ([], record { said = heard.Refused mid code; client = client; receives = receives; answered = refl; leaves = leaves }, handed_none a k)

-- and nothing else
pub received_silent : (old new : AskState) (bytes : List ℕ) (said : Heard) (client : ClientValue) (a : Option (List Timed)) (k : ℕ) → ((answer : List ℕ) → said ≡ heard.Beat answer → ⊥)
    → ((mid code : ℕ) → said ≡ heard.Refused mid code → ⊥) → Receives old.client bytes old.time said client → new ≡ record old { client = client }
    → (answers : List (List ℕ)) × ReceivesDatagram old bytes answers new × Handed a k a k (to_server old.server answers)
received_silent old new bytes said client a k none nor receives leaves = (
  [],
  record {
    said = said;
    client = client;
    receives = receives;
    answered = silent said none;
    leaves = leaves ∙ ap (λ (r : Option Refusal). record old { client = client; refused = r }) (stays old.refused said nor);
  },
  handed_none a k,
)

-- two lists of messages that were sent to one server
pub sends_joined : (server again : ℕ) (answers messages : List (List ℕ)) (a b c : Option (List Timed)) (k l m : ℕ) → again ≡ server → Handed a k b l (to_server server answers)
    → Handed b l c m (to_server again messages) → Handed a k c m (to_server server (answers ++ messages))
sends_joined server again answers messages a b c k l m same first second =
    subst (λ outs. Handed a k c m outs) (sym (map-append (λ message. owned.To server message) answers messages))
    (handed_then a b c k l m (to_server server answers) (to_server server messages) first (subst (λ s. Handed b l c m (to_server s messages)) same second))

-- the parts of an event
pub takes_joined : (old received asked new : AskState) (came : Event) (at : ℕ) (a b c : Option (List Timed)) (k l m : ℕ)
    → ((answers : List (List ℕ)) × ReceivesEvent (at_time old at) came answers received × Handed a k b l (to_server old.server answers)) → received.server ≡ old.server → AsksDue received asked
    → asked.server ≡ received.server → ((messages : List (List ℕ)) × HandsOut asked messages new × Handed b l c m (to_server asked.server messages))
    → (outs : List OwnedOut) × Takes old came at outs new × Handed a k c m outs
takes_joined old received asked new came at a b c k l m (answers, receives, first) same asks still (messages, hands, second) = (
  to_server old.server (answers ++ messages),
  record { received = received; answers = answers; receives = receives; asked = asked; asks = asks; messages = messages; hands = hands; sends = refl },
  sends_joined old.server asked.server answers messages a b c k l m (still ∙ same) first second,
)
