-- A client with what it asks and when, as a machine over the events of a wire (RFC 9132, section 4.4). Times are in seconds.
use Rattle.std.specs.Prelude.{◌≡◌, ℕ, zero, suc, ◌+◌, ◌%◌, ◌^◌, ◌≤◌, max, nat_le, ◌==◌, if◌then◌else◌, List, [], ◌∷◌, ◌++◌, map, slice_get, Option, Some, None, unwrap_or}
use Rattle.std.specs.Bool.{MatchBool}
use Rattle.std.specs.List.{list_any}
use Rattle.dots_host.specs.declared.event.Event.{Event}
use Rattle.dots_host.specs.declared.event.Event.TheVariants as event
use Rattle.dots_host.specs.declared.out.OwnedOut.{OwnedOut}
use Rattle.dots_host.specs.declared.out.OwnedOut.TheVariants as owned
use Rattle.dots_host.specs.Runs.{in_one_turn}
use Rattle.dots_client.specs.declared.ask.Ask.{Ask}
use Rattle.dots_client.specs.declared.ask.Ask.TheVariants as ask
use Rattle.dots_client.specs.declared.granted.Granted.{Granted}
use Rattle.dots_client.specs.declared.heard.Heard.{Heard}
use Rattle.dots_client.specs.declared.heard.Heard.TheVariants as heard
use Rattle.dots_client.specs.Client.{ClientValue, has_mid, ask_fault, Faults, asked_at, tick_answer, tick_after}
use Rattle.dots_client.specs.Receiving.{Receives}
use Rattle.ask_agent.specs.declared.planned.Planned.{Planned}
use Rattle.ask_agent.specs.declared.settings.AskSettings.{AskSettings}
use Rattle.ask_agent.specs.declared.firsts.Firsts.{Firsts}
use Rattle.ask_agent.specs.declared.refusal.Refusal.{Refusal}
use Rattle.ask_agent.specs.declared.unsent.Unsent.{Unsent}
use Rattle.ask_agent.specs.declared.unsent.Why.{Why}
use Rattle.ask_agent.specs.declared.unsent.Why.TheVariants as why

-- The asks stand in the order of the settings, in which their times don't fall. The first of them were reached, so many, and some of
-- these weren't sent.
pub record AskState : Type 0 where
  -- the peer that is the client's server
  pub server : ℕ
  pub time : ℕ
  pub client : ClientValue
  pub asks : List Planned
  pub reached : ℕ
  pub unsent : List Unsent
  -- the last request that was refused
  pub refused : Option Refusal

-- at the start, by the settings, and by these numbers where the settings don't say them
abbrev pub start_of : AskSettings → Firsts → AskState
start_of settings firsts = record {
  server = settings.server;
  time = 0;
  client = record {
    cuid = settings.cuid;
    room = 16;
    mid = unwrap_or settings.mid firsts.mid;
    number = unwrap_or settings.number firsts.number;
    waiting = [];
    ledger = [];
  };
  asks = settings.asks;
  reached = 0;
  unsent = [];
  refused = None;
}

-- there is room for each ask that isn't reached yet among those that aren't sent
pub record HasRoom (reached asks unsent capacity : ℕ) : Type 0 where
  pub within : reached ≤ asks
  pub room : unsent + asks ≤ capacity + reached

-- ---- one ask

-- the mid that is refreshed or withdrawn, where no row of the ledger has it
abbrev pub unknown_in : List Granted → ℕ → Option ℕ
unknown_in ledger mid = if list_any (has_mid mid) ledger then None else Some mid

abbrev pub unknown_mid : List Granted → Ask → Option ℕ
unknown_mid ledger (ask.New asked lifetime) = None
unknown_mid ledger (ask.Refresh mid lifetime) = unknown_in ledger mid
unknown_mid ledger (ask.Withdraw mid) = unknown_in ledger mid

-- The ask is taken, with the Message ID of its request as the random word. Or it isn't, for the first cause that there is or for want
-- of memory, and the client stays as it was.
abbrev pub Makes : ClientValue → Ask → ℕ → Option Why → ClientValue → Type 0
Makes old asked now None new =
    (unknown_mid old.ledger asked ≡ None) × (ask_fault old asked ≡ None) × (new ≡ asked_at old asked now (old.number % 2 ^ 16))
Makes old asked now (Some (why.Unknown mid)) new = (unknown_mid old.ledger asked ≡ Some mid) × (new ≡ old)
Makes old asked now (Some (why.Refused fault)) new =
    (unknown_mid old.ledger asked ≡ None) × Faults fault (ask_fault old asked) × (new ≡ old)

-- an ask that isn't sent is noted, with its number in the settings, from 1 on
abbrev pub noted : ℕ → Option Why → List Unsent
noted number None = []
noted number (Some cause) = record { number = number; why = cause } ∷ []

-- ---- the asks whose time is reached

abbrev pub when_reached : ℕ → Option Planned → Option Planned
when_reached now None = None
when_reached now (Some planned) = if nat_le planned.at now then Some planned else None

-- the next ask, where its time is reached
abbrev pub next_ask : AskState → Option Planned
next_ask state = when_reached state.time (slice_get state.asks state.reached)

-- it is made
pub record AsksNext (old new : AskState) : Type 0 where
  pub planned : Planned
  pub is_next : next_ask old ≡ Some planned
  pub cause : Option Why
  pub client : ClientValue
  pub makes : Makes old.client planned.ask old.time cause client
  pub leaves : new ≡ record old { client = client; reached = old.reached + 1; unsent = old.unsent ++ noted (old.reached + 1) cause }

-- so many asks are made, one after the other, and the next one's time isn't reached
abbrev pub AsksEach : ℕ → AskState → AskState → Type 0
AsksEach zero old new = (next_ask old ≡ None) × (new ≡ old)
AsksEach (suc count) old new = (between : AskState) × AsksNext old between × AsksEach count between new

abbrev pub AsksDue : AskState → AskState → Type 0
AsksDue old new = (count : ℕ) × AsksEach count old new

-- ---- what is sent

-- what is due is handed out, one message after the other until none is
abbrev pub Drains : ℕ → ClientValue → List (List ℕ) → ClientValue → Type 0
Drains now old [] new = (tick_answer now old ≡ None) × (new ≡ tick_after now old)
Drains now old (message ∷ messages) new = (tick_answer now old ≡ Some message) × Drains now (tick_after now old) messages new

abbrev pub messages_in : Option (List ℕ) → List (List ℕ)
messages_in None = []
messages_in (Some message) = message ∷ []

abbrev pub HandsOut : AskState → List (List ℕ) → AskState → Type 0
HandsOut old messages new = (client : ClientValue) × Drains old.time old.client messages client × (new ≡ record old { client = client })

abbrev pub to_server : ℕ → List (List ℕ) → List OwnedOut
to_server server messages = map (λ message. owned.To server message) messages

-- ---- what is heard

-- a heartbeat is answered, and nothing else
abbrev pub answers_to : Heard → List (List ℕ)
answers_to (heard.Beat answer) = answer ∷ []
answers_to _ = []

-- a refusal is kept
abbrev pub refused_after : Option Refusal → Heard → Option Refusal
refused_after before (heard.Refused mid code) = Some (record { mid = mid; code = code })
refused_after before _ = before

-- a datagram of the server
pub record ReceivesDatagram (old : AskState) (bytes : List ℕ) (answers : List (List ℕ)) (new : AskState) : Type 0 where
  pub said : Heard
  pub client : ClientValue
  pub receives : Receives old.client bytes old.time said client
  pub answered : answers ≡ answers_to said
  pub leaves : new ≡ record old { client = client; refused = refused_after old.refused said }

abbrev pub ReceivesNothing : AskState → List (List ℕ) → AskState → Type 0
ReceivesNothing old answers new = (answers ≡ []) × (new ≡ old)

-- an event other than a datagram of the server says nothing
abbrev pub ReceivesEvent : AskState → Event → List (List ℕ) → AskState → Type 0
ReceivesEvent old (event.Datagram from bytes) answers new = MatchBool (from == old.server) (ReceivesDatagram old bytes answers new) (ReceivesNothing old answers new)
ReceivesEvent old _ answers new = ReceivesNothing old answers new

-- ---- an event

-- the time never falls
abbrev pub at_time : AskState → ℕ → AskState
at_time state at = record state { time = max state.time at }

-- Time passes; what came is heard; the asks whose time is reached are made; and what is due is sent. All goes to the server.
pub record Takes (old : AskState) (came : Event) (at : ℕ) (outs : List OwnedOut) (new : AskState) : Type 0 where
  pub received : AskState
  pub answers : List (List ℕ)
  pub receives : ReceivesEvent (at_time old at) came answers received
  pub asked : AskState
  pub asks : AsksDue received asked
  pub messages : List (List ℕ)
  pub hands : HandsOut asked messages new
  pub sends : outs ≡ to_server old.server (answers ++ messages)

-- the end and a failure of the wire change nothing
abbrev pub Turns : AskState → Event → ℕ → List OwnedOut → AskState → Type 0
Turns old event.End at outs new = (outs ≡ []) × (new ≡ old)
Turns old event.Failed at outs new = (outs ≡ []) × (new ≡ old)
Turns old came at outs new = Takes old came at outs new

-- an event, with the sends that it owes, each beside the state after it
abbrev pub step : AskState → Event → ℕ → List (AskState × OwnedOut) → AskState → Type 0
step old came at owed new = in_one_turn (λ outs. Turns old came at outs new) owed new
