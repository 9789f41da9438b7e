-- How the domains stay apart.
use Rattle.std.specs.Prelude.{◌≡◌, ◌≢◌, ℕ, List, ◌++◌, Option, Some, None, ⊤}
use Rattle.dots_host.specs.declared.event.Event.{Event}
use Rattle.dots_host.specs.declared.event.Event.TheVariants as event
use Rattle.dots_host.specs.declared.out.OwnedOut.{OwnedOut}
use Rattle.dots_host.specs.Runs.{Turn, Chain, owed_in, outs_of}
use Rattle.dots_keys.specs.declared.request.Request.{Request}
use Rattle.dots_keys.specs.declared.request.Request.TheVariants as request
use Rattle.dots_settings.specs.declared.peer.Role.{Role}
use Rattle.dots_settings.specs.Settings.{SettingsValue}
use Rattle.dots_history.specs.Histories.{alone}
use Rattle.dots_settings.specs.Lookups.{role_of}
use Rattle.dots_machine.specs.Domains.{is_gateway, domain_for, config_domain}
use Rattle.dots_keys.specs.declared.exchange.Exchange.{Exchange}
use Rattle.dots_machine.specs.Requests.{IsReceived}
use Rattle.dots_machine.specs.Verdict.{Verdict}
use Rattle.rest_answers.specs.declared.caller.Caller.{Caller}
use Rattle.rest_answers.specs.Turns.{caller_of}
use Rattle.dots_machine.specs.Machine.{State, later, Hears, Decides, sends_of, after, lapsed, AnswersFront, receiving}
use Rattle.dots_machine.specs.Parts.{heard_in}
use Rattle.dots_machine.specs.declared.received.Received.TheVariants as received

-- two states of one time that have the same entries of a domain
pub record SameFor (domain : ℕ) (one other : State) : Type 0 where
  pub time : one.time ≡ other.time
  pub entries : alone domain one.history ≡ alone domain other.history

-- and in which its clients were heard at the same times
pub record HaveOnePart (settings : SettingsValue) (domain : ℕ) (one other : State) : Type 0 where
  pub same : SameFor domain one other
  pub heard : heard_in settings domain one ≡ heard_in settings domain other

-- for which domain a peer of this role makes a request: for mitigations, or for its session
abbrev pub domain_of : SettingsValue → Role → Request → Option ℕ
domain_of settings who (request.PutMitigation path body) = domain_for settings who path.cdid
domain_of settings who (request.GetMitigation path content observe) = domain_for settings who path.cdid
domain_of settings who (request.DeleteMitigation path) = domain_for settings who path.cdid
domain_of settings who (request.PutConfig sid body) = config_domain who
domain_of settings who (request.GetConfig sid) = config_domain who
domain_of settings who (request.DeleteConfig sid) = config_domain who
domain_of settings who (request.PutHeartbeat heard) = None

-- the event is a request for this domain
pub data AsksFor (settings : SettingsValue) (domain : ℕ) (what : Event) : Type 0 where
  by_datagram : (peer : ℕ) (datagram : List ℕ) (exchange : Exchange) (asked : Request) → what ≡ event.Datagram peer datagram
      → IsReceived datagram (is_gateway (role_of settings peer)) (received.Asked exchange asked)
      → domain_of settings (role_of settings peer) asked ≡ Some domain → AsksFor settings domain what

-- no datagram came, no piece of a connection, and no tick
abbrev pub IsNoRequest : Event → Type 0
IsNoRequest (event.Datagram peer datagram) = ⊥
IsNoRequest event.Tick = ⊥
IsNoRequest (event.Piece conn piece) = ⊥
IsNoRequest _ = ⊤

-- each who asks on the connection is of the domain, or none is
abbrev pub AsksOn : SettingsValue → ℕ → ℕ → State → Type 0
AsksOn settings domain conn state = (caller : Caller) → caller_of settings conn state.lines ≡ Some caller → caller.domain ≡ domain

abbrev pub AsksElsewhere : SettingsValue → ℕ → ℕ → State → Type 0
AsksElsewhere settings domain conn state = (caller : Caller) → caller_of settings conn state.lines ≡ Some caller → caller.domain ≢ domain

-- a state with the connections of another
abbrev pub connected_as : State → State → State
connected_as one other = record other { lines = one.lines }

-- A step from one state is for another domain, and leaves what this one has as it was; or its datagram is heard and can be decided on from the other
-- state in the same way, the sends begin with the replies of that verdict, whatever number Observe has, and it leaves this domain the same on both;
-- or its piece can be answered from the other state in the same way, where that has the same connections, and it leaves this domain the same on
-- both; or at a tick the same signals of this domain are lost from both; or none of these came, and the entries are as they were. Behind the replies
-- stand notifications, which go to observers of all domains.
pub data StaysApart (settings : SettingsValue) (domain : ℕ) (old other : State) (what : Event) (at : ℕ) (sends : List OwnedOut) (new : State) : Type 0 where
  elsewhere : (another : ℕ) → another ≢ domain → AsksFor settings another what → alone domain new.history ≡ alone domain old.history
      → StaysApart settings domain old other what at sends new
  decided_alike : (peer : ℕ) (datagram : List ℕ) (met left : State) (decided : Verdict) (number : Option ℕ) (notices : List OwnedOut) → what ≡ event.Datagram peer datagram
      → Hears settings (later old at) peer datagram met → Hears settings (later other at) peer datagram left
      → Decides settings met peer datagram decided → Decides settings left peer datagram decided
      → sends ≡ sends_of number decided peer ++ notices → HaveOnePart settings domain new (after decided left)
      → StaysApart settings domain old other what at sends new
  piece_elsewhere : (conn : ℕ) (piece : List ℕ) → what ≡ event.Piece conn piece → AsksElsewhere settings domain conn old → alone domain new.history ≡ alone domain old.history
      → StaysApart settings domain old other what at sends new
  answered_alike : (conn : ℕ) (piece : List ℕ) (turns others : List (Turn State)) (rested left : State) (notices : List OwnedOut) → what ≡ event.Piece conn piece
      → AsksOn settings domain conn old
      → Chain (AnswersFront settings conn) (receiving conn piece (later old at)) turns rested
      → Chain (AnswersFront settings conn) (receiving conn piece (later (connected_as old other) at)) others left
      → outs_of (owed_in turns) ≡ outs_of (owed_in others) → sends ≡ outs_of (owed_in turns) ++ notices → HaveOnePart settings domain new left
      → StaysApart settings domain old other what at sends new
  lapsed_alike : what ≡ event.Tick → HaveOnePart settings domain new (lapsed settings (later other at)) → StaysApart settings domain old other what at sends new
  without_request : IsNoRequest what → alone domain new.history ≡ alone domain old.history → StaysApart settings domain old other what at sends new
