-- A gateway with its store as a machine over the events of a wire (RFC 8811, section 2.2.3). It needs no disk: what a restart finds on one
-- is what was kept. Times are in seconds.
use Rattle.std.specs.Prelude.{◌≡◌, ℕ, ◌==◌, max, List, [], ◌∷◌, ◌++◌, map, codes, true, option_to_list, Ok, Err}
use Rattle.std.specs.Bool.{MatchBool}
use Rattle.coap_message.specs.declared.codes.TheConstants.{SERVICE_UNAVAILABLE, INTERNAL_SERVER_ERROR}
use Rattle.coap_message.specs.Message.{CoapMessage, IsMessage, spelling}
use Rattle.dots_keys.specs.Exchanges.{exchange_in, is_request}
use Rattle.dots_keys.specs.Replies.{plain}
use Rattle.dots_host.specs.declared.event.Event.{Event}
use Rattle.dots_host.specs.declared.event.Event.TheVariants as event
use Rattle.dots_host.specs.declared.out.OwnedOut.{OwnedOut}
use Rattle.dots_host.specs.declared.out.OwnedOut.TheVariants as owned
use Rattle.dots_host.specs.Runs.{in_one_turn}
use Rattle.dots_gateway.specs.declared.exchange.Exchange.{Exchange}
use Rattle.dots_gateway.specs.declared.passed.Passed.{Passed}
use Rattle.dots_gateway.specs.declared.passed.Passed.TheVariants as passed
use Rattle.dots_gateway.specs.declared.passed.GatewayFault.{GatewayFault}
use Rattle.dots_gateway.specs.declared.passed.GatewayFault.TheVariants as fault
use Rattle.dots_gateway.specs.declared.routes.Route.{Route}
use Rattle.dots_gateway.specs.Exchanges.{waiting_again}
use Rattle.dots_gateway.specs.Gateway.{GatewayValue, Said, gateway_at, UpOrLacks, DownOrLacks}
use Rattle.dots_gateway.specs.Routes.{routes_of}
use Rattle.dots_settings.specs.Settings.{SettingsValue}
use Rattle.slot_journal.specs.Sizes.{slots_of}
use Rattle.gateway_agent.specs.Exchanges.{young_at, last_time, next_number, most_young}

-- the gateway, and all exchanges that were kept: those that a disk held at first, and behind them each new one
pub record GatewayState : Type 0 where
  pub core : GatewayValue
  pub kept : List Exchange

-- ---- how it begins

-- At the opening and at a restart the time is the greater of the one handed in and that of the last exchange that is kept.
abbrev pub time_from : List Exchange → ℕ → ℕ
time_from kept at = max at (last_time kept)

-- With what is kept the gateway begins: the exchanges that are at most 246 seconds old wait again, without their datagrams, and the next
-- number is above that of the last one.
abbrev pub begun : List Route → ℕ → ℕ → List Exchange → ℕ → GatewayState
begun routes upstream room kept at = record {
  core = record {
    routes = routes;
    upstream = upstream;
    exchanges = record {
      room = room;
      next = next_number kept;
      time = time_from kept at;
      waiting = map waiting_again (young_at (time_from kept at) kept);
    };
  };
  kept = kept;
}

-- a gateway for the clients of the settings, with room for as many exchanges as may be young in a journal of these settings
abbrev pub opened : SettingsValue → ℕ → List Exchange → ℕ → GatewayState
opened settings upstream kept at = begun (routes_of settings) upstream (most_young (slots_of settings)) kept at

-- a restart loses all but what is kept
abbrev pub restarted : GatewayState → ℕ → GatewayState
restarted old at = begun old.core.routes old.core.upstream old.core.exchanges.room old.kept at

-- ---- the time

-- it never falls while the gateway goes on
abbrev pub state_at : GatewayState → ℕ → GatewayState
state_at old at = record old { core = gateway_at at old.core }

-- ---- what is sent

abbrev pub sends_of : ℕ → Passed → List OwnedOut
sends_of upstream (passed.Forward bytes fresh) = owned.To upstream bytes ∷ []
sends_of upstream (passed.Reply to bytes) = owned.To to bytes ∷ []
sends_of upstream passed.Nothing = []
sends_of upstream passed.NoMemory = []

-- A request that can't be passed on is answered with this code, and nothing else is.
pub data Refuses (peer : ℕ) (datagram : List ℕ) (code : ℕ) (text : List ℕ) (outs : List OwnedOut) : Type 0 where
  answered : (m : CoapMessage) → IsMessage m → datagram ≡ spelling m → is_request m ≡ true
      → outs ≡ owned.To peer (plain code (exchange_in m) text) ∷ [] → Refuses peer datagram code text outs
  silent : ((m : CoapMessage) → IsMessage m → datagram ≡ spelling m → is_request m ≡ true → ⊥)
      → outs ≡ [] → Refuses peer datagram code text outs

-- where there is no room for one more, or no number: 5.03 with the text `gateway full`
abbrev pub full_text : List ℕ
full_text = codes "gateway full"

-- want of memory: 5.00
abbrev pub FaultSends : ℕ → List ℕ → GatewayFault → List OwnedOut → Type 0
FaultSends peer datagram fault.TableFull outs = Refuses peer datagram SERVICE_UNAVAILABLE full_text outs
FaultSends peer datagram fault.NoMemory outs = Refuses peer datagram INTERNAL_SERVER_ERROR [] outs

abbrev pub UpSends : ℕ → ℕ → List ℕ → Said → List OwnedOut → Type 0
UpSends upstream peer datagram (Ok said) outs = outs ≡ sends_of upstream said
UpSends upstream peer datagram (Err fault) outs = FaultSends peer datagram fault outs

-- ---- what is kept

-- the exchange that is new, if one is
abbrev pub fresh_in : Said → List Exchange
fresh_in (Ok (passed.Forward bytes fresh)) = option_to_list fresh
fresh_in _ = []

-- ---- an event

-- a datagram of a client, or of anyone who isn't the upstream
pub record GoesUp (old : GatewayState) (peer : ℕ) (datagram : List ℕ) (outs : List OwnedOut) (new : GatewayState) : Type 0 where
  pub said : Said
  pub ups : UpOrLacks old.core peer datagram said new.core
  pub sends : UpSends old.core.upstream peer datagram said outs
  pub kept : new.kept ≡ old.kept ++ fresh_in said

-- a datagram of the upstream
pub record GoesDown (old : GatewayState) (datagram : List ℕ) (outs : List OwnedOut) (new : GatewayState) : Type 0 where
  pub said : Passed
  pub downs : DownOrLacks old.core datagram said
  pub sends : outs ≡ sends_of old.core.upstream said
  pub same : new ≡ old

-- An event that only moves the time.
abbrev pub OnlyAges : GatewayState → ℕ → List OwnedOut → GatewayState → Type 0
OnlyAges old at outs new = (outs ≡ []) × (new ≡ state_at old at)

-- An event: the time comes that stands beside it. A datagram of the upstream goes down, and any other up; a restart begins anew; the end
-- and a failure of the wire change nothing; and any other only moves the time.
abbrev pub Passes : GatewayState → Event → ℕ → List OwnedOut → GatewayState → Type 0
Passes old (event.Datagram from bytes) at outs new =
    MatchBool (from == old.core.upstream) (GoesDown (state_at old at) bytes outs new) (GoesUp (state_at old at) from bytes outs new)
Passes old event.Restart at outs new = (outs ≡ []) × (new ≡ restarted old at)
Passes old event.End at outs new = (outs ≡ []) × (new ≡ old)
Passes old event.Failed at outs new = (outs ≡ []) × (new ≡ old)
Passes old _ at outs new = OnlyAges old at outs new

-- an event, with the sends that it owes, each beside the state after it
abbrev pub step : GatewayState → Event → ℕ → List (GatewayState × OwnedOut) → GatewayState → Type 0
step old came at owed new = in_one_turn (λ outs. Passes old came at outs new) owed new
