-- What the agent has in memory and on its disk, for a state of the machine.
use Rattle.std.specs.Prelude.{◌≡◌, ℕ, ◌^◌, ◌<◌, ◌≤◌, ⊤, List, [], ◌∷◌, ◌++◌, length, map}
use Rattle.dots_settings.specs.Settings.{SettingsValue}
use Rattle.dots_gateway.specs.declared.exchange.Exchange.{Exchange}
use Rattle.dots_gateway.specs.declared.exchange.Waiting.{Waiting}
use Rattle.dots_gateway.specs.Gateway.{GatewayValue}
use Rattle.dots_gateway.specs.Routes.{routes_of}
use Rattle.slot_journal.specs.Sizes.{slots_of}
use Rattle.gateway_agent.specs.Crashes.{AreAlike, HasYoung}
use Rattle.gateway_agent.specs.Exchanges.{IsStore, young_at, last_number, last_time, next_number, most_young}
use Rattle.gateway_agent.specs.Stores.{StoreValue, CanKeep}
use Rattle.gateway_agent.specs.Passing.{GatewayState}

pub record AgentValue : Type 0 where
  pub core : GatewayValue
  pub store : StoreValue

abbrev pub agent : GatewayValue → StoreValue → AgentValue
agent core store = record { core = core; store = store }

-- the exchanges that wait, without their datagrams
abbrev pub exchanges_in : List Waiting → List Exchange
exchanges_in waiting = map (λ (k : Waiting). k.exchange) waiting

-- The gateway and the store go together: those that wait are the young ones of the store, as many may wait as may be young, the next number is
-- above that of the last one, and the time isn't before it. So each new exchange may be kept.
pub record AreJoined (core : GatewayValue) (store : StoreValue) : Type 0 where
  pub room : core.exchanges.room ≡ most_young store.journal.slots
  pub next : core.exchanges.next ≡ next_number store.exchanges
  pub waiting : exchanges_in core.exchanges.waiting ≡ young_at core.exchanges.time store.exchanges
  pub past : last_time store.exchanges ≤ core.exchanges.time
  pub early : core.exchanges.time < 2 ^ 48
  pub order : IsStore (most_young store.journal.slots) store.exchanges

-- The store has what counts of the exchanges that were kept: those that are young at the time of the last one or later, and the last number
-- and time. A compaction lets the others go.
pub record Counts (some kept : List Exchange) : Type 0 where
  pub alike : AreAlike (last_time kept) some kept
  pub time : last_time some ≡ last_time kept

-- the agent is in this state
pub record IsIn (agent : AgentValue) (state : GatewayState) : Type 0 where
  pub core : agent.core ≡ state.core
  pub joined : AreJoined agent.core agent.store
  pub counts : Counts agent.store.exchanges state.kept

-- the agent is one for these settings and this upstream
pub record IsFor (settings : SettingsValue) (upstream : ℕ) (agent : AgentValue) : Type 0 where
  pub routes : agent.core.routes ≡ routes_of settings
  pub upstream_is : agent.core.upstream ≡ upstream
  pub slots : agent.store.journal.slots ≡ slots_of settings

-- an event changes none of that
pub record IsSame (old new : AgentValue) : Type 0 where
  pub routes : new.core.routes ≡ old.core.routes
  pub upstream : new.core.upstream ≡ old.core.upstream
  pub slots : new.store.journal.slots ≡ old.store.journal.slots

-- ---- the exchange of a datagram that is new, if one is: a list of at most one

-- it may be kept at its own time
abbrev pub CanKeepAll : StoreValue → List Exchange → Type 0
CanKeepAll store [] = ⊤
CanKeepAll store (x ∷ xs) = CanKeep store x.time x × (length x.token ≤ 8)

-- While it is kept the image holds a store with the young exchanges, or with these and the new one. Where there is none nothing is written.
abbrev pub HasMore : SettingsValue → ℕ → List Exchange → List Exchange → (ℕ → ℕ) → Type 0
HasMore settings most exchanges [] image = ⊥
HasMore settings most exchanges (x ∷ xs) image = HasYoung settings most x.time exchanges x image

-- it was kept: it is the last of the store, and behind those that were young
pub record IsOneMore (old new : StoreValue) (x : Exchange) : Type 0 where
  pub store : IsStore (most_young old.journal.slots) new.exchanges
  pub young : young_at x.time new.exchanges ≡ young_at x.time old.exchanges ++ x ∷ []
  pub number : last_number new.exchanges ≡ x.number
  pub time : last_time new.exchanges ≡ x.time

abbrev pub IsMore : StoreValue → StoreValue → List Exchange → Type 0
IsMore old new [] = new ≡ old
IsMore old new (x ∷ xs) = IsOneMore old new x
