-- What an event does to the disk and to the wire: first it is written, and then the sends are given.
use Rattle.std.specs.Prelude.{◌≡◌, ◌⊎◌, ℕ, ◌≤◌, ⊤, List, ◌++◌, Option}
use Rattle.dots_host.specs.declared.event.Event.{Event}
use Rattle.dots_host.specs.declared.event.What.{What}
use Rattle.dots_host.specs.declared.event.What.TheVariants as what
use Rattle.dots_host.specs.declared.out.OwnedOut.{OwnedOut}
use Rattle.dots_host.specs.Acts.{Timed}
use Rattle.dots_host.specs.Runs.{Added, Gives}
use Rattle.dots_host.specs.Media.{Media}
use Rattle.dots_host.specs.Becoming.{Leaves, RestsWith, KeepsMedia, IsMoment}
use Rattle.dots_host.specs.Beside.{KeepsActs}
use Rattle.dots_settings.specs.Settings.{SettingsValue}
use Rattle.dots_gateway.specs.declared.exchange.Exchange.{Exchange}
use Rattle.gateway_agent.specs.Crashes.{HasThe, AreAlike}
use Rattle.gateway_agent.specs.Exchanges.{IsStore, most_young, last_time}
use Rattle.gateway_agent.specs.Stores.{IsOn}
use Rattle.gateway_agent.specs.Passing.{GatewayState, Passes}
use Rattle.gateway_agent.specs.Keeping.{AgentValue, IsIn}

-- The image holds a store in which the same exchanges are young at this time as among these, with the same last number.
pub record HasAlike (settings : SettingsValue) (most now : ℕ) (kept : List Exchange) (image : ℕ → ℕ) : Type 0 where
  pub some : List Exchange
  pub image_has : HasThe settings some image
  pub store : IsStore most some
  pub alike : AreAlike now some kept

-- the time of a state
abbrev pub time_in : GatewayState → ℕ
time_in state = state.core.exchanges.time

-- A crash between the states leaves a store with what counts of the exchanges of the one, or of the other, at the time of the later one.
abbrev pub HasTurn : SettingsValue → ℕ → GatewayState → GatewayState → (ℕ → ℕ) → Type 0
HasTurn settings most old new image = HasAlike settings most (time_in new) old.kept image ⊎ HasAlike settings most (time_in new) new.kept image

-- A turn led from the one state to the other. At each moment up to the first send the disk has what counts of the exchanges of the one or of
-- the other; there it rests with those of the other; and from then on nothing is written, and the sends are given, one moment after the other.
-- What the disk must rest with at the start, and does in the end, is said by two relations.
pub record Turned (settings : SettingsValue) (most : ℕ) (old new : GatewayState) (outs : List OwnedOut) (before after : (ℕ → ℕ) → Type 0) (media media_new : Option Media) (acts acts_new : Option (List Timed)) : Type 0 where
  pub between : Option Media
  pub moment : ℕ
  pub is_moment : IsMoment moment between
  pub gives : Added acts acts_new (Gives moment outs)
  pub writes : RestsWith media before → Leaves media between (HasTurn settings most old new)
  pub rests : RestsWith media before → RestsWith between after
  pub sends : KeepsMedia between media_new

-- The disk failed on the way from the one state to the other: nothing was sent, and at each moment the disk has what counts of the exchanges
-- of the one or of the other.
pub record Broke (settings : SettingsValue) (most : ℕ) (old new : GatewayState) (before : (ℕ → ℕ) → Type 0) (media media_new : Option Media) (acts acts_new : Option (List Timed)) : Type 0 where
  pub silent : KeepsActs acts acts_new
  pub writes : RestsWith media before → Leaves media media_new (HasTurn settings most old new)

-- how many may be young in the store of the agent
abbrev pub most_of : AgentValue → ℕ
most_of agent = most_young agent.store.journal.slots

-- What makes the sends and the state after them was done: the sends were given once what is new was on the disk. It only adds to what is kept,
-- and its time isn't before that of the last exchange.
pub record TookBy (makes : List OwnedOut → GatewayState → Type 0) (settings : SettingsValue) (state : GatewayState) (old now : AgentValue) (media media_now : Option Media) (acts acts_now : Option (List Timed)) : Type 0 where
  pub outs : List OwnedOut
  pub new : GatewayState
  pub made : makes outs new
  pub grows : (fresh : List Exchange) × (new.kept ≡ state.kept ++ fresh)
  pub timely : last_time state.kept ≤ time_in new
  pub is_in : IsIn now new
  pub turned : Turned settings (most_of old) state new outs (IsOn settings old.store) (IsOn settings now.store) media media_now acts acts_now

-- The disk failed while it was done: nothing was sent.
pub record BrokeBy (makes : List OwnedOut → GatewayState → Type 0) (settings : SettingsValue) (state : GatewayState) (agent : AgentValue) (media media_now : Option Media) (acts acts_now : Option (List Timed)) : Type 0 where
  pub outs : List OwnedOut
  pub new : GatewayState
  pub made : makes outs new
  pub grows : (fresh : List Exchange) × (new.kept ≡ state.kept ++ fresh)
  pub timely : last_time state.kept ≤ time_in new
  pub broke : Broke settings (most_of agent) state new (IsOn settings agent.store) media media_now acts acts_now

-- an event was taken, by one step of the machine
abbrev pub Took : SettingsValue → GatewayState → Event → ℕ → AgentValue → AgentValue → Option Media → Option Media → Option (List Timed) → Option (List Timed) → Type 0
Took settings state came at old now media media_now acts acts_now =
    TookBy (λ outs new. Passes state came at outs new) settings state old now media media_now acts acts_now

-- the disk failed while an event was taken
abbrev pub BrokeOff : SettingsValue → GatewayState → Event → ℕ → AgentValue → Option Media → Option Media → Option (List Timed) → Option (List Timed) → Type 0
BrokeOff settings state came at agent media media_now acts acts_now =
    BrokeBy (λ outs new. Passes state came at outs new) settings state agent media media_now acts acts_now

-- an event that a gateway takes: neither the end nor a failure of the host, nor a restart, at which it begins anew
abbrev pub IsTaken : What → Type 0
IsTaken what.End = ⊥
IsTaken what.Failed = ⊥
IsTaken what.Restart = ⊥
IsTaken _ = ⊤
