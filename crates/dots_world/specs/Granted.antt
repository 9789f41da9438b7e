-- What the world comes to: what a ledger shows was granted, and what the server has accepted was asked.
use Rattle.std.specs.Prelude.{◌≡◌, ℕ, pos, true, false, List, slice_get, Contains, Some}
use Rattle.std.specs.Int.{w64, to_be_bytes}
use Rattle.lifetime_clock.specs.Lifetime.{granted}
use Rattle.coap_message.specs.Message.{CoapMessage, IsMessage, spelling}
use Rattle.dots_settings.specs.Settings.{SettingsValue}
use Rattle.dots_history.specs.declared.entry.Entry.{Entry}
use Rattle.dots_history.specs.declared.put.Put.{Put}
use Rattle.dots_history.specs.declared.change.Change.TheVariants as change
use Rattle.dots_client.specs.declared.granted.Granted.{Granted}
use Rattle.dots_gateway.specs.declared.exchange.Exchange.{Exchange}
use Rattle.dots_world.specs.Plans.{PlanClient, Plan, IsDomain}
use Rattle.dots_world.specs.Worlds.{Aim, mitigates, withdraws, MadeAsk}

-- ---- what a ledger shows

-- The history has an entry that grants the mitigation of the row, with its mid, its scope and its lifetime, to the client at this place: for its
-- domain and under its name. It may have ended since.
pub record IsGrantedTo (plan : Plan) (history : List Entry) (i : ℕ) (row : Granted) : Type 0 where
  pub entry : Entry
  pub there : Contains history entry
  pub c : PlanClient
  pub planned : slice_get plan.clients i ≡ Some c
  pub domain : IsDomain plan c entry.domain
  pub cuid : entry.cuid ≡ c.cuid
  pub put : Put
  pub changes : entry.change ≡ change.Put put
  pub mid : put.mid ≡ row.mid
  pub scope : put.asked ≡ row.asked
  pub lasts : put.granted ≡ row.lifetime

-- ---- what the server accepted

-- what was asked, at once, with what the settings grant of the lifetime
abbrev pub Carries : SettingsValue → Aim → ℕ → Entry → Type 0
Carries settings (mitigates asked lifetime) mid entry =
    (put : Put) × (entry.change ≡ change.Put put) × (put.mid ≡ mid) × (put.asked ≡ asked)
    × (put.granted ≡ granted lifetime (pos settings.ceiling) settings.indefinite) × (put.trigger ≡ true)
Carries settings withdraws mid entry = entry.change ≡ change.Withdraw mid

-- The entry is of this ask: it carries it for the client's own domain, and under its name.
pub record IsOfAsk (plan : Plan) (entry : Entry) (a : MadeAsk) : Type 0 where
  pub c : PlanClient
  pub planned : slice_get plan.clients a.who ≡ Some c
  pub domain : IsDomain plan c entry.domain
  pub cuid : entry.cuid ≡ c.cuid
  pub carries : Carries plan.settings a.aim a.mid entry

-- an entry carries an ask that was made
abbrev pub WasAsked : Plan → List MadeAsk → Entry → Type 0
WasAsked plan asks entry = (a : MadeAsk) × Contains asks a × IsOfAsk plan entry a

-- ---- the entries of one ask

-- the bytes are a message with the token of this number
pub record HasNumber (bytes : List ℕ) (number : ℕ) : Type 0 where
  pub message : CoapMessage
  pub is_message : IsMessage message
  pub spelled : bytes ≡ spelling message
  pub token : message.token ≡ to_be_bytes w64 number

-- the exchange is of the ask of a client that asks the gateway
pub record IsExchangeOf (plan : Plan) (a : MadeAsk) (x : Exchange) : Type 0 where
  pub c : PlanClient
  pub planned : slice_get plan.clients a.who ≡ Some c
  pub behind : c.behind ≡ true
  pub peer : x.peer ≡ c.peer
  pub token : x.token ≡ to_be_bytes w64 a.number

-- What answered it has the ask's number as its token, and the client is its peer; or that of an exchange of the ask, and the gateway is.
pub data IsUnder (plan : Plan) (made : List Exchange) (entry : Entry) (a : MadeAsk) : Type 0 where
  own : (c : PlanClient) → slice_get plan.clients a.who ≡ Some c → c.behind ≡ false → entry.peer ≡ c.peer → HasNumber entry.reply a.number → IsUnder plan made entry a
  passed : (x : Exchange) → Contains made x → IsExchangeOf plan a x → entry.peer ≡ plan.gateway → HasNumber entry.reply x.number → IsUnder plan made entry a

-- at most one place of the history has an entry of the ask
abbrev pub HasOneEntry : Plan → List Exchange → List Entry → MadeAsk → Type 0
HasOneEntry plan made history a =
    (i j : ℕ) (one other : Entry) → slice_get history i ≡ Some one → slice_get history j ≡ Some other → IsUnder plan made one a → IsUnder plan made other a → i ≡ j
