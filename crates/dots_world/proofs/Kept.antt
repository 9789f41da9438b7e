-- What is true of each world that can be reached, by its parts.
use Rattle.std.specs.Prelude.{IsTrue}
use Rattle.std.specs.Int.{w64, to_be_bytes}
use Rattle.std.proofs.Common.{◌≡◌, ◌⊎◌, inl, inr, ℕ, ℤ, suc, ◌+◌, ◌<◌, ◌≤◌, ◌^◌, List, slice_get, slice_set, position, Contains, Option, Some, None, option_map, sym, ap, ◌∙◌, subst, arith}
use Rattle.std.proofs.lemmas.Option.{same_Some}
use Rattle.acl_lists.specs.declared.asked.Asked.{Asked}
use Rattle.coap_message.specs.Message.{CoapMessage, IsMessage, spelling}
use Rattle.coap_message.proofs.Whole.{one_message}
use Rattle.dots_keys.specs.Operations.{is_client_name}
use Rattle.dots_history.specs.declared.entry.Entry.{Entry}
use Rattle.dots_history.specs.declared.put.Put.{Put}
use Rattle.dots_history.specs.declared.change.Change.TheVariants as change
use Rattle.dots_client.specs.declared.granted.Granted.{Granted}
use Rattle.dots_client.specs.Client.{ClientValue, WaitingValue}
use Rattle.dots_gateway.specs.declared.exchange.Exchange.{Exchange}
use Rattle.dots_gateway.specs.declared.exchange.Waiting.{Waiting}
use Rattle.dots_gateway.specs.Exchanges.{id_of}
use Rattle.dots_gateway.specs.Forwarding.{forwarded}
use Rattle.dots_gateway.specs.Gateway.{GatewayValue}
use Rattle.dots_gateway.specs.Routes.{routes_of, domain_for}
use Rattle.gateway_agent.specs.Exchanges.{last_number}
use Rattle.dots_world.specs.Forwarding.{passage_for}
use Rattle.dots_world.specs.Granting.{IsGrant}
use Rattle.dots_world.specs.Plans.{Party, a_client, the_gateway, the_server, PlanClient, Plan, upstream_of, asks_at, is_behind, from_server}
use Rattle.dots_world.specs.Worlds.{Aim, mitigates, withdraws, MadeAsk, message_by, CanSay, Packet}
use Rattle.dots_world.specs.Granted.{IsGrantedTo, IsOfAsk, HasNumber, IsExchangeOf, IsUnder, own, passed}
use Rattle.dots_world.proofs.Lists.{set_cases}
use Rattle.dots_world.proofs.Clients.{SameRequest}
use Rattle.dots_world.proofs.Messages.{IsAnswer}

abbrev pub Within : {A : Type 0} → List A → List A → Type 0
Within {A} xs ys = (x : A) → Contains xs x → Contains ys x

-- ---- asks

abbrev pub scope_of : Aim → Option Asked
scope_of (mitigates asked lifetime) = Some asked
scope_of withdraws = None

pub record IsGood (plan : Plan) (n : ℕ) (a : MadeAsk) : Type 0 where
  pub c : PlanClient
  pub planned : slice_get plan.clients a.who ≡ Some c
  pub number : a.number ≤ n
  pub mid : a.mid < 2 ^ 32
  pub can : CanSay a.aim

pub record AsksInv (plan : Plan) (n : ℕ) (asks : List MadeAsk) : Type 0 where
  pub good : (a : MadeAsk) → Contains asks a → IsGood plan n a
  pub one : (a b : MadeAsk) → Contains asks a → Contains asks b → a.who ≡ b.who → a.number ≡ b.number → a ≡ b

-- ---- entries

-- a grant that answers it says what was granted
abbrev pub SaysGrant : Entry → Type 0
SaysGrant e = (token : List ℕ) (mid : ℕ) (lifetime : ℤ) → IsGrant e.reply token mid lifetime → (put : Put) × (e.change ≡ change.Put put) × (mid ≡ put.mid) × (lifetime ≡ put.granted)

pub record IsFrom (plan : Plan) (asks : List MadeAsk) (kept : List Exchange) (e : Entry) : Type 0 where
  pub ask : MadeAsk
  pub there : Contains asks ask
  pub of : IsOfAsk plan e ask
  pub under : IsUnder plan kept e ask
  pub says : SaysGrant e

abbrev pub EntriesInv : Plan → List MadeAsk → List Exchange → List Entry → Type 0
EntriesInv plan asks kept history = (e : Entry) → Contains history e → IsFrom plan asks kept e

-- ---- clients

pub record IsWaiting (asks : List MadeAsk) (i : ℕ) (c : PlanClient) (v : WaitingValue) : Type 0 where
  pub ask : MadeAsk
  pub there : Contains asks ask
  pub who : ask.who ≡ i
  pub number : ask.number ≡ v.request.number
  pub mid : ask.mid ≡ v.request.mid
  pub scope : v.request.scope ≡ scope_of ask.aim
  pub bytes : v.sent.bytes ≡ spelling (message_by c.cuid ask)

pub record IsRow (plan : Plan) (asks : List MadeAsk) (history : List Entry) (i : ℕ) (row : Granted) : Type 0 where
  pub granted : IsGrantedTo plan history i row
  pub ask : MadeAsk
  pub there : Contains asks ask
  pub mid : ask.mid ≡ row.mid
  pub lifetime : ℤ
  pub aim : ask.aim ≡ mitigates row.asked lifetime

pub record ClientInv (plan : Plan) (n : ℕ) (asks : List MadeAsk) (history : List Entry) (i : ℕ) (c : PlanClient) (k : ClientValue) : Type 0 where
  pub cuid : k.cuid ≡ c.cuid
  pub number : k.number ≤ n + 1
  pub mid : k.mid ≤ 3221225471
  pub past : (a : MadeAsk) → Contains asks a → a.who ≡ i → a.number < k.number
  pub waiting : (v : WaitingValue) → Contains k.waiting v → IsWaiting asks i c v
  pub rows : (row : Granted) → Contains k.ledger row → IsRow plan asks history i row

abbrev pub ClientsInv : Plan → ℕ → List MadeAsk → List Entry → List ClientValue → Type 0
ClientsInv plan n asks history clients =
    (i : ℕ) (c : PlanClient) (k : ClientValue) → slice_get plan.clients i ≡ Some c → slice_get clients i ≡ Some k → ClientInv plan n asks history i c k

-- ---- the gateway

pub record IsMade (plan : Plan) (asks : List MadeAsk) (x : Exchange) : Type 0 where
  pub ask : MadeAsk
  pub there : Contains asks ask
  pub of : IsExchangeOf plan ask x
  pub id : id_of x.key < 2 ^ 16

pub record IsOfKept (kept : List Exchange) (k : Waiting) : Type 0 where
  pub there : Contains kept k.exchange
  pub asked : (d : List ℕ) → k.asked ≡ Some d → (m : CoapMessage) × IsMessage m × (d ≡ spelling m) × (m.token ≡ k.exchange.token)

pub record GatewayInv (plan : Plan) (n : ℕ) (asks : List MadeAsk) (core : GatewayValue) (kept : List Exchange) : Type 0 where
  pub routes : core.routes ≡ routes_of plan.gateway_settings
  pub upstream : core.upstream ≡ upstream_of plan
  pub next : core.exchanges.next ≤ n + 1
  pub below : last_number kept < core.exchanges.next
  pub last : (x : Exchange) → Contains kept x → x.number ≤ last_number kept
  pub one : (x y : Exchange) → Contains kept x → Contains kept y → x.number ≡ y.number → x ≡ y
  pub made : (x : Exchange) → Contains kept x → IsMade plan asks x
  pub waits : (k : Waiting) → Contains core.exchanges.waiting k → IsOfKept kept k

-- ---- packets

pub record IsClientRequest (asks : List MadeAsk) (i : ℕ) (c : PlanClient) (bytes : List ℕ) : Type 0 where
  pub ask : MadeAsk
  pub there : Contains asks ask
  pub who : ask.who ≡ i
  pub spelled : bytes ≡ spelling (message_by c.cuid ask)

abbrev pub SaysClient : Plan → List MadeAsk → ℕ → Option Party → List ℕ → Type 0
SaysClient plan asks i target bytes =
    (c : PlanClient) × (slice_get plan.clients i ≡ Some c) × (target ≡ Some (asks_at c.behind)) × (IsClientRequest asks i c bytes ⊎ IsAnswer bytes)

abbrev pub Answered : List Entry → ℕ → List ℕ → Type 0
Answered history peer bytes = (e : Entry) × Contains history e × (e.peer ≡ peer) × (e.reply ≡ bytes)

abbrev pub GrantsBy : (List ℕ → ℕ → ℤ → Type 0) → List ℕ → Type 0
GrantsBy P bytes = (token : List ℕ) (mid : ℕ) (lifetime : ℤ) → IsGrant bytes token mid lifetime → P token mid lifetime

abbrev pub SaysServer : Plan → List Entry → Option Party → List ℕ → Type 0
SaysServer plan history target bytes = (to : ℕ) × (target ≡ from_server plan to) × GrantsBy (λ token mid lifetime. Answered history to bytes) bytes

pub record IsForwarded (plan : Plan) (asks : List MadeAsk) (kept : List Exchange) (bytes : List ℕ) : Type 0 where
  pub x : Exchange
  pub made : Contains kept x
  pub ask : MadeAsk
  pub there : Contains asks ask
  pub of : IsExchangeOf plan ask x
  pub cuid : IsTrue (is_client_name of.c.cuid)
  pub domain : List ℕ
  pub named : domain_for (routes_of plan.gateway_settings) (upstream_of plan) of.c.peer ≡ Some domain
  pub spelled : bytes ≡ spelling (forwarded x.number domain (passage_for of.c.cuid ask.mid) (message_by of.c.cuid ask))

pub record IsPassedGrant (plan : Plan) (kept : List Exchange) (history : List Entry) (to : ℕ) (token : List ℕ) (mid : ℕ) (lifetime : ℤ) : Type 0 where
  pub x : Exchange
  pub made : Contains kept x
  pub peer : to ≡ x.peer
  pub of_token : x.token ≡ token
  pub reply : List ℕ
  pub grants : IsGrant reply (to_be_bytes w64 x.number) mid lifetime
  pub answered : Answered history plan.gateway reply

abbrev pub SaysUp : Plan → List MadeAsk → List Exchange → Option Party → List ℕ → Type 0
SaysUp plan asks kept target bytes = (target ≡ Some the_server) × (IsForwarded plan asks kept bytes ⊎ IsAnswer bytes)

abbrev pub SaysDown : Plan → List Exchange → List Entry → Option Party → List ℕ → Type 0
SaysDown plan kept history target bytes =
    (to : ℕ) × (target ≡ option_map a_client (position (is_behind to) plan.clients)) × GrantsBy (IsPassedGrant plan kept history to) bytes

abbrev pub Says : Plan → List MadeAsk → List Exchange → List Entry → Party → Option Party → List ℕ → Type 0
Says plan asks kept history (a_client i) target bytes = SaysClient plan asks i target bytes
Says plan asks kept history the_server target bytes = SaysServer plan history target bytes
Says plan asks kept history the_gateway target bytes = SaysUp plan asks kept target bytes ⊎ SaysDown plan kept history target bytes

abbrev pub SaysOf : Plan → List MadeAsk → List Exchange → List Entry → Packet → Type 0
SaysOf plan asks kept history p = Says plan asks kept history p.source p.target p.bytes

abbrev pub PacketsInv : Plan → List MadeAsk → List Exchange → List Entry → List Packet → Type 0
PacketsInv plan asks kept history packets = (p : Packet) → Contains packets p → SaysOf plan asks kept history p

-- ---- all of it goes on being true of more

pub granted_more : (plan : Plan) (history later : List Entry) (i : ℕ) (row : Granted) → Within history later → IsGrantedTo plan history i row → IsGrantedTo plan later i row
granted_more plan history later i row more g = record {
  entry = g.entry;
  there = more g.entry g.there;
  c = g.c;
  planned = g.planned;
  domain = g.domain;
  cuid = g.cuid;
  put = g.put;
  changes = g.changes;
  mid = g.mid;
  scope = g.scope;
  lasts = g.lasts;
}

module _ (plan : Plan) (asks asks2 : List MadeAsk) (kept kept2 : List Exchange) (history later : List Entry) (more_asks : Within asks asks2) (more_kept : Within kept kept2) (more_history : Within history later) where
  pub under_more : (e : Entry) (a : MadeAsk) → IsUnder plan kept e a → IsUnder plan kept2 e a
  under_more e a (own c planned direct peer number) = own c planned direct peer number
  under_more e a (passed x there of peer number) = passed x (more_kept x there) of peer number

  pub from_more : (e : Entry) → IsFrom plan asks kept e → IsFrom plan asks2 kept2 e
  from_more e f = record { ask = f.ask; there = more_asks f.ask f.there; of = f.of; under = under_more e f.ask f.under; says = f.says }

  pub waiting_more : (i : ℕ) (c : PlanClient) (v : WaitingValue) → IsWaiting asks i c v → IsWaiting asks2 i c v
  waiting_more i c v w = record { ask = w.ask; there = more_asks w.ask w.there; who = w.who; number = w.number; mid = w.mid; scope = w.scope; bytes = w.bytes }

  pub row_more : (i : ℕ) (row : Granted) → IsRow plan asks history i row → IsRow plan asks2 later i row
  row_more i row r = record {
    granted = granted_more plan history later i row more_history r.granted;
    ask = r.ask;
    there = more_asks r.ask r.there;
    mid = r.mid;
    lifetime = r.lifetime;
    aim = r.aim;
  }

  pub made_more : (x : Exchange) → IsMade plan asks x → IsMade plan asks2 x
  made_more x m = record { ask = m.ask; there = more_asks m.ask m.there; of = m.of; id = m.id }

  answered_more : (peer : ℕ) (bytes : List ℕ) → Answered history peer bytes → Answered later peer bytes
  answered_more peer bytes a = (a.0, more_history a.0 a.1, a.2, a.3)

  request_more : (i : ℕ) (c : PlanClient) (bytes : List ℕ) → IsClientRequest asks i c bytes ⊎ IsAnswer bytes → IsClientRequest asks2 i c bytes ⊎ IsAnswer bytes
  request_more i c bytes (inl r) = inl (record { ask = r.ask; there = more_asks r.ask r.there; who = r.who; spelled = r.spelled })
  request_more i c bytes (inr a) = inr a

  forwarded_more : (bytes : List ℕ) → IsForwarded plan asks kept bytes ⊎ IsAnswer bytes → IsForwarded plan asks2 kept2 bytes ⊎ IsAnswer bytes
  forwarded_more bytes (inl f) = inl (record { x = f.x; made = more_kept f.x f.made; ask = f.ask; there = more_asks f.ask f.there; of = f.of; cuid = f.cuid; domain = f.domain; named = f.named; spelled = f.spelled })
  forwarded_more bytes (inr a) = inr a

  passed_more : (to : ℕ) (token : List ℕ) (mid : ℕ) (lifetime : ℤ) → IsPassedGrant plan kept history to token mid lifetime → IsPassedGrant plan kept2 later to token mid lifetime
  passed_more to token mid lifetime g = record {
    x = g.x;
    made = more_kept g.x g.made;
    peer = g.peer;
    of_token = g.of_token;
    reply = g.reply;
    grants = g.grants;
    answered = answered_more plan.gateway g.reply g.answered;
  }

  says_more : (source : Party) (target : Option Party) (bytes : List ℕ) → Says plan asks kept history source target bytes → Says plan asks2 kept2 later source target bytes
  says_more (a_client i) target bytes s = (s.0, s.1, s.2, request_more i s.0 bytes s.3)
  says_more the_server target bytes s = (s.0, s.1, λ token mid lifetime g. answered_more s.0 bytes (s.2 token mid lifetime g))
  says_more the_gateway target bytes (inl s) = inl (s.0, forwarded_more bytes s.1)
  says_more the_gateway target bytes (inr s) = inr (s.0, s.1, λ token mid lifetime g. passed_more s.0 token mid lifetime (s.2 token mid lifetime g))

  pub packets_more : (packets : List Packet) → PacketsInv plan asks kept history packets → PacketsInv plan asks2 kept2 later packets
  packets_more packets inv p there = says_more p.source p.target p.bytes (inv p there)

  pub entries_more : EntriesInv plan asks kept history → EntriesInv plan asks2 kept2 history
  entries_more inv e there = from_more e (inv e there)

-- ---- by the count of events

pub raised_asks : (plan : Plan) (n : ℕ) (asks : List MadeAsk) → AsksInv plan n asks → AsksInv plan (suc n) asks
raised_asks plan n asks inv = record {
  good = λ a there.
      let g = inv.good a there in
      let few = g.number in
      record { c = g.c; planned = g.planned; number = omega (arith, few); mid = g.mid; can = g.can };
  one = inv.one;
}

pub raised_clients : (plan : Plan) (n : ℕ) (asks : List MadeAsk) (history : List Entry) (clients : List ClientValue) → ClientsInv plan n asks history clients → ClientsInv plan (suc n) asks history clients
raised_clients plan n asks history clients inv i c k planned there =
    let g = inv i c k planned there in
    let few = g.number in
    record { cuid = g.cuid; number = omega (arith, few); mid = g.mid; past = g.past; waiting = g.waiting; rows = g.rows }

pub raised_gateway : (plan : Plan) (n : ℕ) (asks : List MadeAsk) (core : GatewayValue) (kept : List Exchange) → GatewayInv plan n asks core kept → GatewayInv plan (suc n) asks core kept
raised_gateway plan n asks core kept inv =
    let few = inv.next in
    record { routes = inv.routes; upstream = inv.upstream; next = omega (arith, few); below = inv.below; last = inv.last; one = inv.one; made = inv.made; waits = inv.waits }

-- ---- one client is changed

pub client_set : (plan : Plan) (P : ℕ → PlanClient → ClientValue → Type 0) (clients : List ClientValue) (i : ℕ) (c : PlanClient) (new : ClientValue) → slice_get plan.clients i ≡ Some c
    → P i c new
    → ((j : ℕ) (d : PlanClient) (k : ClientValue) → (j ≡ i → ⊥) → slice_get plan.clients j ≡ Some d → slice_get clients j ≡ Some k → P j d k)
    → (j : ℕ) (d : PlanClient) (k : ClientValue) → slice_get plan.clients j ≡ Some d → slice_get (slice_set clients i new) j ≡ Some k → P j d k
client_set plan P clients i c new planned one others j d k at there = elim (set_cases clients i new j k there) [
  | inl is ↦
      let same : c ≡ d = same_Some c d (sym planned ∙ ap (slice_get plan.clients) (sym is.0) ∙ at) in
      subst (λ m. P m d k) (sym is.0) (subst (λ e. P i e k) same (subst (P i c) is.1 one))
  | inr other ↦ others j d k other.0 at other.1
]

waiting_as : (asks : List MadeAsk) (i : ℕ) (c : PlanClient) (v w : WaitingValue) → SameRequest v w → IsWaiting asks i c v → IsWaiting asks i c w
waiting_as asks i c v w same is = record {
  ask = is.ask;
  there = is.there;
  who = is.who;
  number = is.number ∙ same.number;
  mid = is.mid ∙ same.mid;
  scope = sym same.scope ∙ is.scope;
  bytes = sym same.bytes ∙ is.bytes;
}

-- a client that has less keeps it
pub less_client : (plan : Plan) (n : ℕ) (asks : List MadeAsk) (history : List Entry) (i : ℕ) (c : PlanClient) (old new : ClientValue) → ClientInv plan n asks history i c old
    → new.cuid ≡ old.cuid → new.number ≡ old.number → new.mid ≡ old.mid → ((w : WaitingValue) → Contains new.waiting w → (v : WaitingValue) × Contains old.waiting v × SameRequest v w)
    → ((row : Granted) → Contains new.ledger row → IsRow plan asks history i row) → ClientInv plan n asks history i c new
less_client plan n asks history i c old new inv cuid number mid waiting rows = record {
  cuid = cuid ∙ inv.cuid;
  number = subst (λ m. m ≤ n + 1) (sym number) inv.number;
  mid = subst (λ m. m ≤ 3221225471) (sym mid) inv.mid;
  past = λ a there who. subst (λ m. a.number < m) (sym number) (inv.past a there who);
  waiting = λ w there. let v = waiting w there in waiting_as asks i c v.0 w v.2 (inv.waiting v.0 v.1);
  rows = rows;
}

-- ---- tokens of grants

pub grant_number : (bytes token : List ℕ) (mid : ℕ) (lifetime : ℤ) (number : ℕ) → IsGrant bytes token mid lifetime → HasNumber bytes number → token ≡ to_be_bytes w64 number
grant_number bytes token mid lifetime number g h =
    let same = one_message g.message h.message g.is_message h.is_message (sym g.spelled ∙ h.spelled) in
    sym g.token_is ∙ ap (λ (m : CoapMessage). m.token) same ∙ h.token
