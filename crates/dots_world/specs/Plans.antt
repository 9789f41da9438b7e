-- Which clients there are, of a server and of a gateway before it.
use Rattle.std.specs.Prelude.{◌≡◌, ℕ, Bool, true, false, not, ◌&&◌, ◌==◌, if◌then◌else◌, IsTrue, List, slice_get, position, unwrap_or, Option, Some, None, option_map, bytes_eq}
use Rattle.dots_lists.specs.Name.{is_name}
use Rattle.dots_settings.specs.declared.peer.Role.TheVariants as role
use Rattle.dots_settings.specs.Settings.{SettingsValue, IsSettings}
use Rattle.dots_settings.specs.Lookups.{role_of}
use Rattle.dots_keys.specs.Operations.{is_client_name}
use Rattle.dots_gateway.specs.Routes.{routes_of, domain_for}
pub use Rattle.dots_world.specs.declared.party.Party.{Party}
pub use Rattle.dots_world.specs.declared.party.Party.TheVariants.{Client as a_client, Gateway as the_gateway, Server as the_server}
pub use Rattle.dots_world.specs.declared.plan.PlanClient.{PlanClient}

-- the server's settings and the gateway's, the peer that the gateway is for the server, and the clients by their places
pub record Plan : Type 0 where
  pub settings : SettingsValue
  pub gateway_settings : SettingsValue
  pub gateway : ℕ
  pub clients : List PlanClient

-- the peer that the server is for the gateway
abbrev pub upstream_of : Plan → ℕ
upstream_of plan = unwrap_or plan.gateway_settings.upstream 0

-- ---- where packets go

-- whom a client asks
abbrev pub asks_at : Bool → Party
asks_at true = the_gateway
asks_at false = the_server

-- which client has this peer number: for the server one that asks it, and for the gateway one that asks that
abbrev pub is_direct : ℕ → PlanClient → Bool
is_direct peer c = not c.behind && c.peer == peer

abbrev pub is_behind : ℕ → PlanClient → Bool
is_behind peer c = c.behind && c.peer == peer

-- to whom the server sends what it sends to a peer, and to whom the gateway does
abbrev pub from_server : Plan → ℕ → Option Party
from_server plan peer = if peer == plan.gateway then Some the_gateway else option_map a_client (position (is_direct peer) plan.clients)

abbrev pub from_gateway : Plan → ℕ → Option Party
from_gateway plan peer = if peer == upstream_of plan then Some the_server else option_map a_client (position (is_behind peer) plan.clients)

-- the peer number of a client
abbrev pub peer_at : Plan → ℕ → Option ℕ
peer_at plan i = option_map (λ (c : PlanClient). c.peer) (slice_get plan.clients i)

-- the peer as which the server gets what a party sends, and the one as which the gateway does
abbrev pub to_server : Plan → Party → Option ℕ
to_server plan (a_client i) = peer_at plan i
to_server plan the_gateway = Some plan.gateway
to_server plan the_server = None

abbrev pub to_gateway : Plan → Party → Option ℕ
to_gateway plan (a_client i) = peer_at plan i
to_gateway plan the_server = Some (upstream_of plan)
to_gateway plan the_gateway = None

-- ---- domains

-- The number of a client's domain in the server's settings. That of a client behind the gateway is the one with the name that the gateway's
-- settings give it (RFC 9132, section 4.4.1, cdid).
abbrev pub named_domain : SettingsValue → List ℕ → Option ℕ
named_domain settings name = position (λ domain. bytes_eq name domain.name) settings.domains

pub data IsDomain (plan : Plan) (c : PlanClient) (domain : ℕ) : Type 0 where
  direct : c.behind ≡ false → role_of plan.settings c.peer ≡ role.Client domain → IsDomain plan c domain
  through : c.behind ≡ true → (name : List ℕ) → domain_for (routes_of plan.gateway_settings) (upstream_of plan) c.peer ≡ Some name
      → named_domain plan.settings name ≡ Some domain → IsDomain plan c domain

-- ---- plans that can be

-- A direct client is one of the server's settings, and one behind the gateway one of the gateway's.
pub record IsPlanClient (plan : Plan) (c : PlanClient) : Type 0 where
  pub named : IsTrue (is_name c.cuid)
  pub direct : c.behind ≡ false → (domain : ℕ) × (role_of plan.settings c.peer ≡ role.Client domain)
  pub behind : c.behind ≡ true → (name : List ℕ) × (domain_for (routes_of plan.gateway_settings) (upstream_of plan) c.peer ≡ Some name)

-- The names of the gateway's domains have no slash, as those of a settings file. No two of those that ask the server have one peer number, and no
-- two of those that ask the gateway.
pub record IsPlan (plan : Plan) : Type 0 where
  pub settings : IsSettings plan.settings
  pub gateway : role_of plan.settings plan.gateway ≡ role.Gateway
  pub names : (peer : ℕ) (name : List ℕ) → domain_for (routes_of plan.gateway_settings) (upstream_of plan) peer ≡ Some name → IsTrue (is_client_name name)
  pub clients : (i : ℕ) (c : PlanClient) → slice_get plan.clients i ≡ Some c → IsPlanClient plan c
  pub apart :
      (i j : ℕ) (one other : PlanClient) → slice_get plan.clients i ≡ Some one → slice_get plan.clients j ≡ Some other → one.behind ≡ other.behind
      → one.peer ≡ other.peer → i ≡ j
