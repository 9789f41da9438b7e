-- Who there is in a generated world.
use Rattle.std.specs.Prelude.{◌≡◌, ℕ, Bool, true, false, ◌&&◌, if◌then◌else◌, is_some, List, [], ◌∷◌, ◌++◌, codes}
use Rattle.std.specs.List.{list_all}
use Rattle.dots_keys.specs.Operations.{is_client_name}
use Rattle.dots_gateway.specs.Routes.{routes_of, domain_for}
use Rattle.dots_gateway.specs.declared.routes.Route.{Route}
use Rattle.dots_settings.specs.File.{SettingsAre}
use Rattle.dots_settings.specs.Lookups.{role_of}
use Rattle.dots_settings.specs.declared.peer.Role.{Role}
use Rattle.dots_settings.specs.declared.peer.Role.TheVariants as role
use Rattle.dots_settings.specs.Settings.{is_gateway_role}
use Rattle.dots_world.specs.Plans.{Plan, IsPlan, upstream_of}
use Rattle.dots_world.specs.declared.plan.PlanClient.{PlanClient}

-- the settings of the server
unfoldable pub server_text : List ℕ
server_text =
    codes "domain net1\nprefix net1 192.0.2.0/24\nprefix net1 2001:db8:1::/48\n"
    ++ (codes "domain net2\nprefix net2 198.51.100.0/24\n"
    ++ codes "client 0 net1\nclient 1 net1\nclient 2 net2\ngateway 3\nceiling 86400\n")

-- and those of the gateway, which asks peer 9
unfoldable pub gateway_text : List ℕ
gateway_text =
    codes "domain net1\nprefix net1 192.0.2.0/24\nprefix net1 2001:db8:1::/48\n"
    ++ (codes "domain net2\nprefix net2 198.51.100.0/24\n"
    ++ (codes "client 0 net1\nclient 1 net1\nclient 2 net2\ngateway 3\nceiling 86400\n" ++ codes "upstream 9\n"))

-- two clients that ask the server, one of each domain, and one of net1 that asks the gateway
abbrev pub clients : List PlanClient
clients =
    record { peer = 0; cuid = codes "a"; behind = false } ∷ record { peer = 2; cuid = codes "b"; behind = false }
    ∷ record { peer = 1; cuid = codes "c"; behind = true } ∷ []

-- the role is that of a client
abbrev pub is_client_role : Role → Bool
is_client_role (role.Client domain) = true
is_client_role _ = false

-- the client has a domain in the settings of whom it asks
abbrev pub has_domain : Plan → PlanClient → Bool
has_domain plan c =
    if c.behind then is_some (domain_for (routes_of plan.gateway_settings) (upstream_of plan) c.peer) else is_client_role (role_of plan.settings c.peer)

-- A plan can be, as far as each of its parties tells by itself: two clients may have one peer number.
abbrev pub can_be : Plan → Bool
can_be plan =
    is_gateway_role (role_of plan.settings plan.gateway)
    && (list_all (λ (route : Route). is_client_name route.domain) (routes_of plan.gateway_settings) && list_all (has_domain plan) plan.clients)

-- The plan of a generated world: the settings are those of the two texts, and it is a plan that can be.
pub record IsGenerated (plan : Plan) : Type 0 where
  pub is_plan : IsPlan plan
  pub settings : SettingsAre server_text plan.settings
  pub gateway_settings : SettingsAre gateway_text plan.gateway_settings
  pub gateway : plan.gateway ≡ 3
  pub clients : plan.clients ≡ clients
