-- For which domain a client speaks.
use Rattle.std.specs.Prelude.{ℕ, ◌==◌, if◌then◌else◌, List, [], ◌∷◌, Option, None}
use Rattle.std.specs.List.{find, flat_map}
use Rattle.std.specs.Option.{option_map}
use Rattle.dots_lists.specs.Name.{is_name}
use Rattle.dots_settings.specs.declared.peer.PeerRow.{PeerRow}
use Rattle.dots_settings.specs.declared.peer.Role.{Role}
use Rattle.dots_settings.specs.declared.peer.Role.TheVariants as role
use Rattle.dots_settings.specs.Settings.{SettingsValue}
use Rattle.dots_settings.specs.Lookups.{name_of}
use Rattle.dots_gateway.specs.declared.routes.Route.{Route}

-- The settings of a file give each domain a name of 1 to 64 characters.
abbrev pub route_with : ℕ → List ℕ → List Route
route_with peer name = if is_name name then record { peer = peer; domain = name } ∷ [] else []

abbrev pub route_of_role : SettingsValue → ℕ → Role → List Route
route_of_role settings peer role.Stranger = []
route_of_role settings peer role.Gateway = []
route_of_role settings peer (role.Client domain) = route_with peer (name_of settings domain)

abbrev pub route_of : SettingsValue → PeerRow → List Route
route_of settings row = route_of_role settings row.peer row.role

-- each client of the settings with the name of its domain
abbrev pub routes_of : SettingsValue → List Route
routes_of settings = flat_map (route_of settings) settings.peers

-- the domain of a client: none of a stranger, of another gateway and of the upstream
abbrev pub domain_for : List Route → ℕ → ℕ → Option (List ℕ)
domain_for routes upstream peer =
    if peer == upstream then None else option_map (λ (route : Route). route.domain) (find (λ (route : Route). route.peer == peer) routes)
