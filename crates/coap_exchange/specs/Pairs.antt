-- Peers and the domains that they may act for.
use Rattle.std.specs.Prelude.{◌≡◌, ℕ, zero, suc, Bool, ◌&&◌, ◌==◌, List, [], ◌∷◌, ◌++◌, map, length, drop}
use Rattle.std.specs.List.{flat_map, position_from}
use Rattle.std.specs.Map.{lookup}
use Rattle.dots_settings.specs.declared.peer.PeerRow.{PeerRow}
use Rattle.dots_settings.specs.declared.peer.Role.{Role}
use Rattle.dots_settings.specs.declared.peer.Role.TheVariants as role
use Rattle.dots_settings.specs.Settings.{SettingsValue}
use Rattle.coap_exchange.specs.declared.pair.Pair.{Pair}

-- it is this peer with this domain
abbrev pub is_pair : ℕ → ℕ → Pair → Bool
is_pair peer domain pair = (pair.peer == peer) && (pair.domain == domain)

abbrev pub pair_with : ℕ → ℕ → Pair
pair_with peer domain = record { peer = peer; domain = domain }

-- the numbers below n
abbrev pub below : ℕ → List ℕ
below zero = []
below (suc n) = below n ++ n ∷ []

-- the peer with each of so many domains
abbrev pub pairs_with_each : ℕ → ℕ → List Pair
pairs_with_each peer domains = map (pair_with peer) (below domains)

-- A client may act for its own domain. A gateway may act for each (RFC 8811, section 2.2.3); the number 65,535 stands for
-- its own session, which is of no domain.
abbrev pub pairs_of_role : ℕ → ℕ → Role → List Pair
pairs_of_role domains peer role.Stranger = []
pairs_of_role domains peer (role.Client domain) = pair_with peer domain ∷ []
pairs_of_role domains peer role.Gateway = pairs_with_each peer domains ++ pair_with peer 65535 ∷ []

abbrev pub pairs_of_row : ℕ → PeerRow → List Pair
pairs_of_row domains row = pairs_of_role domains row.peer row.role

-- each peer with each domain that it may act for, in the order of the settings
abbrev pub pairs_of : SettingsValue → List Pair
pairs_of settings = flat_map (pairs_of_row (length settings.domains)) settings.peers

-- both are the same peer and domain
abbrev pub same_pair : Pair → Pair → Bool
same_pair one other = (one.peer == other.peer) && (one.domain == other.domain)

-- a map has the first place of each pair in the list from a place on
abbrev pub AreFoundFrom : ℕ → List (Pair × ℕ) → List Pair → Type 0
AreFoundFrom place entries pairs = (pair : Pair) → lookup (same_pair pair) entries ≡ position_from (same_pair pair) place (drop place pairs)
