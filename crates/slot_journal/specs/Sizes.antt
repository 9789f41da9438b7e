-- How large a journal is, by the settings: what a compaction keeps at most decides it.
use Rattle.std.specs.Prelude.{ℕ, ◌+◌, ◌*◌, Bool, true, false, List, length, count_by}
use Rattle.dots_settings.specs.declared.peer.PeerRow.{PeerRow}
use Rattle.dots_settings.specs.declared.peer.Role.{Role}
use Rattle.dots_settings.specs.declared.peer.Role.TheVariants as role
use Rattle.dots_settings.specs.Settings.{SettingsValue, is_gateway_role}
use Rattle.dots_settings.specs.Sizes.{most_of_domain}

abbrev pub is_client_role : Role → Bool
is_client_role (role.Client number) = true
is_client_role _ = false

abbrev pub gateways_of : List PeerRow → ℕ
gateways_of peers = count_by (λ row. is_gateway_role row.role) peers

abbrev pub clients_of : List PeerRow → ℕ
clients_of peers = count_by (λ row. is_client_role row.role) peers

-- How many pairs of a peer and a domain there are for which it may act: a client acts for its own domain, a gateway for each, and for itself.
abbrev pub actors_of : ℕ → List PeerRow → ℕ
actors_of domains peers = clients_of peers + gateways_of peers * (domains + 1)

-- How many entries a compaction keeps at most, but for the lost signals: what is kept of each domain, the remembered messages, a session configuration of each peer,
-- and the last entry. There is at most one lost signal of each client peer, which is fewer than these.
abbrev pub kept_at_most : SettingsValue → ℕ
kept_at_most settings =
    length settings.domains * most_of_domain settings.limits
    + settings.limits.remembered * actors_of (length settings.domains) settings.peers
    + clients_of settings.peers
    + gateways_of settings.peers
    + 1

-- the slots of a half, of which a compaction leaves eight and more free
abbrev pub slots_of : SettingsValue → ℕ
slots_of settings = 2 * kept_at_most settings + 8
