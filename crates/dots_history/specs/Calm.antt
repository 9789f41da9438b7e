-- When a history is calm, by the settings of a server.
use Rattle.std.specs.Prelude.{◌≡◌, ℕ, ◌≤◌, zero, suc, Bool, true, false, not, ◌&&◌, ◌||◌, ◌==◌, nat_lt, if◌then◌else◌, List, [], ◌∷◌, length, map, Option, Some, None}
use Rattle.std.specs.List.{list_any, list_all, flat_map}
use Rattle.ip_scope.specs.Prefix.{PrefixValue, inside}
use Rattle.acl_lists.specs.declared.ace.Ace.{Ace}
use Rattle.dots_settings.specs.declared.peer.PeerRow.{PeerRow}
use Rattle.dots_settings.specs.declared.peer.Role.{Role}
use Rattle.dots_settings.specs.declared.peer.Role.TheVariants as role
use Rattle.dots_settings.specs.Settings.{SettingsValue}
use Rattle.dots_settings.specs.Lookups.{no_domain, role_of, prefixes_of, addresses_of}
use Rattle.dots_history.specs.declared.entry.Entry.{Entry}
use Rattle.dots_history.specs.declared.entry.MessageKey.{MessageKey}
use Rattle.dots_history.specs.declared.entry.MessageKey.TheVariants as key
use Rattle.dots_history.specs.declared.put.Target.{Target}
use Rattle.dots_history.specs.declared.change.Change.{Change}
use Rattle.dots_history.specs.declared.change.Change.TheVariants as change
use Rattle.dots_history.specs.Entries.{same_client, is_signal, is_configuration, is_loss}
use Rattle.dots_history.specs.Histories.{Mitigation, Within, Calm, tally, is_nil, mitigations}
use Rattle.dots_history.specs.Rows.{waits}
use Rattle.dots_history.specs.Capacities.{Capacities, KeepsCapacities}

-- a peer of this role may act for the domain, which is one of the settings: a client for its own, a gateway for each
abbrev pub may_act : SettingsValue → Role → ℕ → Bool
may_act settings role.Stranger domain = false
may_act settings (role.Client own) domain = (own == domain) && nat_lt domain (length settings.domains)
may_act settings role.Gateway domain = nat_lt domain (length settings.domains)

-- and configures its session in this one
abbrev pub may_configure : Role → ℕ → Bool
may_configure role.Stranger domain = false
may_configure (role.Client own) domain = own == domain
may_configure role.Gateway domain = domain == no_domain

abbrev pub is_http : MessageKey → Bool
is_http key.Http = true
is_http _ = false

abbrev pub all_inside : List PrefixValue → List PrefixValue → Bool
all_inside domain prefixes = list_all (λ prefix. list_any (inside prefix) domain) prefixes

-- a host name of the settings, all of whose addresses lie inside the domain
abbrev pub name_inside : SettingsValue → List PrefixValue → List ℕ → Bool
name_inside settings domain name = not (is_nil (addresses_of settings name)) && all_inside domain (addresses_of settings name)

abbrev pub destination_inside : List PrefixValue → Option PrefixValue → Bool
destination_inside domain None = true
destination_inside domain (Some prefix) = list_any (inside prefix) domain

-- what a change names lies inside the domain: the prefixes of targets, those of aliases and of their host names, and
-- the destinations of access lists
abbrev pub change_inside : SettingsValue → List PrefixValue → Change → Bool
change_inside settings domain (change.Put put) = list_all (λ (target : Target). all_inside domain target.prefixes) put.targets
change_inside settings domain (change.SetAlias alias) = all_inside domain alias.asked.prefixes && list_all (name_inside settings domain) alias.asked.names
change_inside settings domain (change.SetAcl acl) = list_all (λ (ace : Ace). destination_inside domain ace.destination) acl.aces
change_inside settings domain _ = true

abbrev pub is_client_of : Role → ℕ → Bool
is_client_of (role.Client own) domain = own == domain
is_client_of _ domain = false

-- a loss, and that it is over, is of a client peer, and names no client
abbrev pub loses_rightly : SettingsValue → Entry → Bool
loses_rightly settings e = not (is_loss e.change) || (is_nil e.cuid && is_client_of (role_of settings e.peer) e.domain)

-- the peer may act for the domain, inside which lies what the entry names, or it configures its session and names no
-- client
abbrev pub acts_rightly : SettingsValue → Entry → Bool
acts_rightly settings e =
    if is_configuration e.change
    then is_nil e.cuid && may_configure (role_of settings e.peer) e.domain
    else may_act settings (role_of settings e.peer) e.domain && change_inside settings (prefixes_of settings e.domain) e.change

-- A mitigation that waits for a lost signal is of a client peer: a gateway's signal says nothing of the clients behind
-- it.
abbrev pub waits_rightly : SettingsValue → Entry → Bool
waits_rightly settings e = not (waits e.change) || is_client_of (role_of settings e.peer) e.domain

abbrev pub is_of_settings : SettingsValue → Entry → Bool
is_of_settings settings e = acts_rightly settings e && (loses_rightly settings e && waits_rightly settings e)

-- what isn't a signal entry came by HTTP
abbrev pub came_rightly : Entry → Bool
came_rightly e = is_signal e.change || is_http e.key

abbrev pub is_own : SettingsValue → Entry → Bool
is_own settings e = is_of_settings settings e && came_rightly e

-- numbers from 0, so many
abbrev pub numbers_from : ℕ → ℕ → List ℕ
numbers_from first zero = []
numbers_from first (suc n) = first ∷ numbers_from (suc first) n

-- for which domains a peer may send signal entries
abbrev pub acts_by : ℕ → ℕ → Role → List (ℕ × ℕ)
acts_by domains peer role.Stranger = []
acts_by domains peer (role.Client domain) = (peer, domain) ∷ []
acts_by domains peer role.Gateway = (peer, no_domain) ∷ map (λ domain. (peer, domain)) (numbers_from 0 domains)

abbrev pub acts_for : SettingsValue → PeerRow → List (ℕ × ℕ)
acts_for settings row = acts_by (length settings.domains) row.peer row.role

abbrev pub loser_by : ℕ → Role → List (ℕ × ℕ)
loser_by peer (role.Client domain) = (peer, domain) ∷ []
loser_by peer _ = []

abbrev pub loser_of : PeerRow → List (ℕ × ℕ)
loser_of row = loser_by row.peer row.role

abbrev pub capacities_of : SettingsValue → Capacities
capacities_of settings = record {
  actors = flat_map (acts_for settings) settings.peers;
  peers = map (λ (row : PeerRow). row.peer) settings.peers;
  domains = numbers_from 0 (length settings.domains);
  losers = flat_map loser_of settings.peers;
  mitigations = settings.limits.domain_mitigations;
  clients = settings.limits.clients;
  aliases = settings.limits.aliases;
  acls = settings.limits.acls;
}

-- What a calm history is at its end, at a time t not before its last entry: its times don't fall; each entry is the
-- settings' own; what ends or withdraws a mitigation that was live just before has its peer; and the capacities are
-- kept in what it comes to at t.
pub record IsCalmBy (settings : SettingsValue) (t : ℕ) (entries : List Entry) : Type 0 where
  pub times : Within 0 entries t
  pub own : list_all (is_own settings) entries ≡ true
  pub peers : Calm entries
  pub capacities : KeepsCapacities (capacities_of settings) t entries
  pub of_client : (client : Entry) → tally (λ (m : Mitigation). same_client client m.put) (mitigations t entries) ≤ settings.limits.client_mitigations
