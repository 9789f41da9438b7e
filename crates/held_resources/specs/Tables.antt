-- What the tables hold, what one more entry makes of them, and when they represent a history.
use Rattle.std.specs.Prelude.{◌≡◌, ℕ, zero, suc, ◌≤◌, Bool, true, false, not, ◌&&◌, ◌||◌, ◌==◌, bytes_eq, nat_lt, if◌then◌else◌, List, [], ◌∷◌, ◌++◌, map, filter, length, Option, Some, None, option_to_list, slice_get}
use Rattle.std.specs.Borrow.{Bor}
use Rattle.std.specs.List.{list_any, list_all, find, flat_map}
use Rattle.acl_lists.specs.declared.alias.Alias.{Alias}
use Rattle.acl_lists.specs.declared.acl.Acl.{Acl}
use Rattle.dots_settings.specs.declared.peer.PeerRow.{PeerRow}
use Rattle.dots_settings.specs.declared.limits.Limits.{Limits}
use Rattle.dots_settings.specs.Settings.{SettingsValue}
use Rattle.dots_history.specs.declared.config.Config.{Config}
use Rattle.dots_history.specs.declared.entry.Entry.{Entry}
use Rattle.dots_history.specs.declared.change.Change.{Change}
use Rattle.dots_history.specs.declared.change.Change.TheVariants as change
use Rattle.dots_history.specs.Entries.{undoes_alias, undoes_acl, is_configuration, is_loss}
use Rattle.dots_history.specs.Histories.{held}
use Rattle.dots_history.specs.Rows.{acl_of, is_lost_in}
use Rattle.dots_history.specs.Calm.{loser_of}
use Rattle.dots_history.specs.Capacities.{is_registration, has_client, loses_as}
use Rattle.dots_history.specs.Filed.{Filed}
use Rattle.dots_history.specs.Tables.{Client, client_of}
use Rattle.held_resources.specs.declared.kind.RoomKind.{RoomKind}
use Rattle.held_resources.specs.declared.kind.RoomKind.TheVariants as kind
use Rattle.held_resources.specs.declared.rooms.Rooms.{Rooms}
use Rattle.held_resources.specs.declared.configurations.Configuration.{Configuration}
use Rattle.held_resources.specs.declared.signals.Signal.{Signal}
use Rattle.held_resources.specs.Rows.{HeldRows, rows_more, rows_moved}
use Rattle.dots_history.specs.Held.{alias_of, aliases_of, acls_of, config_of}

-- How many domains there are, how much each of them and its clients may have, which peers may have a session
-- configuration, and which of them are clients, each with its domain: their signal may be lost.
pub record Sizes : Type 0 where
  pub domains : ℕ
  pub rooms : Rooms
  pub peers : List ℕ
  pub own : List (ℕ × ℕ)

abbrev pub rooms_of : Limits → Rooms
rooms_of limits = record { clients = limits.clients; aliases = limits.aliases; acls = limits.acls }

abbrev pub sizes_of : SettingsValue → Sizes
sizes_of settings = record {
  domains = length settings.domains;
  rooms = rooms_of settings.limits;
  peers = map (λ (row : PeerRow). row.peer) settings.peers;
  own = flat_map loser_of settings.peers;
}

-- ---- a client

-- a registered client, with what it holds and how much that may be
pub record Holding : Type 0 where
  pub rooms : Rooms
  -- the peer that registered it
  pub peer : ℕ
  pub cuid : List ℕ
  pub aliases : List Alias
  pub acls : List Acl

abbrev pub no_holding : Rooms → ℕ → List ℕ → Holding
no_holding rooms peer cuid = record { rooms = rooms; peer = peer; cuid = cuid; aliases = []; acls = [] }

-- what a client holds that this peer registered
abbrev pub holding_of : Rooms → List Entry → ℕ → Client → Holding
holding_of rooms held_now peer client = record {
  rooms = rooms;
  peer = peer;
  cuid = client.cuid;
  aliases = aliases_of client held_now;
  acls = acls_of client held_now;
}

-- What a change of the client makes of its aliases and of its access lists: what is written comes last, also where one of
-- its name was there.
abbrev pub aliases_with : Change → List Alias → List Alias
aliases_with change aliases = filter (λ alias. not (undoes_alias alias.name change)) aliases ++ option_to_list (alias_of change)

abbrev pub acls_with : Change → List Acl → List Acl
acls_with change acls = filter (λ acl. not (undoes_acl acl.name change)) acls ++ option_to_list (acl_of change)

abbrev pub holding_with : Change → Holding → Holding
holding_with change holding = record {
  rooms = holding.rooms;
  peer = holding.peer;
  cuid = holding.cuid;
  aliases = aliases_with change holding.aliases;
  acls = acls_with change holding.acls;
}

-- there is room for what it makes
pub record KeepsRoom (change : Change) (holding : Holding) : Type 0 where
  pub aliases : length (aliases_with change holding.aliases) ≤ holding.rooms.aliases
  pub acls : length (acls_with change holding.acls) ≤ holding.rooms.acls

-- ---- a domain

-- the registered clients of a domain, in order of registration, and how many there may be
pub record Clients : Type 0 where
  pub rooms : Rooms
  pub list : List Holding

abbrev pub no_clients : Rooms → Clients
no_clients rooms = record { rooms = rooms; list = [] }

-- what each registration among these entries is of in the domain, by what is held
abbrev pub holdings : Rooms → ℕ → List Entry → List Entry → List Holding
holdings rooms domain held_now [] = []
holdings rooms domain held_now (e ∷ es) =
    if is_registration e.change && (e.domain == domain)
    then holding_of rooms held_now e.peer (client_of e) ∷ holdings rooms domain held_now es
    else holdings rooms domain held_now es

-- the clients of a domain
abbrev pub clients_of : Rooms → ℕ → List Entry → Clients
clients_of rooms domain held_now = record { rooms = rooms; list = holdings rooms domain held_now held_now }

abbrev pub has_cuid : List ℕ → Holding → Bool
has_cuid cuid holding = bytes_eq cuid holding.cuid

-- the client of this cuid holds what the change makes of it
abbrev pub changed : List ℕ → Change → Holding → Holding
changed cuid change holding = if has_cuid cuid holding then holding_with change holding else holding

-- what a change of a client by this peer makes of the clients of its domain
abbrev pub list_with : Rooms → ℕ → List ℕ → Change → List Holding → List Holding
list_with rooms peer cuid change.Register list = list ++ no_holding rooms peer cuid ∷ []
list_with rooms peer cuid change.Deregister list = filter (λ holding. not (has_cuid cuid holding)) list
list_with rooms peer cuid c list = map (changed cuid c) list

abbrev pub clients_with : ℕ → List ℕ → Change → Clients → Clients
clients_with peer cuid change clients =
    record { rooms = clients.rooms; list = list_with clients.rooms peer cuid change clients.list }

-- no two have one cuid
abbrev pub AreApart : List Holding → Type 0
AreApart [] = Unit {0}
AreApart (holding ∷ list) = (list_any (has_cuid holding.cuid) list ≡ false) × AreApart list

-- each of these is empty, and has these rooms
abbrev pub AreEmpty : Rooms → List Holding → Type 0
AreEmpty rooms [] = Unit {0}
AreEmpty rooms (holding ∷ list) = (holding ≡ no_holding rooms holding.peer holding.cuid) × AreEmpty rooms list

-- each of these has these rooms
abbrev pub HaveRooms : Rooms → List Holding → Type 0
HaveRooms rooms [] = Unit {0}
HaveRooms rooms (holding ∷ list) = (holding.rooms ≡ rooms) × HaveRooms rooms list

-- ---- a peer

abbrev pub configured : Change → Option (ℕ × Config) → Option (ℕ × Config)
configured (change.SetConfig sid config) before = Some (sid, config)
configured change.ClearConfig before = None
configured _ before = before

-- what an entry makes of the session of a peer
abbrev pub configuration_with : Entry → Configuration → Configuration
configuration_with e configuration =
    record { peer = configuration.peer; config = if e.peer == configuration.peer then configured e.change configuration.config else configuration.config }

abbrev pub no_configuration : PeerRow → Configuration
no_configuration row = record { peer = row.peer; config = None }

abbrev pub peer_of : Configuration → ℕ
peer_of configuration = configuration.peer

abbrev pub configuration_of : List Entry → ℕ → Configuration
configuration_of held_now peer = record { peer = peer; config = config_of peer held_now }

-- whether a signal is lost after a change of its peer
abbrev pub lost_after : Change → Bool → Bool
lost_after change.Lost before = true
lost_after change.Back before = false
lost_after _ before = before

abbrev pub own_of : Signal → ℕ × ℕ
own_of signal = (signal.peer, signal.domain)

-- what an entry makes of the signal of a client peer
abbrev pub signal_with : Entry → Signal → Signal
signal_with e signal = record {
  peer = signal.peer;
  domain = signal.domain;
  lost = if loses_as e (own_of signal) then lost_after e.change signal.lost else signal.lost;
}

-- that of a client peer and its domain, where it isn't lost, and by what is held
abbrev pub no_loss : ℕ × ℕ → Signal
no_loss own = record { peer = own.0; domain = own.1; lost = false }

abbrev pub signal_of : List Entry → ℕ × ℕ → Signal
signal_of held_now own = record { peer = own.0; domain = own.1; lost = is_lost_in held_now own.0 own.1 }

-- ---- all of them

pub record Tables : Type 0 where
  pub sizes : Sizes
  -- by the number of the domain
  pub clients : List Clients
  pub configurations : List Configuration
  pub signals : List Signal
  -- of each thing that is held, the slot of a journal in which the entry stands that wrote it
  pub slots : HeldRows

-- f of what stands at the place
abbrev pub update : {A : Type 0} → (A → A) → ℕ → List A → List A
update f i [] = []
update f zero (x ∷ xs) = f x ∷ xs
update f (suc i) (x ∷ xs) = x ∷ update f i xs

abbrev pub tables_with : Filed → Tables → Tables
tables_with x tables = record {
  sizes = tables.sizes;
  clients = update (clients_with x.entry.peer x.entry.cuid x.entry.change) x.entry.domain tables.clients;
  configurations = map (configuration_with x.entry) tables.configurations;
  signals = map (signal_with x.entry) tables.signals;
  slots = rows_more x tables.slots;
}

-- the slots get new numbers
abbrev pub tables_renumbered : List ℕ → Tables → Tables
tables_renumbered keep tables = record {
  sizes = tables.sizes;
  clients = tables.clients;
  configurations = tables.configurations;
  signals = tables.signals;
  slots = rows_moved keep tables.slots;
}

-- but for the slots the two are the same
pub record SameButSlots (a b : Tables) : Type 0 where
  pub sizes : a.sizes ≡ b.sizes
  pub clients : a.clients ≡ b.clients
  pub configurations : a.configurations ≡ b.configurations
  pub signals : a.signals ≡ b.signals

-- the entry is of one of the domains, or it configures the session of one of the peers
abbrev pub is_placed : Sizes → Entry → Bool
is_placed sizes e =
    if is_configuration e.change then list_any (λ peer. e.peer == peer) sizes.peers else nat_lt e.domain sizes.domains

-- and a loss, and that it is over, is of one of the client peers and its domain (no signal of a gateway is lost: it says nothing of
-- the clients behind it)
abbrev pub is_known : Sizes → Entry → Bool
is_known sizes e = is_placed sizes e && (not (is_loss e.change) || list_any (loses_as e) sizes.own)

-- The tables have what is held, sorted by domains, clients and peers. No alias and no access list is held of a client that
-- isn't registered, and nothing of other domains and peers.
pub record Have (tables : Tables) (held_now : List Entry) : Type 0 where
  pub domains : length tables.clients ≡ tables.sizes.domains
  pub clients : (domain : ℕ) (clients : Clients) → slice_get tables.clients domain ≡ Some clients → clients ≡ clients_of tables.sizes.rooms domain held_now
  pub configurations : tables.configurations ≡ map (configuration_of held_now) tables.sizes.peers
  pub signals : tables.signals ≡ map (signal_of held_now) tables.sizes.own
  pub owned : list_all (has_client held_now) held_now ≡ true
  pub known : list_all (is_known tables.sizes) held_now ≡ true

-- They represent a history where they have what it leaves held.
abbrev pub Represents : Tables → List Entry → Type 0
Represents tables entries = Have tables (held entries)

-- ---- what the tables answer

abbrev pub in_clients : List ℕ → Option Clients → Option Holding
in_clients cuid None = None
in_clients cuid (Some clients) = find (has_cuid cuid) clients.list

-- the client of this domain and cuid
abbrev pub client_at : ℕ → List ℕ → List Clients → Option Holding
client_at domain cuid clients = in_clients cuid (slice_get clients domain)

abbrev pub registrant_in : Option Holding → Option ℕ
registrant_in None = None
registrant_in (Some holding) = Some holding.peer

abbrev pub aliases_in : Option Holding → List Alias
aliases_in None = []
aliases_in (Some holding) = holding.aliases

abbrev pub acls_in : Option Holding → List Acl
acls_in None = []
acls_in (Some holding) = holding.acls

abbrev pub number_in : Option Clients → ℕ
number_in None = 0
number_in (Some clients) = length clients.list

abbrev pub most_of : Rooms → RoomKind → ℕ
most_of rooms kind.Client = rooms.clients
most_of rooms kind.Alias = rooms.aliases
most_of rooms kind.Acl = rooms.acls

-- a configuration as a reader gets it
abbrev pub config_now : ℕ × Bor Config → ℕ × Config
config_now (sid, config) = (sid, config.now)

abbrev pub config_in : Option Configuration → Option (ℕ × Config)
config_in None = None
config_in (Some configuration) = configuration.config

-- the signal of this peer is lost in this domain
abbrev pub lost_in : Tables → ℕ → ℕ → Bool
lost_in tables peer domain = list_any (λ (signal : Signal). signal.lost && ((peer == signal.peer) && (domain == signal.domain))) tables.signals
