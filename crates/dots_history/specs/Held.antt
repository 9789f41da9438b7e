-- What a history leaves held of a client and of a peer, in what it leaves held at all.
use Rattle.std.specs.Prelude.{ℕ, Bool, ◌&&◌, ◌==◌, bytes_eq, if◌then◌else◌, List, [], ◌∷◌, ◌++◌, filter, Option, Some, None, option_to_list, option_map, not}
use Rattle.std.specs.List.{list_any, find}
use Rattle.acl_lists.specs.declared.alias.Alias.{Alias}
use Rattle.acl_lists.specs.declared.acl.Acl.{Acl}
use Rattle.dots_history.specs.declared.config.Config.{Config}
use Rattle.dots_history.specs.declared.entry.Entry.{Entry}
use Rattle.dots_history.specs.declared.change.Change.{Change}
use Rattle.dots_history.specs.declared.change.Change.TheVariants as change
use Rattle.dots_history.specs.Entries.{is_lost, option_any}
use Rattle.dots_history.specs.Histories.{or_else}
use Rattle.dots_history.specs.Rows.{acl_of}
use Rattle.dots_history.specs.Capacities.{is_registration, loses_as}
use Rattle.dots_history.specs.Tables.{Client, is_of}

-- the alias that a change writes
abbrev pub alias_of : Change → Option Alias
alias_of (change.SetAlias alias) = Some alias
alias_of _ = None

-- what the entries of a client wrote of one kind, in order of writing
abbrev pub written : {A : Type 0} → (Change → Option A) → Client → List Entry → List A
written pick client [] = []
written pick client (e ∷ es) = option_to_list (if is_of client e then pick e.change else None) ++ written pick client es

-- the aliases of a client, and its access lists (RFC 8783, sections 6 and 7)
abbrev pub aliases_of : Client → List Entry → List Alias
aliases_of client held_now = written alias_of client held_now

abbrev pub acls_of : Client → List Entry → List Acl
acls_of client held_now = written acl_of client held_now

-- the one of this name
abbrev pub alias_named : List ℕ → List Alias → Option Alias
alias_named name aliases = find (λ alias. bytes_eq name alias.name) aliases

abbrev pub acl_named : List ℕ → List Acl → Option Acl
acl_named name acls = find (λ acl. bytes_eq name acl.name) acls

-- the entry registers the client (RFC 8783, section 5.1)
abbrev pub registers : Client → Entry → Bool
registers client e = is_registration e.change && is_of client e

-- the client is registered
abbrev pub is_registered : Client → List Entry → Bool
is_registered client held_now = list_any (registers client) held_now

-- The peer that registered the client, where it is registered. Of a client one registration at most is held.
abbrev pub registrant : Client → List Entry → Option ℕ
registrant client held_now = option_map (λ (e : Entry). e.peer) (find (registers client) held_now)

-- the client is registered, by another peer than this one
abbrev pub is_of_another : ℕ → Client → List Entry → Bool
is_of_another peer client held_now = option_any (λ other. not (other == peer)) (registrant client held_now)

-- the session configuration that a change sets, with its sid
abbrev pub config_set : Change → Option (ℕ × Config)
config_set (change.SetConfig sid config) = Some (sid, config)
config_set _ = None

-- that of a peer (RFC 9132, section 4.5.2)
abbrev pub config_of : ℕ → List Entry → Option (ℕ × Config)
config_of peer [] = None
config_of peer (e ∷ es) = or_else (if e.peer == peer then config_set e.change else None) (config_of peer es)

-- the signal of the peer is lost, in whichever domain
abbrev pub is_lost_of : List Entry → ℕ → Bool
is_lost_of held_now peer = list_any (λ e. is_lost e.change && (e.peer == peer)) held_now

-- the entries of a client alone
abbrev pub of_client : Client → List Entry → List Entry
of_client client entries = filter (is_of client) entries

-- the entries of a peer in a domain alone
abbrev pub of_peer : ℕ → ℕ → List Entry → List Entry
of_peer peer domain entries = filter (λ e. loses_as e (peer, domain)) entries
