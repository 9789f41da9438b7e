-- How much a history may come to: by the peers and domains that there are, and the capacities of a domain and of a
-- client.
use Rattle.std.specs.Prelude.{◌≡◌, ℕ, ◌+◌, ◌*◌, ◌≤◌, Bool, true, false, not, ◌&&◌, ◌||◌, ◌==◌, if◌then◌else◌, List, length}
use Rattle.std.specs.List.{list_any, list_all}
use Rattle.dots_history.specs.declared.entry.Entry.{Entry}
use Rattle.dots_history.specs.declared.change.Change.{Change}
use Rattle.dots_history.specs.declared.change.Change.TheVariants as change
use Rattle.dots_history.specs.Entries.{same_client, is_signal, signals, is_configuration, is_lost}
use Rattle.dots_history.specs.Histories.{Mitigation, tally, mitigations, held}

pub record Capacities : Type 0 where
  -- which peers may send signal entries for which domains
  pub actors : List (ℕ × ℕ)
  -- the peers that may configure their session
  pub peers : List ℕ
  pub domains : List ℕ
  -- client peers, each with its domain: their signal may be lost
  pub losers : List (ℕ × ℕ)
  -- live mitigations, and registered clients, of a domain
  pub mitigations : ℕ
  pub clients : ℕ
  -- of a client
  pub aliases : ℕ
  pub acls : ℕ

unfoldable pub is_registration : Change → Bool
is_registration change.Register = true
is_registration _ = false

unfoldable pub is_alias : Change → Bool
is_alias (change.SetAlias alias) = true
is_alias _ = false

unfoldable pub is_list : Change → Bool
is_list (change.SetAcl acl) = true
is_list _ = false

unfoldable pub is_setting : Change → Bool
is_setting (change.SetConfig sid config) = true
is_setting _ = false

-- a signal entry is of an actor; a session configuration is of one of the peers, and any other entry of one of the
-- domains
abbrev pub belongs_there : Capacities → Entry → Bool
belongs_there room e =
    (not (is_signal e.change) || list_any (λ actor. signals actor.0 actor.1 e) room.actors)
    && (if is_configuration e.change then list_any (λ peer. e.peer == peer) room.peers else list_any (λ domain. e.domain == domain) room.domains)

-- the entry is of this peer and domain
abbrev pub loses_as : Entry → ℕ × ℕ → Bool
loses_as e loser = (e.peer == loser.0) && (e.domain == loser.1)

-- and a loss is of a client peer and its domain
abbrev pub belongs : Capacities → Entry → Bool
belongs room e = belongs_there room e && (not (is_lost e.change) || list_any (loses_as e) room.losers)

-- an alias or an access list is of a registered client
abbrev pub has_client : List Entry → Entry → Bool
has_client standing e =
    not (is_alias e.change || is_list e.change) || list_any (λ r. is_registration r.change && same_client r e) standing

-- A history keeps the capacities at time t, in what it comes to then.
pub record KeepsCapacities (room : Capacities) (t : ℕ) (entries : List Entry) : Type 0 where
  pub live : (domain : ℕ) → tally (λ (m : Mitigation). m.put.domain == domain) (mitigations t entries) ≤ room.mitigations
  pub registered : (domain : ℕ) → tally (λ (e : Entry). is_registration e.change && (e.domain == domain)) (held entries) ≤ room.clients
  pub owned : list_all (has_client (held entries)) (held entries) ≡ true
  pub aliased : (client : Entry) → tally (λ (e : Entry). is_alias e.change && same_client client e) (held entries) ≤ room.aliases
  pub listed : (client : Entry) → tally (λ (e : Entry). is_list e.change && same_client client e) (held entries) ≤ room.acls

-- the most that a view names, when n messages of an actor are remembered
abbrev pub most_named : Capacities → ℕ → ℕ
most_named room n =
    length room.domains * (2 * room.mitigations + room.clients + room.clients * (room.aliases + room.acls))
    + length room.actors * n
    + length room.peers
    + length room.losers
    + 1
