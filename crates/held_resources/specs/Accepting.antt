-- Which entries fit a history, as far as clients, aliases, access lists and session configurations go.
use Rattle.std.specs.Prelude.{◌≡◌, ℕ, ◌≤◌, Bool, true, false, not, ◌&&◌, ◌||◌, ◌==◌, nat_le, List, [], ◌∷◌, ◌++◌, length, Option, Some, None, is_some, slice_get}
use Rattle.std.specs.List.{find, list_any}
use Rattle.dots_history.specs.declared.entry.Entry.{Entry}
use Rattle.dots_history.specs.declared.change.Change.{Change}
use Rattle.dots_history.specs.Entries.{same_client}
use Rattle.dots_history.specs.Histories.{tally, held}
use Rattle.dots_history.specs.Capacities.{is_registration, is_alias, is_list}
use Rattle.dots_history.specs.Fits.{registers_rightly}
use Rattle.held_resources.specs.declared.rooms.Rooms.{Rooms}
use Rattle.held_resources.specs.Tables.{Sizes, Tables, Clients, Holding, KeepsRoom, Represents, is_known, client_at, has_cuid, list_with, aliases_with, acls_with}

-- in what is held the entry's domain and client keep the capacities
abbrev pub keeps_rooms : Rooms → Entry → List Entry → Bool
keeps_rooms rooms e held_now =
    nat_le (tally (λ x. is_registration x.change && (x.domain == e.domain)) held_now) rooms.clients
    && (nat_le (tally (λ x. is_alias x.change && same_client e x) held_now) rooms.aliases
    && nat_le (tally (λ x. is_list x.change && same_client e x) held_now) rooms.acls)

-- The entry is of a domain or a peer that there is; only a client that isn't registered registers, and only one that is
-- writes aliases and access lists; and after it the capacities are kept.
abbrev pub accepts : Sizes → List Entry → Entry → Bool
accepts sizes before e =
    is_known sizes e && (registers_rightly (held before) e && keeps_rooms sizes.rooms e (held (before ++ e ∷ [])))

-- it fits some history that the tables represent
abbrev pub FitsIn : Tables → Entry → Type 0
FitsIn tables e = (before : List Entry) × Represents tables before × (accepts tables.sizes before e ≡ true)

-- ---- by the tables alone

abbrev pub keeps_room : Change → Option Holding → Bool
keeps_room change None = true
keeps_room change (Some holding) =
    nat_le (length (aliases_with change holding.aliases)) holding.rooms.aliases
    && nat_le (length (acls_with change holding.acls)) holding.rooms.acls

-- after the change of a client by this peer its domain and the client keep their rooms
abbrev pub takes : ℕ → List ℕ → Change → Clients → Bool
takes peer cuid change clients =
    nat_le (length (list_with clients.rooms peer cuid change clients.list)) clients.rooms.clients
    && keeps_room change (find (has_cuid cuid) clients.list)

-- the same as facts, and a client that registers isn't there
pub record Takes (peer : ℕ) (cuid : List ℕ) (change : Change) (clients : Clients) : Type 0 where
  pub number : length (list_with clients.rooms peer cuid change clients.list) ≤ clients.rooms.clients
  pub rooms : (holding : Holding) → find (has_cuid cuid) clients.list ≡ Some holding → KeepsRoom change holding
  pub fresh : is_registration change ≡ true → list_any (has_cuid cuid) clients.list ≡ false

-- a change of a client that is registered, or isn't, registers rightly
abbrev pub rightly : Change → Bool → Bool
rightly change registered =
    (not (is_registration change) || not registered) && (not (is_alias change || is_list change) || registered)

abbrev pub takes_in : Entry → Option Clients → Bool
takes_in e None = true
takes_in e (Some clients) = takes e.peer e.cuid e.change clients

abbrev pub accepts_by : Tables → Entry → Bool
accepts_by tables e =
    is_known tables.sizes e
    && (rightly e.change (is_some (client_at e.domain e.cuid tables.clients)) && takes_in e (slice_get tables.clients e.domain))
