-- The rows that filter, in their order, and what each call makes of them.
use Rattle.std.specs.Prelude.{◌≡◌, option_map, ℕ, ◌<◌, ◌≤◌, ◌^◌, Bool, true, false, not, ◌&&◌, ◌||◌, ◌==◌, bytes_eq, if◌then◌else◌, List, [], ◌∷◌, ◌++◌, map, filter, length, Option}
use Rattle.std.specs.List.{list_any, AllByRecursion}
use Rattle.acl_lists.specs.declared.acl.Acl.{Acl}
use Rattle.acl_lists.specs.declared.acl.Activation.{Activation}
use Rattle.acl_lists.specs.declared.acl.Activation.TheVariants.{WhenMitigating, Immediate, Deactivate}
use Rattle.acl_lists.specs.declared.rows.ScrubRow.{ScrubRow}
use Rattle.acl_lists.specs.declared.rows.AclRow.{AclRow}
use Rattle.filter_table.specs.declared.placed.PlacedAcl.{PlacedAcl}
use Rattle.filter_table.specs.TableRows.{PlacedScrub, is_of_client, row_is_of, row_set, waits}
use Rattle.filter_table.specs.Table.{TableValue}
use Rattle.dots_history.specs.declared.entry.Entry.{Entry}
use Rattle.ip_scope.specs.Prefix.{PrefixValue}
use Rattle.dots_history.specs.declared.entry.MessageKey.TheVariants as key
use Rattle.dots_history.specs.declared.put.Put.{Put}
use Rattle.dots_history.specs.declared.put.Target.{Target}
use Rattle.dots_history.specs.declared.change.Change.{Change}
use Rattle.dots_history.specs.declared.change.Change.TheVariants as change
use Rattle.dots_history.specs.declared.status.Status.TheVariants.{Open}
use Rattle.dots_history.specs.Entries.{ends}
use Rattle.dots_history.specs.Histories.{Mitigation, live}
use Rattle.dots_history.specs.Rows.{Row, rows_of, triggers, mid_of, acl_of}
use Rattle.dots_history.specs.Rows as history

-- The rows of mitigations and those of access lists, each in their order, and how many of each there may be.
pub record FiltersValue : Type 0 where
  pub scrub_room : ℕ
  pub acl_room : ℕ
  pub scrubs : List ScrubRow
  pub acls : List AclRow

-- there may be as many of each
pub record SameRoom (old new : FiltersValue) : Type 0 where
  pub scrubs : new.scrub_room ≡ old.scrub_room
  pub acls : new.acl_room ≡ old.acl_room

abbrev pub with_rows : FiltersValue → List ScrubRow → List AclRow → FiltersValue
with_rows filters scrubs acls =
    record { scrub_room = filters.scrub_room; acl_room = filters.acl_room; scrubs = scrubs; acls = acls }

-- ---- mitigations that filter

-- The mitigation that an entry puts filters at once, or its peer's signal is lost. The test says of a peer and its domain
-- whether the signal is (RFC 9132, section 4.4.1: `trigger-mitigation`).
abbrev pub works_by : (ℕ → ℕ → Bool) → Entry → Bool
works_by lost put = triggers put.change || lost put.peer put.domain

abbrev pub is_working : (ℕ → ℕ → Bool) → Mitigation → Bool
is_working lost m = works_by lost m.put

-- it filters only while the signal of this peer is lost
abbrev pub is_waiting_for : ℕ → Mitigation → Bool
is_waiting_for peer m = history.waits m.put.change && (m.put.peer == peer)

-- ---- rows of mitigations

-- the row of a prefix of a mitigation, active or not
abbrev pub scrub_row_with : Bool → Row → ScrubRow
scrub_row_with active row = record {
  domain = row.put.domain;
  cuid = row.put.cuid;
  mid = mid_of row.put.change;
  prefix = row.prefix;
  ports = row.target.ports;
  protocols = row.target.protocols;
  active = active;
}

-- an entry that puts this mitigation of a client
abbrev pub putting : ℕ → List ℕ → Put → Entry
putting domain cuid put =
    record { time = 0; peer = 0; domain = domain; cuid = cuid; key = key.Http; reply = []; change = change.Put put }

-- the rows of the mitigation that an entry puts, all active or all not
abbrev pub rows_with : Bool → Entry → List ScrubRow
rows_with active e = map (scrub_row_with active) (rows_of e)

-- the same as they are made for it: not active yet
abbrev pub rows_put : Entry → List ScrubRow
rows_put e = rows_with false e

-- the row is one of this mitigation of the domain
abbrev pub is_row_of : ℕ → Mitigation → ScrubRow → Bool
is_row_of domain m row = row_is_of domain m.put.cuid (mid_of m.put.change) row

-- but for the rows of the mitigation of this client and mid
abbrev pub scrubs_without_one : ℕ → List ℕ → ℕ → List ScrubRow → List ScrubRow
scrubs_without_one domain cuid mid rows = filter (λ row. not (row_is_of domain cuid mid row)) rows

-- but for the rows of those of the domain's mitigations that don't stay
abbrev pub scrubs_without : ℕ → (Mitigation → Bool) → List Mitigation → List ScrubRow → List ScrubRow
scrubs_without domain stays ms rows = filter (λ row. not (list_any (λ m. not (stays m) && is_row_of domain m row) ms)) rows

-- a row of one of the domain's mitigations that pass is active or not, as said; another is as it was
abbrev pub woken_row : ℕ → (Mitigation → Bool) → Bool → List Mitigation → ScrubRow → ScrubRow
woken_row domain passes active ms row = if list_any (λ m. passes m && is_row_of domain m row) ms then row_set active row else row

-- it is live at this time
abbrev pub lives_at : ℕ → Mitigation → Bool
lives_at now m = live now m.put m.status

-- the entry doesn't end it
abbrev pub stays_beside : Entry → Mitigation → Bool
stays_beside e m = not (ends m.put e)

-- ---- rows of access lists

abbrev pub acl_switched : Bool → AclRow → AclRow
acl_switched active row = record { domain = row.domain; cuid = row.cuid; acl = row.acl; active = active }

-- a row of this client whose list is active while the client mitigates is active or not, as said; another is as it was
abbrev pub activated_row : ℕ → List ℕ → Bool → AclRow → AclRow
activated_row domain cuid active row =
    if is_of_client domain cuid row.domain row.cuid && waits row.acl.activation then acl_switched active row else row

-- a mitigation of the client of this name is among those of the domain that pass
abbrev pub some_of : (Mitigation → Bool) → List ℕ → List Mitigation → Bool
some_of passes cuid ms = list_any (λ m. passes m && bytes_eq m.put.cuid cuid) ms

-- A row of a client that has one of these mitigations which changes: where its list is active while the client mitigates, it is so
-- where one of the client's, among all of the domain, passes. Any other row is as it was.
abbrev pub settled_row : ℕ → (Mitigation → Bool) → (Mitigation → Bool) → List Mitigation → List Mitigation → AclRow → AclRow
settled_row domain changes passes all ms row =
    if ((row.domain == domain) && some_of changes row.cuid ms) && waits row.acl.activation
    then acl_switched (some_of passes row.cuid all) row
    else row

-- but for the list of this client of this name
abbrev pub is_named_row : ℕ → List ℕ → List ℕ → AclRow → Bool
is_named_row domain cuid name row = is_of_client domain cuid row.domain row.cuid && bytes_eq row.acl.name name

abbrev pub acls_without : ℕ → List ℕ → List ℕ → List AclRow → List AclRow
acls_without domain cuid name rows = filter (λ row. not (is_named_row domain cuid name row)) rows

-- but for the lists of this client that have the name of one of these
abbrev pub acls_without_all : ℕ → List ℕ → List Acl → List AclRow → List AclRow
acls_without_all domain cuid acls rows = filter (λ row. not (list_any (λ acl. is_named_row domain cuid acl.name row) acls)) rows

-- whether a list is active, while its client mitigates or doesn't (RFC 8783, section 7.2: `activation-type`)
abbrev pub active_by : Bool → Activation → Bool
active_by mitigating Immediate = true
active_by mitigating WhenMitigating = mitigating
active_by mitigating Deactivate = false

-- the row of a list that an entry writes
abbrev pub acl_row_with : Bool → Entry → Acl → AclRow
acl_row_with active e acl = record { domain = e.domain; cuid = e.cuid; acl = acl; active = active }

abbrev pub acl_row_by : Bool → Entry → Acl → AclRow
acl_row_by mitigating e acl = acl_row_with (active_by mitigating acl.activation) e acl

-- ---- what each call makes of them

-- it isn't live at this time
abbrev pub is_over : ℕ → Mitigation → Bool
is_over now m = not (lives_at now m)

-- it is live at this time, and filters
abbrev pub works_at : (ℕ → ℕ → Bool) → ℕ → Mitigation → Bool
works_at lost now m = lives_at now m && is_working lost m

-- The mitigations of the domain that aren't live by now go. A client that had one of them mitigates where one that is left of it
-- filters.
abbrev pub filters_at : (ℕ → ℕ → Bool) → ℕ → ℕ → List Mitigation → FiltersValue → FiltersValue
filters_at lost domain now ms filters =
    with_rows
    filters
    (scrubs_without domain (lives_at now) ms filters.scrubs)
    (map (settled_row domain (is_over now) (works_at lost now) ms ms) filters.acls)

abbrev pub lives_at_once : Entry → Bool
lives_at_once e = live e.time e Open

-- the rows that an entry has installed: those of its mitigation, where it is live at once, active where it filters
abbrev pub own_rows : (ℕ → ℕ → Bool) → Entry → List ScrubRow
own_rows lost e = if lives_at_once e then rows_with (works_by lost e) e else []

-- the entry puts a mitigation that filters at the entry's time
abbrev pub works_at_once : (ℕ → ℕ → Bool) → Entry → Bool
works_at_once lost e = lives_at_once e && works_by lost e

-- the entry doesn't end it, and it filters
abbrev pub works_beside : (ℕ → ℕ → Bool) → Entry → Mitigation → Bool
works_beside lost e m = stays_beside e m && is_working lost m

-- Of the mitigations of its domain those go that the entry ends; its own rows come last, where it is live at once; and its
-- client mitigates where it filters, or another one of the client that stays.
abbrev pub filters_put : (ℕ → ℕ → Bool) → Entry → List Mitigation → FiltersValue → FiltersValue
filters_put lost e ms filters =
    with_rows
    filters
    (scrubs_without e.domain (stays_beside e) ms filters.scrubs ++ own_rows lost e)
    (map (activated_row e.domain e.cuid (works_at_once lost e || some_of (works_beside lost e) e.cuid ms)) filters.acls)

-- One more live mitigation: its rows come last, and are active where it filters; and then its client mitigates.
abbrev pub filters_more : (ℕ → ℕ → Bool) → Mitigation → FiltersValue → FiltersValue
filters_more lost m filters =
    with_rows
    filters
    (filters.scrubs ++ rows_with (is_working lost m) m.put)
    (if is_working lost m then map (activated_row m.put.domain m.put.cuid true) filters.acls else filters.acls)

-- The signal of a peer of the domain is lost or back, as the test says now. The rows of the domain's mitigations that wait for it
-- are active where it is lost, and a client that has one of these mitigates where one of its mitigations filters.
abbrev pub filters_lost : (ℕ → ℕ → Bool) → ℕ → ℕ → List Mitigation → FiltersValue → FiltersValue
filters_lost lost peer domain ms filters =
    with_rows
    filters
    (map (woken_row domain (is_waiting_for peer) (lost peer domain) ms) filters.scrubs)
    (map (settled_row domain (is_waiting_for peer) (is_working lost) ms ms) filters.acls)

-- What an entry makes of the rows of lists: those of its client that it takes away go, and that which it writes comes last.
-- `acls` are the lists that its client has.
abbrev pub acls_by : Bool → List Acl → Entry → Change → List AclRow → List AclRow
acls_by mitigating acls e (change.SetAcl acl) rows = acls_without e.domain e.cuid acl.name rows ++ acl_row_by mitigating e acl ∷ []
acls_by mitigating acls e (change.DropAcl name) rows = acls_without e.domain e.cuid name rows
acls_by mitigating acls e change.Deregister rows = acls_without_all e.domain e.cuid acls rows
acls_by mitigating acls e _ rows = rows

abbrev pub filters_written : Bool → List Acl → Entry → FiltersValue → FiltersValue
filters_written mitigating acls e filters =
    with_rows filters filters.scrubs (acls_by mitigating acls e e.change filters.acls)

-- ---- copies that an entry needs

-- a row for each prefix of a target, which isn't active yet
abbrev pub rows_of_target : Entry → Target → List ScrubRow
rows_of_target e target =
    map (λ (prefix : PrefixValue). scrub_row_with false (record { put = e; target = target; prefix = prefix })) target.prefixes

-- the row of the list that it writes, which isn't active yet
abbrev pub list_put : Entry → Option AclRow
list_put e = option_map (acl_row_with false e) (acl_of e.change)

-- they are the rows of the entry
pub record IsStaged (e : Entry) (scrubs : List ScrubRow) (list : Option AclRow) : Type 0 where
  pub scrubs_are : scrubs ≡ rows_put e
  pub list_is : list ≡ list_put e

-- it puts a mitigation or writes an access list
abbrev pub needs_rows : Change → Bool
needs_rows (change.Put put) = true
needs_rows (change.SetAcl acl) = true
needs_rows _ = false

-- ---- places

-- the rows of a filter table, in order of place
abbrev pub scrubs_in : TableValue → List ScrubRow
scrubs_in table = map (λ (scrub : PlacedScrub). scrub.row) table.scrubs

abbrev pub acls_in : TableValue → List AclRow
acls_in table = map (λ (list : PlacedAcl). list.row) table.acls

abbrev pub filters_of : TableValue → FiltersValue
filters_of table = record { scrub_room = table.scrub_room; acl_room = table.acl_room; scrubs = scrubs_in table; acls = acls_in table }

-- The place comes after all others, and there are no more rows than there may be.
pub record IsPlaced (next : ℕ) (table : TableValue) : Type 0 where
  pub scrubs : AllByRecursion (λ scrub. scrub.place < next) table.scrubs
  pub acls : AllByRecursion (λ list. list.place < next) table.acls
  pub scrub_room : table.scrub_room < 2 ^ 32
  pub acl_room : table.acl_room < 2 ^ 32
  pub few_scrubs : length table.scrubs ≤ table.scrub_room
  pub few_acls : length table.acls ≤ table.acl_room
