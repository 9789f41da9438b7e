-- The open connections of a server: a row for each client peer, in the order of the settings, with at most two lines in each.
use Rattle.std.specs.Prelude.{◌≡◌, ℕ, ◌<◌, Bool, ◌==◌, not, nat_lt, if◌then◌else◌, List, [], ◌∷◌, ◌++◌, length, map, filter, find, flat_map, Option, Some, None, option_map, Result, Ok, Err}
use Rattle.std.specs.List.{list_any}
use Rattle.dots_settings.specs.declared.peer.PeerRow.{PeerRow}
use Rattle.dots_settings.specs.declared.peer.Role.{Role}
use Rattle.dots_settings.specs.declared.peer.Role.TheVariants as role
use Rattle.dots_settings.specs.Settings.{SettingsValue}
use Rattle.dots_settings.specs.Lookups.{role_of}
use Rattle.stream_table.specs.declared.refused.Refused.{Refused}
use Rattle.stream_table.specs.declared.refused.Refused.TheVariants.{Stranger, Third}

-- an open connection by its number, and the bytes of it that came and aren't answered yet
pub record Line : Type 0 where
  pub conn : ℕ
  pub buffered : List ℕ

-- a client peer with its connections, in the order in which they were opened
pub record PeerLines : Type 0 where
  pub peer : ℕ
  pub lines : List Line

abbrev pub is_number : ℕ → Line → Bool
is_number conn line = line.conn == conn

abbrev pub is_of : ℕ → PeerLines → Bool
is_of peer row = row.peer == peer

-- all connections
abbrev pub lines_of : PeerLines → List Line
lines_of row = row.lines

abbrev pub all_lines : List PeerLines → List Line
all_lines rows = flat_map lines_of rows

-- the connection of this number
abbrev pub line_of : ℕ → List PeerLines → Option Line
line_of conn rows = find (is_number conn) (all_lines rows)

-- the peer of it: the one in whose row a connection of this number stands
abbrev pub has_number : ℕ → PeerLines → Bool
has_number conn row = list_any (is_number conn) row.lines

abbrev pub peer_in : PeerLines → ℕ
peer_in row = row.peer

abbrev pub peer_of : ℕ → List PeerLines → Option ℕ
peer_of conn rows = option_map peer_in (find (has_number conn) rows)

-- ---- at the start

-- a client has a row, and a gateway has none
abbrev pub no_lines_as : ℕ → Role → List PeerLines
no_lines_as peer (role.Client domain) = record { peer = peer; lines = [] } ∷ []
no_lines_as peer role.Gateway = []
no_lines_as peer role.Stranger = []

abbrev pub no_lines : PeerRow → List PeerLines
no_lines row = no_lines_as row.peer row.role

-- there is a row for each client, in the order of the settings, whatever stands in it
abbrev pub AreOf : List PeerRow → List PeerLines → Type 0
AreOf peers rows = map peer_in rows ≡ map peer_in (flat_map no_lines peers)

-- the peer is a client of this domain, which is one of the settings
pub record IsClientOf (settings : SettingsValue) (peer domain : ℕ) : Type 0 where
  pub role : role_of settings peer ≡ role.Client domain
  pub known : domain < length settings.domains

-- nothing is open
abbrev pub row_emptied : PeerLines → PeerLines
row_emptied row = record { peer = row.peer; lines = [] }

abbrev pub emptied : List PeerLines → List PeerLines
emptied rows = map row_emptied rows

-- ---- a connection that is closed: no row has its number any more

abbrev pub others : ℕ → List Line → List Line
others conn lines = filter (λ line. not (is_number conn line)) lines

abbrev pub row_forgotten : ℕ → PeerLines → PeerLines
row_forgotten conn row = record { peer = row.peer; lines = others conn row.lines }

abbrev pub forgotten : ℕ → List PeerLines → List PeerLines
forgotten conn rows = map (row_forgotten conn) rows

-- ---- a connection that is opened

-- fewer than two connections of the peer are open
abbrev pub has_room : PeerLines → Bool
has_room row = nat_lt (length row.lines) 2

abbrev pub row_opened : ℕ → PeerLines → PeerLines
row_opened conn row =
    if has_room row then record { peer = row.peer; lines = row.lines ++ record { conn = conn; buffered = [] } ∷ [] } else row

-- the row of this peer becomes another, and the others are as they were
abbrev pub with_row : ℕ → (PeerLines → PeerLines) → List PeerLines → List PeerLines
with_row peer becomes [] = []
with_row peer becomes (row ∷ rows) = if is_of peer row then becomes row ∷ rows else row ∷ with_row peer becomes rows

-- its number is forgotten in all rows before, and it is put behind the others of its peer where there is room
abbrev pub opened : ℕ → ℕ → List PeerLines → List PeerLines
opened peer conn rows = with_row peer (row_opened conn) (forgotten conn rows)

-- whether it is taken: the peer has a row in which there is room
abbrev pub taken_in : Option PeerLines → Result Unit Refused
taken_in None = Err Stranger
taken_in (Some row) = if has_room row then Ok tt else Err Third

abbrev pub opening : ℕ → ℕ → List PeerLines → Result Unit Refused
opening peer conn rows = taken_in (find (is_of peer) (forgotten conn rows))

-- ---- bytes that come or are answered

abbrev pub line_buffering : ℕ → (List ℕ → List ℕ) → Line → Line
line_buffering conn becomes line = if is_number conn line then record { conn = line.conn; buffered = becomes line.buffered } else line

abbrev pub row_buffering : ℕ → (List ℕ → List ℕ) → PeerLines → PeerLines
row_buffering conn becomes row = record { peer = row.peer; lines = map (line_buffering conn becomes) row.lines }

-- what is buffered of the connection of this number becomes other bytes, and all else is as it was
abbrev pub buffering : ℕ → (List ℕ → List ℕ) → List PeerLines → List PeerLines
buffering conn becomes rows = map (row_buffering conn becomes) rows
