-- Where a connection stands.
use Rattle.std.specs.Prelude.{◌≡◌, ℕ, zero, suc, ◌≤◌, List, [], ◌∷◌, ◌++◌, count_by, slice_get, Option, Some, option_map, option_and_then}
use Rattle.stream_table.specs.declared.seat.Seat.{Seat}
use Rattle.stream_table.specs.declared.seat.Seat.TheVariants.{Older, Newer}
use Rattle.stream_table.specs.declared.place.LinePlace.{LinePlace}
use Rattle.stream_table.specs.Lines.{Line, PeerLines, is_number, all_lines, line_of, buffering}
use Rattle.stream_table.specs.Numbers.{line_in}

abbrev pub line_of_row : Seat → PeerLines → Option Line
line_of_row seat row = line_in seat row.lines

abbrev pub line_at : LinePlace → List PeerLines → Option Line
line_at place rows = option_and_then (line_of_row place.seat) (slice_get rows place.row)

abbrev pub conn_of : Line → ℕ
conn_of line = line.conn

-- the number of the connection that stands at a place
abbrev pub conn_at : LinePlace → List PeerLines → Option ℕ
conn_at place rows = option_map conn_of (line_at place rows)

-- no number stands at two places
abbrev pub AreApart : List PeerLines → Type 0
AreApart rows = (conn : ℕ) → count_by (is_number conn) (all_lines rows) ≤ 1

-- other bytes are buffered
abbrev pub buffered_by : (List ℕ → List ℕ) → Line → Line
buffered_by becomes line = record { conn = line.conn; buffered = becomes line.buffered }

-- the connection of this number stands at this place, and it is the only one of the number
pub record IsAt (conn : ℕ) (place : LinePlace) (rows : List PeerLines) : Type 0 where
  pub line : Line
  pub own : line.conn ≡ conn
  pub there : line_at place rows ≡ Some line
  pub found : line_of conn rows ≡ Some line

-- of the connection that stood at this place other bytes are buffered then, and all else is as it was
pub record NowBuffers (place : LinePlace) (becomes : List ℕ → List ℕ) (old new : List PeerLines) (line : Line) : Type 0 where
  pub there : line_at place new ≡ Some (buffered_by becomes line)
  pub found : line_of line.conn new ≡ Some (buffered_by becomes line)
  pub all : new ≡ buffering line.conn becomes old

-- bytes come behind those that are buffered
abbrev pub with_more : List ℕ → List ℕ → List ℕ
with_more bytes buffered = buffered ++ bytes

-- ---- at a place, in the forms of the code

-- the line at a place becomes another
abbrev pub with_line : Seat → (Line → Line) → List Line → List Line
with_line seat becomes [] = []
with_line Older becomes (line ∷ lines) = becomes line ∷ lines
with_line Newer becomes (line ∷ []) = line ∷ []
with_line Newer becomes (line ∷ next ∷ lines) = line ∷ becomes next ∷ lines

abbrev pub row_with : Seat → (List ℕ → List ℕ) → PeerLines → PeerLines
row_with seat becomes row = record { peer = row.peer; lines = with_line seat (buffered_by becomes) row.lines }

-- the row at a place becomes another, and the others are as they were
abbrev pub with_place : ℕ → (PeerLines → PeerLines) → List PeerLines → List PeerLines
with_place place becomes [] = []
with_place zero becomes (row ∷ rows) = becomes row ∷ rows
with_place (suc place) becomes (row ∷ rows) = row ∷ with_place place becomes rows
