-- What is to be mended in a line of a script: the first field that isn't what it has to be, and why.
use Rattle.std.specs.Prelude.{ℕ, Bool, ◌%◌, ◌==◌, ◌&&◌, nat_le, is_some, if◌then◌else◌, List, [], ◌∷◌, length, codes, bytes_eq, Option, Some, None, unwrap_or}
use Rattle.std.specs.Char.{is_ascii_hexdigit}
use Rattle.std.specs.List.{list_all}
use Rattle.dots_lists.specs.Numbers.{number_in}
use Rattle.dots_settings.specs.Lines.{fields_of}
use Rattle.dots_script.specs.declared.remark.Remark.{Remark}
use Rattle.dots_settings.specs.declared.mistake.Mistake.TheVariants as mistake
use Rattle.dots_script.specs.declared.reason.Reason.{Reason}
use Rattle.dots_script.specs.declared.reason.Reason.TheVariants as reason
use Rattle.dots_script.specs.Remarks.{of_field, of_line}

-- this about the field of this place where the test fails, and else what is said of the later fields
abbrev pub unless : Bool → Reason → ℕ → Option Remark → Option Remark
unless holds reason field later = if holds then later else Some (of_field reason field)

-- a number below 2^32, without leading zeros
abbrev pub is_small : List ℕ → Bool
is_small text = is_some (number_in 0 4294967295 text)

-- 1 to 4,096 bytes in hexadecimal
abbrev pub are_bytes : List ℕ → Bool
are_bytes text = nat_le 2 (length text) && nat_le (length text) 8192 && length text % 2 == 0 && list_all is_ascii_hexdigit text

-- the fields behind `from`: a peer, and bytes
abbrev pub datagram_remark : List (List ℕ) → Option Remark
datagram_remark (peer ∷ digits ∷ []) = unless (is_small peer) (reason.Mistake mistake.Peer) 3 (unless (are_bytes digits) reason.Datagram 4 None)
datagram_remark _ = Some (of_line reason.DatagramFields)

-- the fields behind `open`: a connection, and a peer
abbrev pub opening_remark : List (List ℕ) → Option Remark
opening_remark (conn ∷ peer ∷ []) = unless (is_small conn) reason.Connection 3 (unless (is_small peer) (reason.Mistake mistake.Peer) 4 None)
opening_remark _ = Some (of_line reason.OpeningFields)

-- the fields behind `piece`: a connection, and bytes
abbrev pub piece_remark : List (List ℕ) → Option Remark
piece_remark (conn ∷ digits ∷ []) = unless (is_small conn) reason.Connection 3 (unless (are_bytes digits) reason.Piece 4 None)
piece_remark _ = Some (of_line reason.PieceFields)

-- the fields behind `close`: a connection
abbrev pub closing_remark : List (List ℕ) → Option Remark
closing_remark (conn ∷ []) = unless (is_small conn) reason.Connection 3 None
closing_remark _ = Some (of_line reason.ClosingFields)

-- the fields behind `tick`: none
abbrev pub tick_remark : List (List ℕ) → Option Remark
tick_remark [] = None
tick_remark _ = Some (of_line reason.TickFields)

-- the fields behind `restart`: none
abbrev pub restart_remark : List (List ℕ) → Option Remark
restart_remark [] = None
restart_remark _ = Some (of_line reason.RestartFields)

-- an event, by its first word and the fields behind it
unfoldable pub remark_by_word : List ℕ → List (List ℕ) → Option Remark
remark_by_word word fields =
    if bytes_eq word (codes "from") then datagram_remark fields
    else if bytes_eq word (codes "open") then opening_remark fields
    else if bytes_eq word (codes "piece") then piece_remark fields
    else if bytes_eq word (codes "close") then closing_remark fields
    else if bytes_eq word (codes "tick") then tick_remark fields
    else if bytes_eq word (codes "restart") then restart_remark fields
    else Some (of_field reason.EventWord 2)

-- `at SECONDS`, and an event
abbrev pub event_remark : List (List ℕ) → Option Remark
event_remark (at ∷ seconds ∷ word ∷ rest) =
    unless (bytes_eq at (codes "at")) reason.At 0
    (unless (is_some (number_in 0 281474976710655 seconds)) reason.Seconds 1 (remark_by_word word rest))
event_remark _ = Some (of_line reason.EventFields)

-- the remark of a line, which ends with a line feed or doesn't
abbrev pub script_remark : Bool → List ℕ → Remark
script_remark ended line =
    if nat_le (length line) 8400 then if ended then unwrap_or (event_remark (fields_of line)) (of_line reason.Form) else of_line reason.Unended
    else of_line reason.LineTooLong
