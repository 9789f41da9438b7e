-- The line that a send writes.
use Rattle.std.specs.Prelude.{ℕ, List, [], ◌∷◌, ◌++◌, codes, decimal}
use Rattle.hex.specs.Hex.{encode_lower}
use Rattle.dots_host.specs.declared.out.OwnedOut.{OwnedOut}
use Rattle.dots_host.specs.declared.out.OwnedOut.TheVariants as out

-- the words before the bytes
abbrev pub head_of : OwnedOut → List ℕ
head_of (out.To peer bytes) = codes "to " ++ (decimal peer ++ codes " ")
head_of (out.Conn conn bytes) = codes "conn " ++ (decimal conn ++ codes " ")
head_of (out.Close conn) = codes "close " ++ (decimal conn ++ [])

abbrev pub bytes_of : OwnedOut → List ℕ
bytes_of (out.To peer bytes) = bytes
bytes_of (out.Conn conn bytes) = bytes
bytes_of (out.Close conn) = []

-- `to PEER HEX`, `conn CONN HEX` or `close CONN`, the digits in lower case, and a line feed
abbrev pub line_of : OwnedOut → List ℕ
line_of out = head_of out ++ (encode_lower (bytes_of out) ++ 10 ∷ [])
