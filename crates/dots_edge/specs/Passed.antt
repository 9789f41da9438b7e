-- What passed between a server and a peer, and what is known of the peer by it.
use Rattle.std.specs.Prelude.{◌≡◌, ◌<◌, ℕ, true, ◌&&◌, if◌then◌else◌, List, [], ◌∷◌, ◌++◌, length, bytes_eq, Option, Some, None}
use Rattle.dots_edge.specs.declared.head.Head.{Head}
use Rattle.dots_edge.specs.declared.way.Way.{Way}
use Rattle.dots_edge.specs.Headers.{is_get}
use Rattle.dots_edge.specs.Returns.{Reached, after_received, after_sent}

-- a datagram with this header, where it has one, came from there, or went to the peer
pub data Passed : Type 0 where
  came : Way → Option Head → Passed
  went : Option Head → Passed

-- what is known after all that passed, the newest first, where this was known before
abbrev pub reached : Option Way → List Passed → Reached
reached known [] = record { last = known; asked = None; getters = [] }
reached known (came way head ∷ earlier) = after_received way head (reached known earlier)
reached known (went head ∷ earlier) = after_sent head (reached known earlier)

-- where the last datagram came from
abbrev pub last_way : Option Way → List Passed → Option Way
last_way known [] = known
last_way known (came way head ∷ earlier) = Some way
last_way known (went head ∷ earlier) = last_way known earlier

-- where the last GET with the token came from
abbrev pub last_get : List ℕ → List Passed → Option Way
last_get token [] = None
last_get token (came way (Some head) ∷ earlier) = if is_get head && bytes_eq head.token token then Some way else last_get token earlier
last_get token (came way None ∷ earlier) = last_get token earlier
last_get token (went head ∷ earlier) = last_get token earlier

-- A GET came from there, then none with its token, and fewer than 136 datagrams passed since.
pub record IsRecent (get : Head) (way : Way) (newer : List Passed) : Type 0 where
  pub is : is_get get ≡ true
  pub none : last_get get.token newer ≡ None
  pub few : length newer < 136
