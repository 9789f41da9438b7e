-- Where a datagram to a peer goes.
use Rattle.std.specs.Prelude.{ℕ, Bool, false, not, ◌||◌, if◌then◌else◌, List, ◌∷◌, take, find, bytes_eq, Option, Some, None, option_map}
use Rattle.std.specs.Set.{remove_key}
use Rattle.dots_edge.specs.declared.head.Head.{Head}
use Rattle.dots_edge.specs.declared.getter.Getter.{Getter}
use Rattle.dots_edge.specs.declared.way.Way.{Way}
use Rattle.dots_edge.specs.Headers.{is_get, is_response, is_reply_to}

-- Of a peer: where its last datagram came from; the header of its last datagram, while that has no reply; and where its GETs came from, one place for each
-- token, that which was used last in front.
pub record Reached : Type 0 where
  pub last : Option Way
  pub asked : Option Head
  pub getters : List Getter

abbrev pub has_token : List ℕ → Getter → Bool
has_token token getter = bytes_eq getter.token token

-- where the GETs with the token come from
abbrev pub way_of : List ℕ → List Getter → Option Way
way_of token getters = option_map (λ getter. getter.way) (find (has_token token) getters)

-- what was asked is answered by a datagram with the header
abbrev pub is_answered : Option Head → Head → Bool
is_answered None head = false
is_answered (Some asked) head = is_reply_to asked head

abbrev pub or_last : Option Way → Option Way → Option Way
or_last (Some way) last = Some way
or_last None last = last

-- A reply goes back to where the last datagram of the peer came from, since what it replies to came from there. Another response is a notification, which goes to
-- where the last GET with its token came from (RFC 7641, section 4.2). All else goes to where the last datagram of the peer came from.
abbrev pub goes_to : Option Head → Reached → Option Way
goes_to None reached = reached.last
goes_to (Some head) reached =
    if is_answered reached.asked head || not (is_response head) then reached.last
    else or_last (way_of head.token reached.getters) reached.last

-- a getter in front of those with other tokens; of more than 136 that which was used longest ago is let go
abbrev pub with_getter : Getter → List Getter → List Getter
with_getter getter getters = take 136 (getter ∷ remove_key (has_token getter.token) getters)

abbrev pub getters_after : Way → Option Head → List Getter → List Getter
getters_after way None getters = getters
getters_after way (Some head) getters = if is_get head then with_getter (record { token = head.token; way = way }) getters else getters

-- a datagram with this header came
abbrev pub after_received : Way → Option Head → Reached → Reached
after_received way head reached = record { last = Some way; asked = head; getters = getters_after way head reached.getters }

-- what was found in front of the others
abbrev pub found_first : List ℕ → List Getter → Option Getter → List Getter
found_first token getters None = getters
found_first token getters (Some getter) = getter ∷ remove_key (has_token token) getters

-- that with the token in front, where there is one
abbrev pub renewed : List ℕ → List Getter → List Getter
renewed token getters = found_first token getters (find (has_token token) getters)

-- a datagram with this header went
abbrev pub after_sent : Option Head → Reached → Reached
after_sent None reached = reached
after_sent (Some head) reached =
    if is_answered reached.asked head then record reached { asked = None }
    else if is_response head then record reached { getters = renewed head.token reached.getters }
    else reached
