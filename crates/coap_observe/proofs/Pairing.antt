-- Peers with the orders of their keys.
use Rattle.std.proofs.Common.{◌≡◌, ℕ, zero, suc, ◌<◌, List, [], ◌∷◌, length, map, get_or, refl, ap, arith}
use Rattle.coap_exchange.specs.declared.pair.Pair.{Pair}
use Rattle.coap_exchange.specs.Firsts.{replace_at}
use Rattle.coap_observe.specs.Rings.{RingValue, ring_at, begun, with_ring, one_more, one_less, IsOutside}
use Rattle.coap_observe.specs.declared.chains.Chain.{Chain}
use Rattle.coap_observe.specs.Chains.{chain_at, empty_chains, peer_chain, room_for, chained, chain_left, IsNowhere, chains_of, chain_peer, peer_in}

pub length_chains : (cs : List Chain) (rs : List RingValue) → length cs ≡ length rs → length (chains_of cs rs) ≡ length rs
length_chains [] [] same = refl
length_chains [] (r ∷ rs) same = absurd (omega (arith, same))
length_chains (c ∷ cs) [] same = refl
length_chains (c ∷ cs) (r ∷ rs) same = let rest = length_chains cs rs (omega (arith, same)) in omega (arith, rest)

pub peers_are : (cs : List Chain) (rs : List RingValue) → length cs ≡ length rs → map peer_in cs ≡ map chain_peer (chains_of cs rs)
peers_are [] rs same = refl
peers_are (c ∷ cs) [] same = absurd (omega (arith, same))
peers_are (c ∷ cs) (r ∷ rs) same = ap (λ ps. c.peer ∷ ps) (peers_are cs rs (omega (arith, same)))

pub ring_placed : (place : ℕ) (cs : List Chain) (rs : List RingValue) → length cs ≡ length rs
    → ring_at place rs ≡ (record { start = (chain_at place (chains_of cs rs)).start; slots = (chain_at place (chains_of cs rs)).keys })
ring_placed place [] [] same = refl
ring_placed place [] (r ∷ rs) same = absurd (omega (arith, same))
ring_placed place (c ∷ cs) [] same = absurd (omega (arith, same))
ring_placed zero (c ∷ cs) (r ∷ rs) same = refl
ring_placed (suc place) (c ∷ cs) (r ∷ rs) same = ring_placed place cs rs (omega (arith, same))

pub room_placed_at : (place : ℕ) (cs : List Chain) (rs : List RingValue) (d : Chain) → place < length cs → length cs ≡ length rs → (chain_at place (chains_of cs rs)).room ≡ (get_or cs place d).room
room_placed_at place [] rs d less same = absurd (omega (arith, less))
room_placed_at place (c ∷ cs) [] d less same = absurd (omega (arith, same))
room_placed_at zero (c ∷ cs) (r ∷ rs) d less same = refl
room_placed_at (suc place) (c ∷ cs) (r ∷ rs) d less same = room_placed_at place cs rs d (omega (arith, less)) (omega (arith, same))

pub length_rings : (becomes : RingValue → RingValue) (place : ℕ) (rs : List RingValue) → length (with_ring place becomes rs) ≡ length rs
length_rings becomes place [] = refl
length_rings becomes zero (r ∷ rs) = refl
length_rings becomes (suc place) (r ∷ rs) = let rest = length_rings becomes place rs in omega (arith, rest)

pub more_placed : (key place : ℕ) (cs : List Chain) (rs : List RingValue) → chains_of cs (with_ring place (one_more key) rs) ≡ replace_at place (λ c. chained key c ∷ []) (chains_of cs rs)
more_placed key place [] rs = refl
more_placed key place (c ∷ cs) [] = refl
more_placed key zero (c ∷ cs) (r ∷ rs) = refl
more_placed key (suc place) (c ∷ cs) (r ∷ rs) = ap (λ xs. (record { peer = c.peer; room = c.room; start = r.start; keys = r.slots }) ∷ xs) (more_placed key place cs rs)

pub less_placed : (key place : ℕ) (cs : List Chain) (rs : List RingValue) → chains_of cs (with_ring place (one_less key) rs) ≡ replace_at place (λ c. chain_left key c ∷ []) (chains_of cs rs)
less_placed key place [] rs = refl
less_placed key place (c ∷ cs) [] = refl
less_placed key zero (c ∷ cs) (r ∷ rs) = refl
less_placed key (suc place) (c ∷ cs) (r ∷ rs) = ap (λ xs. (record { peer = c.peer; room = c.room; start = r.start; keys = r.slots }) ∷ xs) (less_placed key place cs rs)

pub outside_all : (key : ℕ) (cs : List Chain) (rs : List RingValue) → length cs ≡ length rs → IsNowhere key (chains_of cs rs) → IsOutside key rs
outside_all key [] [] same nowhere = record {}
outside_all key [] (r ∷ rs) same nowhere = absurd (omega (arith, same))
outside_all key (c ∷ cs) [] same nowhere = record {}
outside_all key (c ∷ cs) (r ∷ rs) same nowhere = (nowhere.0, outside_all key cs rs (omega (arith, same)) nowhere.1)

pub nowhere_all : (key : ℕ) (cs : List Chain) (rs : List RingValue) → IsOutside key rs → IsNowhere key (chains_of cs rs)
nowhere_all key [] rs outside = record {}
nowhere_all key (c ∷ cs) [] outside = record {}
nowhere_all key (c ∷ cs) (r ∷ rs) outside = (outside.0, nowhere_all key cs rs outside.1)

pub length_begun : (start count : ℕ) → length (begun start count) ≡ count
length_begun start zero = refl
length_begun start (suc count) = let rest = length_begun (suc start) count in omega (arith, rest)

pub chains_begin : (all : List Pair) (room start : ℕ) (pairs : List Pair) → chains_of (map (peer_chain all room) pairs) (begun start (length pairs)) ≡ empty_chains all room start pairs
chains_begin all room start [] = refl
chains_begin all room start (pair ∷ pairs) =
    ap (λ xs. (record { peer = pair.peer; room = room_for all room pair.peer; start = start; keys = [] }) ∷ xs) (chains_begin all room (suc start) pairs)
