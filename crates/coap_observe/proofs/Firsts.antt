-- The first place of a peer, by its hash.
use Rattle.std.proofs.Common.{◌≡◌, ℕ, zero, suc, ◌+◌, ◌<◌, cond, List, [], ◌∷◌, length, map, drop, get_or, drop-cons, add-one, Option, Some, refl, sym, ap, ◌∙◌, inl, inr}
use Rattle.std.specs.Prelude.{◌==◌, position}
use Rattle.std.specs.List.{position_from}
use Rattle.std.proofs.lemmas.Bool.{cases_eq, eq-eqb, ne_eqb}
use Rattle.std.proofs.lemmas.Iterator.Adapters.{position_from-zero}
use Rattle.coap_exchange.specs.declared.pair.Pair.{Pair}
use Rattle.coap_observe.specs.Chains.{ChainValue, is_chain_of, chain_peer, peer_chain, peer_in, pair_peer}

pub eq_turned : (a b : ℕ) → (a == b) ≡ (b == a)
eq_turned a b =
    elim (cases_eq a b) [
      | inl same ↦ eq-eqb a b same ∙ sym (eq-eqb b a (sym same))
      | inr apart ↦ ne_eqb a b apart ∙ sym (ne_eqb b a (λ same. apart (sym same)))
    ]

chain_from : (peer n : ℕ) (cs : List ChainValue) → position_from (λ other. peer == other) n (map chain_peer cs) ≡ position_from (is_chain_of peer) n cs
chain_from peer n [] = refl
chain_from peer n (c ∷ cs) =
    ap (λ b. cond b (Some n) (position_from (λ other. peer == other) (n + 1) (map chain_peer cs))) (eq_turned peer c.peer)
    ∙ ap (λ o. cond (is_chain_of peer c) (Some n) o) (chain_from peer (n + 1) cs)

-- where a peer stands by the map its chain stands
pub chain_place : (peer : ℕ) (cs : List ChainValue) → position_from (λ other. peer == other) 0 (map chain_peer cs) ≡ position (is_chain_of peer) cs
chain_place peer cs = chain_from peer 0 cs ∙ sym (position_from-zero (is_chain_of peer) cs)

peer_at : (pairs : List Pair) (i : ℕ) (d : Pair) → pair_peer (get_or pairs i d) ≡ get_or (map pair_peer pairs) i (pair_peer d)
peer_at [] i d = refl
peer_at (pair ∷ pairs) zero d = refl
peer_at (pair ∷ pairs) (suc i) d = peer_at pairs i d

-- one more peer at the front of those that are entered
pub one_entered : (pairs : List Pair) (i : ℕ) (d : Pair) (before found : Option ℕ) (other : ℕ) → i < length (map pair_peer pairs)
    → before ≡ position_from (λ p. other == p) (i + 1) (drop (i + 1) (map pair_peer pairs))
    → found ≡ cond (pair_peer (get_or pairs i d) == other) (Some i) before → found ≡ position_from (λ p. other == p) i (drop i (map pair_peer pairs))
one_entered pairs i d before found other less rest is =
    let peers = map pair_peer pairs in
    let peer = get_or peers i (pair_peer d) in
    is
    ∙ ap (λ p. cond (p == other) (Some i) before) (peer_at pairs i d)
    ∙ ap (λ b. cond b (Some i) before) (eq_turned peer other)
    ∙ ap (λ o. cond (other == peer) (Some i) o) rest
    ∙ ap (λ k. cond (other == peer) (Some i) (position_from (λ p. other == p) (i + 1) (drop k peers))) (add-one i)
    ∙ sym (ap (position_from (λ p. other == p) i) (drop-cons peers i (pair_peer d) less))

-- the peers of pairs
pub peers_begin : (all : List Pair) (room : ℕ) (pairs : List Pair) → map peer_in (map (peer_chain all room) pairs) ≡ map pair_peer pairs
peers_begin all room [] = refl
peers_begin all room (pair ∷ pairs) = ap (λ ps. pair.peer ∷ ps) (peers_begin all room pairs)
