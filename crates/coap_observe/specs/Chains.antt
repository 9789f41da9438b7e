-- The keys of each peer's observers.
use Rattle.std.specs.Prelude.{◌≡◌, ℕ, suc, ◌*◌, Bool, true, ◌==◌, List, [], ◌∷◌, ◌++◌, drop, option_map, unwrap_or, slice_index_or}
use Rattle.std.specs.List.{find, position_from}
use Rattle.std.specs.Map.{lookup}
use Rattle.dots_history.specs.Histories.{tally}
use Rattle.coap_exchange.specs.declared.pair.Pair.{Pair}
use Rattle.coap_exchange.specs.Firsts.{replace_first}
use Rattle.coap_observe.specs.Links.{Each, Apart, Distinct}
use Rattle.coap_observe.specs.Orders.{without}
use Rattle.coap_observe.specs.Rings.{RingValue}
use Rattle.coap_observe.specs.declared.chains.Chain.{Chain}
use Rattle.coap_observe.specs.Rolls.{Member, keys_of, has_key, own_keys}

-- the keys of a peer's observers, in the order of registration, how many there may be, and the number from which one comes to the first
pub record ChainValue : Type 0 where
  pub peer : ℕ
  pub room : ℕ
  pub start : ℕ
  pub keys : List ℕ

-- the chains of all peers, and the number below which keys are
pub record ChainsValue : Type 0 where
  pub limit : ℕ
  pub chains : List ChainValue

abbrev pub no_chain : ChainValue
no_chain = record { peer = 0; room = 0; start = 0; keys = [] }

abbrev pub chain_at : ℕ → List ChainValue → ChainValue
chain_at place chains = slice_index_or chains place no_chain

abbrev pub is_chain_of : ℕ → ChainValue → Bool
is_chain_of peer chain = chain.peer == peer

abbrev pub keys_in : ℕ → List ChainValue → List ℕ
keys_in peer chains = unwrap_or (option_map (λ (chain : ChainValue). chain.keys) (find (is_chain_of peer) chains)) []

abbrev pub room_in : ℕ → List ChainValue → ℕ
room_in peer chains = unwrap_or (option_map (λ (chain : ChainValue). chain.room) (find (is_chain_of peer) chains)) 0

-- how many observers a peer may have: so many with each of its domains
abbrev pub is_pair_of : ℕ → Pair → Bool
is_pair_of peer pair = pair.peer == peer

abbrev pub room_for : List Pair → ℕ → ℕ → ℕ
room_for pairs room peer = tally (is_pair_of peer) pairs * room

abbrev pub peer_chain : List Pair → ℕ → Pair → Chain
peer_chain pairs room pair = record { peer = pair.peer; room = room_for pairs room pair.peer }

-- a chain for the peer of each pair, without keys; they begin at the numbers from this one on
abbrev pub empty_chains : List Pair → ℕ → ℕ → List Pair → List ChainValue
empty_chains all room start [] = []
empty_chains all room start (pair ∷ pairs) =
    (record { peer = pair.peer; room = room_for all room pair.peer; start = start; keys = [] }) ∷ empty_chains all room (suc start) pairs

-- one more key is the last
abbrev pub chained : ℕ → ChainValue → ChainValue
chained key chain = record { peer = chain.peer; room = chain.room; start = chain.start; keys = chain.keys ++ key ∷ [] }

abbrev pub one_chained : ℕ → ℕ → List ChainValue → List ChainValue
one_chained peer key chains = replace_first (is_chain_of peer) (λ chain. chained key chain ∷ []) chains

-- a key goes
abbrev pub chain_left : ℕ → ChainValue → ChainValue
chain_left key chain = record { peer = chain.peer; room = chain.room; start = chain.start; keys = without key chain.keys }

abbrev pub one_left : ℕ → ℕ → List ChainValue → List ChainValue
one_left peer key chains = replace_first (is_chain_of peer) (λ chain. chain_left key chain ∷ []) chains

-- the key is in no chain
abbrev pub IsNowhere : ℕ → List ChainValue → Type 0
IsNowhere key [] = Unit {0}
IsNowhere key (chain ∷ chains) = Apart key chain.keys × IsNowhere key chains

-- each peer with its keys, which stand in an order
abbrev pub chain_of : Chain → RingValue → ChainValue
chain_of chain ring = record { peer = chain.peer; room = chain.room; start = ring.start; keys = ring.slots }

abbrev pub chains_of : List Chain → List RingValue → List ChainValue
chains_of [] rings = []
chains_of (chain ∷ chains) [] = []
chains_of (chain ∷ chains) (ring ∷ rings) = chain_of chain ring ∷ chains_of chains rings

-- ---- what always holds

-- all keys are those of observers
abbrev pub AreWithin : List Member → List ChainValue → Type 0
AreWithin members [] = Unit {0}
AreWithin members (chain ∷ chains) = Each (λ key. has_key key members ≡ true) chain.keys × AreWithin members chains

-- no key is there twice, and each chain has the keys of its peer's observers
pub record AreChained (chains : List ChainValue) (members : List Member) : Type 0 where
  pub apart : Distinct (keys_of members)
  pub own : (peer : ℕ) → keys_in peer chains ≡ own_keys peer members
  pub within : AreWithin members chains

abbrev pub HaveRoom : List Pair → ℕ → List ChainValue → Type 0
HaveRoom pairs room chains = (peer : ℕ) → room_in peer chains ≡ room_for pairs room peer

pub record SameRoom (old new : ChainsValue) : Type 0 where
  pub limit : new.limit ≡ old.limit
  pub room : (peer : ℕ) → room_in peer new.chains ≡ room_in peer old.chains

-- ---- where the chain of a peer stands

abbrev pub chain_peer : ChainValue → ℕ
chain_peer chain = chain.peer

abbrev pub peer_in : Chain → ℕ
peer_in chain = chain.peer

abbrev pub pair_peer : Pair → ℕ
pair_peer pair = pair.peer

-- a map has the first place of each peer in the list from a place on
abbrev pub AreFirsts : ℕ → List (ℕ × ℕ) → List ℕ → Type 0
AreFirsts place entries peers = (peer : ℕ) → lookup (λ other. peer == other) entries ≡ position_from (λ other. peer == other) place (drop place peers)
