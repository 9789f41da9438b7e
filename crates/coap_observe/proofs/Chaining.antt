-- The keys of each peer, and the observers that they are of.
use Rattle.std.proofs.Common.{◌≡◌, ◌≢◌, ℕ, zero, suc, ◌+◌, ◌*◌, ◌<◌, Bool, true, false, cond, List, [], ◌∷◌, ◌++◌, length, filter, Some, None, refl, sym, ap, subst, ◌∙◌, inl, inr, arith}
use Rattle.std.specs.Prelude.{not, ◌||◌, ◌==◌, option_map, slice_get, position, unwrap_or}
use Rattle.std.specs.List.{find, list_any}
use Rattle.std.proofs.lemmas.Bool.{cases_Bool, eqb-true, eq-eqb, ne_eqb, cond-true, cond-false, false≢true}
use Rattle.std.proofs.lemmas.List.Quantifiers.{position-Some}
use Rattle.dots_history.specs.Histories.{tally}
use Rattle.coap_exchange.specs.declared.pair.Pair.{Pair}
use Rattle.coap_exchange.specs.Firsts.{replace_at}
use Rattle.coap_exchange.proofs.Firsts.{first_found, first_replaced, none_passes, found_none, replaced_none, one_there}
use Rattle.coap_observe.specs.Links.{Each, Apart, Distinct}
use Rattle.coap_observe.specs.Orders.{has_slot, without}
use Rattle.coap_observe.proofs.Linking.{each_both, each_two, each_weaker}
use Rattle.coap_observe.proofs.Ringing.{distinct_last}
use Rattle.coap_observe.specs.Chains.{ChainValue, ChainsValue, no_chain, chain_at, is_chain_of, keys_in, room_in, is_pair_of, room_for, empty_chains, chained, one_chained, chain_left, one_left, IsNowhere, AreWithin, AreChained, HaveRoom, SameRoom}
use Rattle.coap_observe.specs.Observed.{ObservedValue}
use Rattle.coap_observe.specs.Rolls.{Member, one_of, is_key, keys_of, observed_of, has_key, one_at, without_key, with_key, peer_of, is_member_of, own_keys}
use Rattle.coap_observe.proofs.Keying.{keys_last, keys_less, keys_with, own_last, own_less, own_other, own_with}
use Rattle.coap_observe.proofs.Rolling.{distinct_without}

-- ---- the chain of a peer

in_first : (peer : ℕ) (c : ChainValue) (cs : List ChainValue) → is_chain_of peer c ≡ true → keys_in peer (c ∷ cs) ≡ c.keys
in_first peer c cs is = ap (λ o. unwrap_or (option_map (λ (y : ChainValue). y.keys) o) []) (cond-true (is_chain_of peer c) (Some c) (find (is_chain_of peer) cs) is)

in_rest : (peer : ℕ) (c : ChainValue) (cs : List ChainValue) → is_chain_of peer c ≡ false → keys_in peer (c ∷ cs) ≡ keys_in peer cs
in_rest peer c cs out = ap (λ o. unwrap_or (option_map (λ (y : ChainValue). y.keys) o) []) (cond-false (is_chain_of peer c) (Some c) (find (is_chain_of peer) cs) out)

room_rest : (peer : ℕ) (c : ChainValue) (cs : List ChainValue) → is_chain_of peer c ≡ false → room_in peer (c ∷ cs) ≡ room_in peer cs
room_rest peer c cs out = ap (λ o. unwrap_or (option_map (λ (y : ChainValue). y.room) o) 0) (cond-false (is_chain_of peer c) (Some c) (find (is_chain_of peer) cs) out)

own_chained : (peer key : ℕ) (cs : List ChainValue) → 0 < room_in peer cs → keys_in peer (one_chained peer key cs) ≡ keys_in peer cs ++ key ∷ []
own_chained peer key [] some = absurd (omega (arith, some))
own_chained peer key (c ∷ cs) some =
    elim (cases_Bool (is_chain_of peer c)) [
      | inl is ↦
          ap (keys_in peer) (cond-true (is_chain_of peer c) (chained key c ∷ cs) (c ∷ one_chained peer key cs) is)
          ∙ in_first peer (chained key c) cs is
          ∙ ap (λ ps. ps ++ key ∷ []) (sym (in_first peer c cs is))
      | inr out ↦
          ap (keys_in peer) (cond-false (is_chain_of peer c) (chained key c ∷ cs) (c ∷ one_chained peer key cs) out)
          ∙ in_rest peer c (one_chained peer key cs) out
          ∙ own_chained peer key cs (subst (λ n. 0 < n) (room_rest peer c cs out) some)
          ∙ ap (λ ps. ps ++ key ∷ []) (sym (in_rest peer c cs out))
    ]

same_rest : (q : ℕ) (c : ChainValue) (cs ds : List ChainValue) → keys_in q cs ≡ keys_in q ds → keys_in q (c ∷ cs) ≡ keys_in q (c ∷ ds)
same_rest q c cs ds same =
    elim (cases_Bool (is_chain_of q c)) [
      | inl is ↦ in_first q c cs is ∙ sym (in_first q c ds is)
      | inr out ↦ in_rest q c cs out ∙ same ∙ sym (in_rest q c ds out)
    ]

other_chained : (q peer key : ℕ) (cs : List ChainValue) → q ≢ peer → keys_in q (one_chained peer key cs) ≡ keys_in q cs
other_chained q peer key [] apart = refl
other_chained q peer key (c ∷ cs) apart =
    elim (cases_Bool (is_chain_of peer c)) [
      | inl is ↦
          let own : c.peer ≡ peer = eqb-true c.peer peer is in
          let out : is_chain_of q c ≡ false = ne_eqb c.peer q (λ same. apart (sym same ∙ own)) in
          ap (keys_in q) (cond-true (is_chain_of peer c) (chained key c ∷ cs) (c ∷ one_chained peer key cs) is)
          ∙ in_rest q (chained key c) cs out
          ∙ sym (in_rest q c cs out)
      | inr out ↦
          ap (keys_in q) (cond-false (is_chain_of peer c) (chained key c ∷ cs) (c ∷ one_chained peer key cs) out)
          ∙ same_rest q c (one_chained peer key cs) cs (other_chained q peer key cs apart)
    ]

room_either : (q : ℕ) (c d : ChainValue) (cs ds : List ChainValue) → c.peer ≡ d.peer → c.room ≡ d.room → room_in q cs ≡ room_in q ds → room_in q (c ∷ cs) ≡ room_in q (d ∷ ds)
room_either q c d cs ds peer room same =
    ap (λ p. unwrap_or (option_map (λ (y : ChainValue). y.room) (cond (p == q) (Some c) (find (is_chain_of q) cs))) 0) peer
    ∙ by_test (d.peer == q)
  where
    by_test : (b : Bool) → unwrap_or (option_map (λ (y : ChainValue). y.room) (cond b (Some c) (find (is_chain_of q) cs))) 0
        ≡ unwrap_or (option_map (λ (y : ChainValue). y.room) (cond b (Some d) (find (is_chain_of q) ds))) 0
    by_test true = room
    by_test false = same

pub room_chained : (peer key : ℕ) (cs : List ChainValue) (q : ℕ) → room_in q (one_chained peer key cs) ≡ room_in q cs
room_chained peer key [] q = refl
room_chained peer key (c ∷ cs) q = by_test (is_chain_of peer c) (room_chained peer key cs q)
  where
    by_test : (b : Bool) → room_in q (one_chained peer key cs) ≡ room_in q cs
        → room_in q (cond b (chained key c ∷ cs) (c ∷ one_chained peer key cs)) ≡ room_in q (c ∷ cs)
    by_test true rest = room_either q (chained key c) c cs cs refl refl refl
    by_test false rest = room_either q c c (one_chained peer key cs) cs refl refl rest

pub room_left : (peer key : ℕ) (cs : List ChainValue) (q : ℕ) → room_in q (one_left peer key cs) ≡ room_in q cs
room_left peer key [] q = refl
room_left peer key (c ∷ cs) q = by_test (is_chain_of peer c) (room_left peer key cs q)
  where
    by_test : (b : Bool) → room_in q (one_left peer key cs) ≡ room_in q cs
        → room_in q (cond b (chain_left key c ∷ cs) (c ∷ one_left peer key cs)) ≡ room_in q (c ∷ cs)
    by_test true rest = room_either q (chain_left key c) c cs cs refl refl refl
    by_test false rest = room_either q c c (one_left peer key cs) cs refl refl rest

own_left : (peer key : ℕ) (cs : List ChainValue) → keys_in peer (one_left peer key cs) ≡ without key (keys_in peer cs)
own_left peer key [] = refl
own_left peer key (c ∷ cs) =
    elim (cases_Bool (is_chain_of peer c)) [
      | inl is ↦
          ap (keys_in peer) (cond-true (is_chain_of peer c) (chain_left key c ∷ cs) (c ∷ one_left peer key cs) is)
          ∙ in_first peer (chain_left key c) cs is
          ∙ ap (without key) (sym (in_first peer c cs is))
      | inr out ↦
          ap (keys_in peer) (cond-false (is_chain_of peer c) (chain_left key c ∷ cs) (c ∷ one_left peer key cs) out)
          ∙ in_rest peer c (one_left peer key cs) out
          ∙ own_left peer key cs
          ∙ ap (without key) (sym (in_rest peer c cs out))
    ]

other_left : (q peer key : ℕ) (cs : List ChainValue) → q ≢ peer → keys_in q (one_left peer key cs) ≡ keys_in q cs
other_left q peer key [] apart = refl
other_left q peer key (c ∷ cs) apart =
    elim (cases_Bool (is_chain_of peer c)) [
      | inl is ↦
          let own : c.peer ≡ peer = eqb-true c.peer peer is in
          let out : is_chain_of q c ≡ false = ne_eqb c.peer q (λ same. apart (sym same ∙ own)) in
          ap (keys_in q) (cond-true (is_chain_of peer c) (chain_left key c ∷ cs) (c ∷ one_left peer key cs) is)
          ∙ in_rest q (chain_left key c) cs out
          ∙ sym (in_rest q c cs out)
      | inr out ↦
          ap (keys_in q) (cond-false (is_chain_of peer c) (chain_left key c ∷ cs) (c ∷ one_left peer key cs) out)
          ∙ same_rest q c (one_left peer key cs) cs (other_left q peer key cs apart)
    ]

-- ---- the chains stay those of the observers

nothing_more : (ys : List ℕ) → ys ++ [] ≡ ys
nothing_more [] = refl
nothing_more (y ∷ ys) = ap (λ zs. y ∷ zs) (nothing_more ys)

off_keys : (key : ℕ) (members : List Member) → has_key key members ≡ false → Apart key (keys_of members)
off_keys key [] none = record {}
off_keys key (r ∷ members) none = by_test (r.0 == key) refl none (off_keys key members)
  where
    by_test : (b : Bool) → (r.0 == key) ≡ b → b || has_key key members ≡ false → (has_key key members ≡ false → Apart key (keys_of members)) → Apart key (keys_of (r ∷ members))
    by_test true is none rest = absurd (false≢true (sym none))
    by_test false is none rest = (λ same. absurd (false≢true (sym is ∙ eq-eqb r.0 key same)), rest none)

-- ---- all keys are those of observers

pub has_more : (k : ℕ) (members more : List Member) → has_key k members ≡ true → has_key k (members ++ more) ≡ true
has_more k [] more has = absurd (false≢true has)
has_more k (r ∷ members) more has = by_test (r.0 == k) has (has_more k members more)
  where
    by_test : (b : Bool) → b || has_key k members ≡ true → (has_key k members ≡ true → has_key k (members ++ more) ≡ true) → b || has_key k (members ++ more) ≡ true
    by_test true has rest = refl
    by_test false has rest = rest has

has_last : (key : ℕ) (o : ObservedValue) (members : List Member) → has_key key (members ++ (key, o) ∷ []) ≡ true
has_last key o [] = ap (λ b. b || false) (eq-eqb key key refl)
has_last key o (r ∷ members) = by_test (r.0 == key) (has_last key o members)
  where
    by_test : (b : Bool) → has_key key (members ++ (key, o) ∷ []) ≡ true → b || has_key key (members ++ (key, o) ∷ []) ≡ true
    by_test true rest = refl
    by_test false rest = rest

has_with : (k key : ℕ) (becomes : ObservedValue → ObservedValue) (members : List Member) → has_key k (with_key key becomes members) ≡ has_key k members
has_with k key becomes [] = refl
has_with k key becomes (r ∷ members) = by_test (r.0 == key) ∙ ap (λ b. (r.0 == k) || b) (has_with k key becomes members)
  where
    by_test : (b : Bool) → ((cond b (r.0, becomes r.1) r).0 == k) || has_key k (with_key key becomes members) ≡ (r.0 == k) || has_key k (with_key key becomes members)
    by_test true = refl
    by_test false = refl

has_still : (k key : ℕ) (members : List Member) → k ≢ key → has_key k members ≡ true → has_key k (without_key key members) ≡ true
has_still k key [] apart has = absurd (false≢true has)
has_still k key (r ∷ members) apart has = by_test (r.0 == key) refl (r.0 == k) refl has (has_still k key members apart)
  where
    by_test : (b : Bool) → (r.0 == key) ≡ b → (s : Bool) → (r.0 == k) ≡ s → s || has_key k members ≡ true → (has_key k members ≡ true → has_key k (without_key key members) ≡ true)
        → has_key k (cond (not b) (r ∷ without_key key members) (without_key key members)) ≡ true
    by_test true is true same has rest = absurd (apart (sym (eqb-true r.0 k same) ∙ eqb-true r.0 key is))
    by_test true is false same has rest = rest has
    by_test false is true same has rest = ap (λ b. b || has_key k (without_key key members)) same
    by_test false is false same has rest = ap (λ b. b || has_key k (without_key key members)) same ∙ rest has

within_members : (members new : List Member) (cs : List ChainValue) → ((k : ℕ) → has_key k members ≡ true → has_key k new ≡ true) → AreWithin members cs → AreWithin new cs
within_members members new [] more within = record {}
within_members members new (c ∷ cs) more within = (
  each_weaker (λ k. has_key k members ≡ true) (λ k. has_key k new ≡ true) c.keys more within.0,
  within_members members new cs more within.1,
)

within_chained : (members : List Member) (peer key : ℕ) (cs : List ChainValue) → has_key key members ≡ true → AreWithin members cs → AreWithin members (one_chained peer key cs)
within_chained members peer key [] has within = record {}
within_chained members peer key (c ∷ cs) has within = by_test (is_chain_of peer c) (within_chained members peer key cs has within.1)
  where
    by_test : (b : Bool) → AreWithin members (one_chained peer key cs) → AreWithin members (cond b (chained key c ∷ cs) (c ∷ one_chained peer key cs))
    by_test true rest = (each_both (λ k. has_key k members ≡ true) c.keys (key ∷ []) within.0 (has, record {}), within.1)
    by_test false rest = (within.0, rest)

each_without : (P : ℕ → Type 0) (key : ℕ) (xs : List ℕ) → Each P xs → Each P (without key xs)
each_without P key [] each = record {}
each_without P key (x ∷ xs) each = by_test (x == key) (each_without P key xs each.1)
  where
    by_test : (b : Bool) → Each P (without key xs) → Each P (cond (not b) (x ∷ without key xs) (without key xs))
    by_test true rest = rest
    by_test false rest = (each.0, rest)

within_left : (members : List Member) (peer key : ℕ) (cs : List ChainValue) → AreWithin members cs → AreWithin members (one_left peer key cs)
within_left members peer key [] within = record {}
within_left members peer key (c ∷ cs) within = by_test (is_chain_of peer c) (within_left members peer key cs within.1)
  where
    by_test : (b : Bool) → AreWithin members (one_left peer key cs) → AreWithin members (cond b (chain_left key c ∷ cs) (c ∷ one_left peer key cs))
    by_test true rest = (each_without (λ k. has_key k members ≡ true) key c.keys within.0, within.1)
    by_test false rest = (within.0, rest)

within_less : (key : ℕ) (members : List Member) (cs : List ChainValue) → AreWithin members cs → IsNowhere key cs → AreWithin (without_key key members) cs
within_less key members [] within gone = record {}
within_less key members (c ∷ cs) within gone = (
  each_two (λ k. has_key k members ≡ true) (λ k. k ≢ key) (λ k. has_key k (without_key key members) ≡ true) c.keys (λ k has apart. has_still k key members apart has) within.0 gone.0,
  within_less key members cs within.1 gone.1,
)

-- a key that no observer has is in no chain
pub nowhere_new : (key : ℕ) (members : List Member) (cs : List ChainValue) → has_key key members ≡ false → AreWithin members cs → IsNowhere key cs
nowhere_new key members [] none within = record {}
nowhere_new key members (c ∷ cs) none within = (
  each_weaker (λ k. has_key k members ≡ true) (λ k. k ≢ key) c.keys (λ k has same. false≢true (sym none ∙ ap (λ n. has_key n members) (sym same) ∙ has)) within.0,
  nowhere_new key members cs none within.1,
)

-- the key of a peer's observer is one of its keys
pub own_has : (peer key : ℕ) (one : ObservedValue) (members : List Member) → one_at key members ≡ Some one → (peer_of one == peer) ≡ true → has_slot key (own_keys peer members) ≡ true
own_has peer key one [] there of = cc there
own_has peer key one (r ∷ members) there of = by_test (r.0 == key) refl there (is_member_of peer r) refl (λ is. own_has peer key one members is of)
  where
    by_test : (b : Bool) → (r.0 == key) ≡ b → option_map one_of (cond b (Some r) (find (is_key key) members)) ≡ Some one → (s : Bool) → is_member_of peer r ≡ s
        → (one_at key members ≡ Some one → has_slot key (own_keys peer members) ≡ true)
        → has_slot key (keys_of (cond s (r ∷ filter (is_member_of peer) members) (filter (is_member_of peer) members))) ≡ true
    by_test true is there true own rest = ap (λ b. b || has_slot key (own_keys peer members)) is
    by_test true is there false own rest = absurd (false≢true (sym own ∙ ap (λ o. peer_of o == peer) (one_there (one_of r) one there) ∙ of))
    by_test false is there true own rest = ap (λ b. b || has_slot key (own_keys peer members)) is ∙ rest there
    by_test false is there false own rest = rest there

pub chained_last : (chains : List ChainValue) (members : List Member) (key : ℕ) (o : ObservedValue) → has_key key members ≡ false → 0 < room_in (peer_of o) chains → AreChained chains members
    → AreChained (one_chained (peer_of o) key chains) (members ++ (key, o) ∷ [])
chained_last chains members key o new some are = record {
  apart = subst Distinct (sym (keys_last (key, o) members)) (distinct_last key (keys_of members) are.apart (off_keys key members new));
  own = λ peer. own_is peer;
  within = within_chained (members ++ (key, o) ∷ []) (peer_of o) key chains (has_last key o members)
      (within_members members (members ++ (key, o) ∷ []) chains (λ k has. has_more k members ((key, o) ∷ []) has) are.within);
}
  where
    own_is : (peer : ℕ) → keys_in peer (one_chained (peer_of o) key chains) ≡ own_keys peer (members ++ (key, o) ∷ [])
    own_is peer =
        elim (cases_Bool (peer_of o == peer)) [
          | inl is ↦
              let same : peer_of o ≡ peer = eqb-true (peer_of o) peer is in
              ap (λ p. keys_in p (one_chained (peer_of o) key chains)) (sym same)
              ∙ own_chained (peer_of o) key chains some
              ∙ ap (λ ks. ks ++ key ∷ []) (are.own (peer_of o))
              ∙ ap (λ p. own_keys p members ++ key ∷ []) same
              ∙ ap (λ ks. own_keys peer members ++ ks) (sym (cond-true (peer_of o == peer) (key ∷ []) [] is))
              ∙ sym (own_last peer key o members)
          | inr out ↦
              other_chained peer (peer_of o) key chains (λ same. false≢true (sym out ∙ eq-eqb (peer_of o) peer (sym same)))
              ∙ are.own peer
              ∙ sym (nothing_more (own_keys peer members))
              ∙ ap (λ ks. own_keys peer members ++ ks) (sym (cond-false (peer_of o == peer) (key ∷ []) [] out))
              ∙ sym (own_last peer key o members)
        ]

pub chained_less : (chains : List ChainValue) (members : List Member) (key : ℕ) (one : ObservedValue) → one_at key members ≡ Some one → AreChained chains members
    → IsNowhere key (one_left (peer_of one) key chains) → AreChained (one_left (peer_of one) key chains) (without_key key members)
chained_less chains members key one there are gone = record {
  apart = subst Distinct (sym (keys_less key members)) (distinct_without key (keys_of members) are.apart);
  own = λ peer. own_is peer;
  within = within_less key members (one_left (peer_of one) key chains) (within_left members (peer_of one) key chains are.within) gone;
}
  where
    own_is : (peer : ℕ) → keys_in peer (one_left (peer_of one) key chains) ≡ own_keys peer (without_key key members)
    own_is peer =
        elim (cases_Bool (peer_of one == peer)) [
          | inl is ↦
              let same : peer_of one ≡ peer = eqb-true (peer_of one) peer is in
              ap (λ p. keys_in p (one_left (peer_of one) key chains)) (sym same)
              ∙ own_left (peer_of one) key chains
              ∙ ap (without key) (are.own (peer_of one))
              ∙ ap (λ p. without key (own_keys p members)) same
              ∙ sym (own_less peer key members)
          | inr out ↦
              other_left peer (peer_of one) key chains (λ same. false≢true (sym out ∙ eq-eqb (peer_of one) peer (sym same)))
              ∙ are.own peer
              ∙ sym (own_other peer key one members are.apart there out)
        ]

pub chained_with : (chains : List ChainValue) (members : List Member) (key : ℕ) (becomes : ObservedValue → ObservedValue) (one : ObservedValue) → one_at key members ≡ Some one
    → peer_of (becomes one) ≡ peer_of one → AreChained chains members → AreChained chains (with_key key becomes members)
chained_with chains members key becomes one there same_peer are = record {
  apart = subst Distinct (sym (keys_with key becomes members)) are.apart;
  own = λ peer. are.own peer ∙ sym (own_with peer key becomes one members are.apart there same_peer);
  within = within_members members (with_key key becomes members) chains (λ k has. has_with k key becomes members ∙ has) are.within;
}

-- ---- at the beginning

no_keys : (all : List Pair) (room start : ℕ) (pairs : List Pair) (peer : ℕ) → keys_in peer (empty_chains all room start pairs) ≡ []
no_keys all room start [] peer = refl
no_keys all room start (pair ∷ pairs) peer = by_test (pair.peer == peer) (no_keys all room (suc start) pairs peer)
  where
    by_test : (b : Bool) → keys_in peer (empty_chains all room (suc start) pairs) ≡ []
        → unwrap_or (option_map (λ (y : ChainValue). y.keys) (cond b (Some (record { peer = pair.peer; room = room_for all room pair.peer; start = start; keys = [] })) (find (is_chain_of peer) (empty_chains all room (suc start) pairs)))) [] ≡ []
    by_test true rest = refl
    by_test false rest = rest

none_within : (all : List Pair) (room start : ℕ) (pairs : List Pair) → AreWithin [] (empty_chains all room start pairs)
none_within all room start [] = record {}
none_within all room start (pair ∷ pairs) = (record {}, none_within all room (suc start) pairs)

pub none_chained : (all : List Pair) (room start : ℕ) (pairs : List Pair) → AreChained (empty_chains all room start pairs) []
none_chained all room start pairs = record { apart = record {}; own = λ peer. no_keys all room start pairs peer; within = none_within all room start pairs }

room_among : (all : List Pair) (room peer start : ℕ) (pairs : List Pair) → room_in peer (empty_chains all room start pairs) ≡ cond (list_any (is_pair_of peer) pairs) (room_for all room peer) 0
room_among all room peer start [] = refl
room_among all room peer start (pair ∷ pairs) =
    elim (cases_Bool (pair.peer == peer)) [
      | inl is ↦
          ap (λ b. unwrap_or (option_map (λ (y : ChainValue). y.room) (cond b (Some (record { peer = pair.peer; room = room_for all room pair.peer; start = start; keys = [] })) (find (is_chain_of peer) (empty_chains all room (suc start) pairs)))) 0) is
          ∙ ap (room_for all room) (eqb-true pair.peer peer is)
          ∙ ap (λ b. cond (b || list_any (is_pair_of peer) pairs) (room_for all room peer) 0) (sym is)
      | inr out ↦
          ap (λ b. unwrap_or (option_map (λ (y : ChainValue). y.room) (cond b (Some (record { peer = pair.peer; room = room_for all room pair.peer; start = start; keys = [] })) (find (is_chain_of peer) (empty_chains all room (suc start) pairs)))) 0) out
          ∙ room_among all room peer (suc start) pairs
          ∙ ap (λ b. cond (b || list_any (is_pair_of peer) pairs) (room_for all room peer) 0) (sym out)
    ]

none_counted : (peer : ℕ) (pairs : List Pair) → list_any (is_pair_of peer) pairs ≡ false → tally (is_pair_of peer) pairs ≡ 0
none_counted peer [] none = refl
none_counted peer (pair ∷ pairs) none = by_test (is_pair_of peer pair) none (none_counted peer pairs)
  where
    by_test : (b : Bool) → b || list_any (is_pair_of peer) pairs ≡ false → (list_any (is_pair_of peer) pairs ≡ false → tally (is_pair_of peer) pairs ≡ 0)
        → cond b 1 0 + tally (is_pair_of peer) pairs ≡ 0
    by_test true none rest = absurd (false≢true (sym none))
    by_test false none rest = omega (arith, rest none)

no_room : (room : ℕ) → 0 ≡ 0 * room
no_room room = omega arith

pub rooms_begin : (room start : ℕ) (pairs : List Pair) → HaveRoom pairs room (empty_chains pairs room start pairs)
rooms_begin room start pairs peer = room_among pairs room peer start pairs ∙ by_test (list_any (is_pair_of peer) pairs) (none_counted peer pairs)
  where
    by_test : (b : Bool) → (b ≡ false → tally (is_pair_of peer) pairs ≡ 0) → cond b (room_for pairs room peer) 0 ≡ room_for pairs room peer
    by_test true none = refl
    by_test false none = no_room room ∙ ap (λ n. n * room) (sym (none refl))

pub rooms_stay : (pairs : List Pair) (room : ℕ) (old new : ChainsValue) → SameRoom old new → HaveRoom pairs room old.chains → HaveRoom pairs room new.chains
rooms_stay pairs room old new same have peer = same.room peer ∙ have peer

pub same_room : (chains : ChainsValue) → SameRoom chains chains
same_room chains = record { limit = refl; room = λ peer. refl }

pub same_room_then : {old between new : ChainsValue} → SameRoom between new → SameRoom old between → SameRoom old new
same_room_then later first = record { limit = later.limit ∙ first.limit; room = λ peer. later.room peer ∙ first.room peer }

-- ---- how many there are of a peer

pub length_own : (peer : ℕ) (members : List Member) → length (own_keys peer members) ≡ tally (λ o. peer_of o == peer) (observed_of members)
length_own peer [] = refl
length_own peer (r ∷ members) = by_test (is_member_of peer r) (length_own peer members)
  where
    by_test : (b : Bool) → length (own_keys peer members) ≡ tally (λ o. peer_of o == peer) (observed_of members)
        → length (keys_of (cond b (r ∷ filter (is_member_of peer) members) (filter (is_member_of peer) members))) ≡ cond b 1 0 + tally (λ o. peer_of o == peer) (observed_of members)
    by_test true rest = omega (arith, rest)
    by_test false rest = omega (arith, rest)

pub tally_last : (test : ObservedValue → Bool) (o : ObservedValue) (xs : List ObservedValue) → tally test (xs ++ o ∷ []) ≡ tally test xs + cond (test o) 1 0
tally_last test o [] = omega arith
tally_last test o (x ∷ xs) = let rest = tally_last test o xs in omega (arith, rest)

-- ---- where a chain stands

chain_found : (peer i : ℕ) (cs : List ChainValue) (c : ChainValue) → position (is_chain_of peer) cs ≡ Some i → slice_get cs i ≡ Some c
    → find (is_chain_of peer) cs ≡ Some c
chain_found peer i cs c found there =
    let at = position-Some (is_chain_of peer) cs i c found in
    first_found (is_chain_of peer) cs i c at.0 at.1 at.2 ∙ there

pub room_at : (peer i : ℕ) (cs : List ChainValue) (c : ChainValue) → position (is_chain_of peer) cs ≡ Some i → slice_get cs i ≡ Some c
    → length (keys_in peer cs) < room_in peer cs → length c.keys < c.room
room_at peer i cs c found there less =
    let own = chain_found peer i cs c found there in
    let places : length (keys_in peer cs) ≡ length c.keys = ap (λ o. length (unwrap_or (option_map (λ (y : ChainValue). y.keys) o) [])) own in
    let room : room_in peer cs ≡ c.room = ap (λ o. unwrap_or (option_map (λ (y : ChainValue). y.room) o) 0) own in
    omega (arith, places, room, less)

pub chained_at : (peer key i : ℕ) (cs : List ChainValue) → position (is_chain_of peer) cs ≡ Some i
    → replace_at i (λ c. chained key c ∷ []) cs ≡ one_chained peer key cs
chained_at peer key i cs found =
    let at = position-Some (is_chain_of peer) cs i no_chain found in
    first_replaced (is_chain_of peer) (λ c. chained key c ∷ []) cs i no_chain at.0 at.1 at.2

pub chain_within : (peer i : ℕ) (cs : List ChainValue) → position (is_chain_of peer) cs ≡ Some i → i < length cs
chain_within peer i cs found =
    (position-Some (is_chain_of peer) cs i no_chain found).0

pub chained_nowhere : (peer key : ℕ) (cs : List ChainValue) → position (is_chain_of peer) cs ≡ None → cs ≡ one_chained peer key cs
chained_nowhere peer key cs none = sym (replaced_none (is_chain_of peer) (λ c. chained key c ∷ []) cs (none_passes (is_chain_of peer) cs none))

pub keys_at : (peer i : ℕ) (cs : List ChainValue) (c : ChainValue) → position (is_chain_of peer) cs ≡ Some i → slice_get cs i ≡ Some c → c.keys ≡ keys_in peer cs
keys_at peer i cs c found there = sym (ap (λ o. unwrap_or (option_map (λ (y : ChainValue). y.keys) o) []) (chain_found peer i cs c found there))

pub keys_nowhere : (peer : ℕ) (cs : List ChainValue) → position (is_chain_of peer) cs ≡ None → keys_in peer cs ≡ []
keys_nowhere peer cs none = ap (λ o. unwrap_or (option_map (λ (y : ChainValue). y.keys) o) []) (found_none (is_chain_of peer) cs (none_passes (is_chain_of peer) cs none))

pub left_at : (peer key i : ℕ) (cs : List ChainValue) → position (is_chain_of peer) cs ≡ Some i
    → replace_at i (λ c. chain_left key c ∷ []) cs ≡ one_left peer key cs
left_at peer key i cs found =
    let at = position-Some (is_chain_of peer) cs i no_chain found in
    first_replaced (is_chain_of peer) (λ c. chain_left key c ∷ []) cs i no_chain at.0 at.1 at.2

pub left_nowhere : (peer key : ℕ) (cs : List ChainValue) → position (is_chain_of peer) cs ≡ None → cs ≡ one_left peer key cs
left_nowhere peer key cs none = sym (replaced_none (is_chain_of peer) (λ c. chain_left key c ∷ []) cs (none_passes (is_chain_of peer) cs none))

-- ---- by its place

get_there : (i : ℕ) (cs : List ChainValue) → i < length cs → slice_get cs i ≡ Some (chain_at i cs)
get_there i [] less = absurd (omega (arith, less))
get_there zero (c ∷ cs) less = refl
get_there (suc i) (c ∷ cs) less = get_there i cs (omega (arith, less))

pub keys_placed : (peer i : ℕ) (cs : List ChainValue) → position (is_chain_of peer) cs ≡ Some i → (chain_at i cs).keys ≡ keys_in peer cs
keys_placed peer i cs found = keys_at peer i cs (chain_at i cs) found (get_there i cs (chain_within peer i cs found))

pub room_placed : (peer i : ℕ) (cs : List ChainValue) → position (is_chain_of peer) cs ≡ Some i → (chain_at i cs).room ≡ room_in peer cs
room_placed peer i cs found =
    sym (ap (λ o. unwrap_or (option_map (λ (y : ChainValue). y.room) o) 0) (chain_found peer i cs (chain_at i cs) found (get_there i cs (chain_within peer i cs found))))
