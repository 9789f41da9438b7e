-- The place of a pair, and the ring that stands there.
use Rattle.std.proofs.Common.{◌≡◌, ℕ, zero, suc, ◌+◌, ◌<◌, ◌≤◌, Bool, true, false, cond, List, [], ◌∷◌, ◌++◌, length, map, drop, get_or, drop-cons, add-one, Option, Some, None, refl, sym, ap, ◌∙◌, inl, inr, arith}
use Rattle.std.specs.Prelude.{◌==◌, ◌&&◌, ◌||◌, not, nat_lt, position, slice_get, is_some, option_map, unwrap_or}
use Rattle.std.specs.List.{find, list_any, position_from, position_or_len, prefix_len}
use Rattle.std.proofs.lemmas.Bool.{cases_eq, eq-eqb, ne_eqb}
use Rattle.std.proofs.lemmas.List.{length-map}
use Rattle.std.proofs.lemmas.List.Quantifiers.{position-Some}
use Rattle.std.proofs.lemmas.Iterator.Adapters.{position_from-zero}
use Rattle.coap_exchange.specs.declared.pair.Pair.{Pair}
use Rattle.coap_exchange.specs.declared.message.Message.{Message}
use Rattle.coap_exchange.specs.Firsts.{replace_at, replace_first}
use Rattle.coap_exchange.specs.Pairs.{is_pair, pair_with, same_pair}
use Rattle.coap_exchange.specs.Rings.{RingValue, empty_ring, grown, pair_of, is_ring_of, ring_of, messages_of, noted}
use Rattle.coap_exchange.proofs.Firsts.{NonePasses, none_passes, found_none, first_replaced, first_found, replaced_none}

-- ---- pairs

eq_turned : (a b : ℕ) → (a == b) ≡ (b == a)
eq_turned a b =
    elim (cases_eq a b) [
      | inl same ↦ eq-eqb a b same ∙ sym (eq-eqb b a (sym same))
      | inr apart ↦ ne_eqb a b apart ∙ sym (ne_eqb b a (λ same. apart (sym same)))
    ]

same_turned : (one other : Pair) → same_pair one other ≡ same_pair other one
same_turned one other =
    ap (λ b. b && (one.domain == other.domain)) (eq_turned one.peer other.peer)
    ∙ ap (λ b. (other.peer == one.peer) && b) (eq_turned one.domain other.domain)

same_is : (pair other : Pair) → same_pair pair other ≡ is_pair pair.peer pair.domain other
same_is pair other = same_turned pair other

from_tests : {A : Type 0} (t u : A → Bool) → ((x : A) → t x ≡ u x) → (n : ℕ) (xs : List A) → position_from t n xs ≡ position_from u n xs
from_tests t u same n [] = refl
from_tests t u same n (x ∷ xs) =
    ap (λ b. cond b (Some n) (position_from t (n + 1) xs)) (same x)
    ∙ ap (λ o. cond (u x) (Some n) o) (from_tests t u same (n + 1) xs)

-- where a pair stands by the map it stands in the list
pub place_is : (pair : Pair) (pairs : List Pair) → position_from (same_pair pair) 0 pairs ≡ position (is_pair pair.peer pair.domain) pairs
place_is pair pairs =
    from_tests (same_pair pair) (is_pair pair.peer pair.domain) (same_is pair) 0 pairs
    ∙ sym (position_from-zero (is_pair pair.peer pair.domain) pairs)

-- one more pair at the front of those that are entered
pub one_entered : (pairs : List Pair) (i : ℕ) (d : Pair) (before found : Option ℕ) (other : Pair) → i < length pairs
    → before ≡ position_from (same_pair other) (i + 1) (drop (i + 1) pairs)
    → found ≡ cond (same_pair (get_or pairs i d) other) (Some i) before → found ≡ position_from (same_pair other) i (drop i pairs)
one_entered pairs i d before found other less rest is =
    is
    ∙ ap (λ b. cond b (Some i) before) (same_turned (get_or pairs i d) other)
    ∙ ap (λ o. cond (same_pair other (get_or pairs i d)) (Some i) o) rest
    ∙ ap (λ k. cond (same_pair other (get_or pairs i d)) (Some i) (position_from (same_pair other) (i + 1) (drop k pairs))) (add-one i)
    ∙ sym (ap (position_from (same_pair other) i) (drop-cons pairs i d less))

-- ---- rings

any_found : {A : Type 0} (test : A → Bool) (n : ℕ) (xs : List A) → is_some (position_from test n xs) ≡ list_any test xs
any_found test n [] = refl
any_found test n (x ∷ xs) = by_test (test x) (any_found test (n + 1) xs)
  where
    by_test : (b : Bool) → is_some (position_from test (n + 1) xs) ≡ list_any test xs
        → is_some (cond b (Some n) (position_from test (n + 1) xs)) ≡ b || list_any test xs
    by_test true rest = refl
    by_test false rest = rest

first_of_pairs : (peer domain : ℕ) (rings : List RingValue)
    → position_or_len (is_pair peer domain) (map pair_of rings) ≡ position_or_len (is_ring_of peer domain) rings
first_of_pairs peer domain [] = refl
first_of_pairs peer domain (r ∷ rs) = ap (λ k. cond {A = ℕ} (not (is_ring_of peer domain r)) (1 + k) 0) (first_of_pairs peer domain rs)

-- a ring stands where its pair does
pub ring_place : (peer domain : ℕ) (rings : List RingValue) (pairs : List Pair) → map pair_of rings ≡ pairs
    → position (is_pair peer domain) pairs ≡ position (is_ring_of peer domain) rings
ring_place peer domain rings pairs same =
    ap (position (is_pair peer domain)) (sym same)
    ∙ ap (λ k. cond (nat_lt k (length (map pair_of rings))) (Some k) None) (first_of_pairs peer domain rings)
    ∙ ap
    (λ len. cond (nat_lt (position_or_len (is_ring_of peer domain) rings) len) (Some (position_or_len (is_ring_of peer domain) rings)) None)
    (length-map rings pair_of)

pub any_there : {A : Type 0} (test : A → Bool) (xs : List A) → is_some (position test xs) ≡ list_any test xs
any_there test xs = ap is_some (position_from-zero test xs) ∙ any_found test 0 xs

any_of_pairs : (peer domain : ℕ) (rings : List RingValue) → list_any (is_pair peer domain) (map pair_of rings) ≡ list_any (is_ring_of peer domain) rings
any_of_pairs peer domain [] = refl
any_of_pairs peer domain (r ∷ rs) = ap (λ b. is_ring_of peer domain r || b) (any_of_pairs peer domain rs)

pub ring_there : (peer domain : ℕ) (rings : List RingValue) (pairs : List Pair) → map pair_of rings ≡ pairs
    → list_any (is_pair peer domain) pairs ≡ list_any (is_ring_of peer domain) rings
ring_there peer domain rings pairs same = ap (list_any (is_pair peer domain)) (sym same) ∙ any_of_pairs peer domain rings

first_grown : (peer domain : ℕ) (message : Message) (rings : List RingValue)
    → replace_first (is_ring_of peer domain) (λ r. grown message r ∷ []) rings ≡ noted peer domain message rings
first_grown peer domain message [] = refl
first_grown peer domain message (r ∷ rs) =
    ap (λ rest. cond (is_ring_of peer domain r) (grown message r ∷ rs) (r ∷ rest)) (first_grown peer domain message rs)

pub noted_at : (peer domain i : ℕ) (message : Message) (rings : List RingValue) → position (is_ring_of peer domain) rings ≡ Some i
    → replace_at i (λ r. grown message r ∷ []) rings ≡ noted peer domain message rings
noted_at peer domain i message rings found =
    let d = empty_ring 0 (pair_with peer domain) in
    let at = position-Some (is_ring_of peer domain) rings i d found in
    first_replaced (is_ring_of peer domain) (λ r. grown message r ∷ []) rings i d at.0 at.1 at.2 ∙ first_grown peer domain message rings

pub noted_nowhere : (peer domain : ℕ) (message : Message) (rings : List RingValue) → position (is_ring_of peer domain) rings ≡ None
    → rings ≡ noted peer domain message rings
noted_nowhere peer domain message rings none =
    sym (replaced_none (is_ring_of peer domain) (λ r. grown message r ∷ []) rings (none_passes (is_ring_of peer domain) rings none))
    ∙ first_grown peer domain message rings

pub messages_at : (peer domain i : ℕ) (rings : List RingValue) (r : RingValue) → position (is_ring_of peer domain) rings ≡ Some i
    → slice_get rings i ≡ Some r → r.messages ≡ messages_of peer domain rings
messages_at peer domain i rings r found there =
    let at = position-Some (is_ring_of peer domain) rings i r found in
    sym (ap (λ o. unwrap_or (option_map (λ (x : RingValue). x.messages) o) []) (first_found (is_ring_of peer domain) rings i r at.0 at.1 at.2 ∙ there))

pub no_messages : (peer domain : ℕ) (rings : List RingValue) → position (is_ring_of peer domain) rings ≡ None → messages_of peer domain rings ≡ []
no_messages peer domain rings none =
    ap (λ o. unwrap_or (option_map (λ (x : RingValue). x.messages) o) [])
    (found_none (is_ring_of peer domain) rings (none_passes (is_ring_of peer domain) rings none))

pub pairs_empty : (room : ℕ) (pairs : List Pair) → map pair_of (map (empty_ring room) pairs) ≡ pairs
pairs_empty room [] = refl
pairs_empty room (pair ∷ pairs) = ap (λ ps. pair ∷ ps) (pairs_empty room pairs)
