-- How many observers there are.
use Rattle.std.proofs.Common.{◌≡◌, ℕ, zero, suc, ◌+◌, ◌*◌, ◌<◌, ◌≤◌, Bool, true, false, cond, List, [], ◌∷◌, ◌++◌, length, filter, Some, refl, sym, ap, ◌∙◌, inl, inr, arith}
use Rattle.std.specs.Prelude.{not, ◌||◌, ◌&&◌, ◌==◌, nat_lt, ◌⊎◌}
use Rattle.std.specs.List.{list_any}
use Rattle.std.proofs.lemmas.Bool.{cases_Bool, cases_eq, or_cases, and_parts, eqb-true, eq-eqb, ne_eqb, ltb-true, cond-true, cond-false, false≢true}
use Rattle.dots_history.specs.Entries.{option_any}
use Rattle.dots_history.specs.Histories.{tally}
use Rattle.coap_exchange.specs.declared.pair.Pair.{Pair}
use Rattle.coap_observe.specs.declared.observer.Observer.{Observer}
use Rattle.coap_exchange.specs.Firsts.{replace_at}
use Rattle.coap_exchange.specs.Pairs.{is_pair}
use Rattle.coap_observe.specs.Chains.{is_pair_of, room_for}
use Rattle.coap_observe.specs.Rolls.{peer_of}
use Rattle.coap_observe.specs.Observed.{ObservedValue, is_of, is_token, notified, registered_again}
use Rattle.coap_observe.specs.Observing.{own_of, has_room, registered_first, entered, notified_or_gone, AreOf, AreBounded}

-- ---- those that a test keeps

pub none_bounded : (pairs : List Pair) (room : ℕ) → AreBounded pairs room []
none_bounded pairs room = record { known = record {}; few = λ peer domain. omega arith }

count_filtered : (q f : ObservedValue → Bool) (xs : List ObservedValue) → tally q (filter f xs) ≤ tally q xs
count_filtered q f [] = omega arith
count_filtered q f (o ∷ os) = by_test (f o) (count_filtered q f os)
  where
    by_test : (b : Bool) → tally q (filter f os) ≤ tally q os
        → tally q (cond b (o ∷ filter f os) (filter f os)) ≤ cond (q o) 1 0 + tally q os
    by_test true less = omega (arith, less)
    by_test false less = omega (arith, less)

known_filtered : (pairs : List Pair) (f : ObservedValue → Bool) (xs : List ObservedValue) → AreOf pairs xs → AreOf pairs (filter f xs)
known_filtered pairs f [] known = record {}
known_filtered pairs f (o ∷ os) known = by_test (f o) known.0 (known_filtered pairs f os known.1)
  where
    by_test : (b : Bool) → list_any (λ (pair : Pair). is_of pair.peer pair.domain o) pairs ≡ true → AreOf pairs (filter f os)
        → AreOf pairs (cond b (o ∷ filter f os) (filter f os))
    by_test true own rest = (own, rest)
    by_test false own rest = rest

pub bounded_filtered : (pairs : List Pair) (room : ℕ) (f : ObservedValue → Bool) (xs : List ObservedValue) → AreBounded pairs room xs → AreBounded pairs room (filter f xs)
bounded_filtered pairs room f xs bounded = record {
  known = known_filtered pairs f xs bounded.known;
  few = λ peer domain. let less = count_filtered (is_of peer domain) f xs in let few = bounded.few peer domain in omega (arith, less, few);
}

-- ---- no more than the pairs have room for

abbrev others : Pair → List ObservedValue → List ObservedValue
others pair xs = filter (λ o. not (is_of pair.peer pair.domain o)) xs

others_apart : (pair : Pair) (xs : List ObservedValue) → length xs ≡ tally (is_of pair.peer pair.domain) xs + length (others pair xs)
others_apart pair [] = omega arith
others_apart pair (o ∷ os) = by_test (is_of pair.peer pair.domain o) (others_apart pair os)
  where
    by_test : (b : Bool) → length os ≡ tally (is_of pair.peer pair.domain) os + length (others pair os)
        → length (o ∷ os) ≡ (cond b 1 0 + tally (is_of pair.peer pair.domain) os) + length (cond (not b) (o ∷ others pair os) (others pair os))
    by_test true same = omega (arith, same)
    by_test false same = omega (arith, same)

others_known : (pair : Pair) (pairs : List Pair) (xs : List ObservedValue) → AreOf (pair ∷ pairs) xs → AreOf pairs (others pair xs)
others_known pair pairs [] known = record {}
others_known pair pairs (o ∷ os) known = by_test (is_of pair.peer pair.domain o) known.0 (others_known pair pairs os known.1)
  where
    by_test : (b : Bool) → b || list_any (λ (p : Pair). is_of p.peer p.domain o) pairs ≡ true → AreOf pairs (others pair os)
        → AreOf pairs (cond (not b) (o ∷ others pair os) (others pair os))
    by_test true own rest = rest
    by_test false own rest = (own, rest)

pub bounded_length : (pairs : List Pair) (room : ℕ) (xs : List ObservedValue) → AreBounded pairs room xs → length xs ≤ length pairs * room
bounded_length [] room [] bounded = omega arith
bounded_length [] room (o ∷ os) bounded = absurd (false≢true bounded.known.0)
bounded_length (pair ∷ pairs) room xs bounded =
    let apart = others_apart pair xs in
    let few = bounded.few pair.peer pair.domain in
    let rest = bounded_length pairs room (others pair xs) (record {
      known = others_known pair pairs xs bounded.known;
      few = λ peer domain.
          let less = count_filtered (is_of peer domain) (λ o. not (is_of pair.peer pair.domain o)) xs in
          let all = bounded.few peer domain in
          omega (arith, less, all);
    }) in
    omega (arith, apart, few, rest)

-- ---- no more of a peer than its pairs have room for

abbrev is_peers : ℕ → ObservedValue → Bool
is_peers peer o = peer_of o == peer

peers_apart : (pair : Pair) (peer : ℕ) (xs : List ObservedValue)
    → tally (is_peers peer) xs ≡ cond (is_pair_of peer pair) (tally (is_of pair.peer pair.domain) xs) 0 + tally (is_peers peer) (others pair xs)
peers_apart pair peer [] = by_test (is_pair_of peer pair)
  where
    by_test : (b : Bool) → 0 ≡ cond {A = ℕ} b 0 0 + 0
    by_test true = omega arith
    by_test false = omega arith
peers_apart pair peer (o ∷ os) =
    by_tests (is_pair_of peer pair) (is_of pair.peer pair.domain o)
    (λ is. ap (λ p. p == peer) (eqb-true o.observer.peer pair.peer (and_parts (o.observer.peer == pair.peer) (o.observer.domain == pair.domain) is).0))
    (peers_apart pair peer os)
  where
    by_tests : (p m : Bool) → (m ≡ true → is_peers peer o ≡ p)
        → tally (is_peers peer) os ≡ cond p (tally (is_of pair.peer pair.domain) os) 0 + tally (is_peers peer) (others pair os)
        → cond (is_peers peer o) 1 0 + tally (is_peers peer) os
        ≡ cond p (cond m 1 0 + tally (is_of pair.peer pair.domain) os) 0 + tally (is_peers peer) (cond (not m) (o ∷ others pair os) (others pair os))
    by_tests true true own same = let one : cond {A = ℕ} (is_peers peer o) 1 0 ≡ 1 = ap (λ b. cond {A = ℕ} b 1 0) (own refl) in omega (arith, one, same)
    by_tests false true own same = let none : cond {A = ℕ} (is_peers peer o) 1 0 ≡ 0 = ap (λ b. cond {A = ℕ} b 1 0) (own refl) in omega (arith, none, same)
    by_tests true false own same = omega (arith, same)
    by_tests false false own same = omega (arith, same)

one_more : (n m : ℕ) → (1 + n) * m ≡ m + n * m
one_more n m = omega arith

pub few_of_peer : (pairs : List Pair) (room peer : ℕ) (xs : List ObservedValue) → AreBounded pairs room xs → tally (is_peers peer) xs ≤ room_for pairs room peer
few_of_peer [] room peer [] bounded = omega arith
few_of_peer [] room peer (o ∷ os) bounded = absurd (false≢true bounded.known.0)
few_of_peer (pair ∷ pairs) room peer xs bounded =
    by_test (is_pair_of peer pair) (peers_apart pair peer xs) (bounded.few pair.peer pair.domain)
    (few_of_peer pairs room peer (others pair xs) (record {
      known = others_known pair pairs xs bounded.known;
      few = λ p domain.
          let less = count_filtered (is_of p domain) (λ o. not (is_of pair.peer pair.domain o)) xs in
          let all = bounded.few p domain in
          omega (arith, less, all);
    }))
  where
    by_test : (b : Bool)
        → tally (is_peers peer) xs ≡ cond b (tally (is_of pair.peer pair.domain) xs) 0 + tally (is_peers peer) (others pair xs)
        → tally (is_of pair.peer pair.domain) xs ≤ room
        → tally (is_peers peer) (others pair xs) ≤ tally (is_pair_of peer) pairs * room
        → tally (is_peers peer) xs ≤ (cond b 1 0 + tally (is_pair_of peer) pairs) * room
    by_test true apart few rest = omega (arith, apart, few, rest, one_more (tally (is_pair_of peer) pairs) room)
    by_test false apart few rest = omega (arith, apart, rest)

-- ---- one that was notified of something, or is gone

by_nil : (seen : List (ℕ × ℕ)) (id : ℕ) (o : ObservedValue) (q : ObservedValue → Bool) (rest : List ObservedValue) (count : ℕ)
    → q (notified id seen o) ≡ q o → tally q rest ≤ count → tally q (notified_or_gone id seen o ++ rest) ≤ cond (q o) 1 0 + count
by_nil [] id o q rest count same less = omega (arith, less)
by_nil (s ∷ seen) id o q rest count same less =
    let own : cond (q (notified id (s ∷ seen) o)) 1 0 ≡ cond (q o) 1 0 = ap (λ b. cond {A = ℕ} b 1 0) same in
    omega (arith, less, own)

count_notified : (peer domain place id : ℕ) (list : ObservedValue → List (ℕ × ℕ)) (xs : List ObservedValue)
    → tally (is_of peer domain) (replace_at place (λ o. notified_or_gone id (list o) o) xs) ≤ tally (is_of peer domain) xs
count_notified peer domain place id list [] = omega arith
count_notified peer domain zero id list (o ∷ os) = by_nil (list o) id o (is_of peer domain) os (tally (is_of peer domain) os) refl (omega arith)
count_notified peer domain (suc place) id list (o ∷ os) = let rest = count_notified peer domain place id list os in omega (arith, rest)

known_notified : (pairs : List Pair) (place id : ℕ) (list : ObservedValue → List (ℕ × ℕ)) (xs : List ObservedValue) → AreOf pairs xs
    → AreOf pairs (replace_at place (λ o. notified_or_gone id (list o) o) xs)
known_notified pairs place id list [] known = record {}
known_notified pairs zero id list (o ∷ os) known = by_list (list o)
  where
    by_list : (seen : List (ℕ × ℕ)) → AreOf pairs (notified_or_gone id seen o ++ os)
    by_list [] = known.1
    by_list (s ∷ seen) = (known.0, known.1)
known_notified pairs (suc place) id list (o ∷ os) known = (known.0, known_notified pairs place id list os known.1)

pub bounded_notified : (pairs : List Pair) (room place id : ℕ) (list : ObservedValue → List (ℕ × ℕ)) (xs : List ObservedValue) → AreBounded pairs room xs
    → AreBounded pairs room (replace_at place (λ o. notified_or_gone id (list o) o) xs)
bounded_notified pairs room place id list xs bounded = record {
  known = known_notified pairs place id list xs bounded.known;
  few = λ peer domain.
      let less = count_notified peer domain place id list xs in
      let all = bounded.few peer domain in
      omega (arith, less, all);
}

-- ---- one that is registered

count_entered : (peer domain : ℕ) (observer : Observer) (seen : List (ℕ × ℕ)) (xs : List ObservedValue)
    → tally (is_of peer domain) (entered observer seen xs) ≤ cond (is_of peer domain (registered_first observer seen)) 1 0 + tally (is_of peer domain) xs
count_entered peer domain observer seen [] = omega arith
count_entered peer domain observer seen (o ∷ os) = by_test (is_token observer.peer observer.token o) (count_entered peer domain observer seen os)
  where
    by_test : (b : Bool)
        → tally (is_of peer domain) (entered observer seen os) ≤ cond (is_of peer domain (registered_first observer seen)) 1 0 + tally (is_of peer domain) os
        → tally (is_of peer domain) (cond b (registered_again observer seen o ∷ os) (o ∷ entered observer seen os))
        ≤ cond (is_of peer domain (registered_first observer seen)) 1 0 + (cond (is_of peer domain o) 1 0 + tally (is_of peer domain) os)
    by_test true less = omega arith
    by_test false less = omega (arith, less)

-- where it is there already for its domain, none comes to any pair
count_again : (peer domain : ℕ) (observer : Observer) (seen : List (ℕ × ℕ)) (xs : List ObservedValue)
    → option_any (λ (o : ObservedValue). o.observer.domain == observer.domain) (own_of observer xs) ≡ true
    → tally (is_of peer domain) (entered observer seen xs) ≡ tally (is_of peer domain) xs
count_again peer domain observer seen [] there = absurd (false≢true there)
count_again peer domain observer seen (o ∷ os) there =
    elim (cases_Bool (is_token observer.peer observer.token o)) [
      | inl is ↦
          let own = ap (option_any (λ (x : ObservedValue). x.observer.domain == observer.domain))
          (cond-true (is_token observer.peer observer.token o) (Some o) (own_of observer os) is) in
          let same_domain : o.observer.domain ≡ observer.domain = eqb-true o.observer.domain observer.domain (sym own ∙ there) in
          let same_peer : o.observer.peer ≡ observer.peer = eqb-true o.observer.peer observer.peer (and_parts (o.observer.peer == observer.peer) _ is).0 in
          ap (tally (is_of peer domain))
          (cond-true (is_token observer.peer observer.token o) (registered_again observer seen o ∷ os) (o ∷ entered observer seen os) is)
          ∙ ap (λ n. cond {A = ℕ} ((n == peer) && (observer.domain == domain)) 1 0 + tally (is_of peer domain) os) (sym same_peer)
          ∙ ap (λ n. cond {A = ℕ} ((o.observer.peer == peer) && (n == domain)) 1 0 + tally (is_of peer domain) os) (sym same_domain)
      | inr out ↦
          let own = ap (option_any (λ (x : ObservedValue). x.observer.domain == observer.domain))
          (cond-false (is_token observer.peer observer.token o) (Some o) (own_of observer os) out) in
          ap (tally (is_of peer domain))
          (cond-false (is_token observer.peer observer.token o) (registered_again observer seen o ∷ os) (o ∷ entered observer seen os) out)
          ∙ ap (λ n. cond {A = ℕ} (is_of peer domain o) 1 0 + n) (count_again peer domain observer seen os (sym own ∙ there))
    ]

known_entered : (pairs : List Pair) (observer : Observer) (seen : List (ℕ × ℕ)) (xs : List ObservedValue)
    → list_any (λ (pair : Pair). is_of pair.peer pair.domain (registered_first observer seen)) pairs ≡ true → AreOf pairs xs → AreOf pairs (entered observer seen xs)
known_entered pairs observer seen [] own known = (own, record {})
known_entered pairs observer seen (o ∷ os) own known = by_test (is_token observer.peer observer.token o) (known_entered pairs observer seen os own known.1)
  where
    by_test : (b : Bool) → AreOf pairs (entered observer seen os) → AreOf pairs (cond b (registered_again observer seen o ∷ os) (o ∷ entered observer seen os))
    by_test true rest = (own, known.1)
    by_test false rest = (known.0, rest)

eq_turned : (a b : ℕ) → (a == b) ≡ (b == a)
eq_turned a b =
    elim (cases_eq a b) [
      | inl same ↦ eq-eqb a b same ∙ sym (eq-eqb b a (sym same))
      | inr apart ↦ ne_eqb a b apart ∙ sym (ne_eqb b a (λ same. apart (sym same)))
    ]

-- the pair is there, from either side
all_turned : (observer : Observer) (seen : List (ℕ × ℕ)) (pairs : List Pair)
    → list_any (is_pair observer.peer observer.domain) pairs ≡ list_any (λ (pair : Pair). is_of pair.peer pair.domain (registered_first observer seen)) pairs
all_turned observer seen [] = refl
all_turned observer seen (pair ∷ pairs) =
    ap (λ b. (b && (pair.domain == observer.domain)) || list_any (is_pair observer.peer observer.domain) pairs) (eq_turned pair.peer observer.peer)
    ∙ ap (λ b. ((observer.peer == pair.peer) && b) || list_any (is_pair observer.peer observer.domain) pairs) (eq_turned pair.domain observer.domain)
    ∙ ap (λ b. ((observer.peer == pair.peer) && (observer.domain == pair.domain)) || b) (all_turned observer seen pairs)

pub pair_turned : (observer : Observer) (seen : List (ℕ × ℕ)) (pairs : List Pair) → list_any (is_pair observer.peer observer.domain) pairs ≡ true
    → list_any (λ (pair : Pair). is_of pair.peer pair.domain (registered_first observer seen)) pairs ≡ true
pair_turned observer seen pairs is = sym (all_turned observer seen pairs) ∙ is

-- of each pair there are no more than the room
few_entered : (room : ℕ) (observer : Observer) (seen : List (ℕ × ℕ)) (xs : List ObservedValue) → has_room room observer xs ≡ true
    → ((peer domain : ℕ) → tally (is_of peer domain) xs ≤ room) → (peer domain : ℕ) → tally (is_of peer domain) (entered observer seen xs) ≤ room
few_entered room observer seen xs has few peer domain =
    elim (or_cases (option_any (λ (o : ObservedValue). o.observer.domain == observer.domain) (own_of observer xs)) (nat_lt (tally (is_of observer.peer observer.domain) xs) room) has) [
      | inl there ↦ let same = count_again peer domain observer seen xs there in let all = few peer domain in omega (arith, same, all)
      | inr less ↦ by_pair (cases_Bool (is_of peer domain (registered_first observer seen))) (ltb-true (tally (is_of observer.peer observer.domain) xs) room less)
    ]
  where
    more : tally (is_of peer domain) (entered observer seen xs) ≤ cond (is_of peer domain (registered_first observer seen)) 1 0 + tally (is_of peer domain) xs
    more = count_entered peer domain observer seen xs

    by_pair : (is_of peer domain (registered_first observer seen) ≡ true) ⊎ (is_of peer domain (registered_first observer seen) ≡ false)
        → tally (is_of observer.peer observer.domain) xs < room → tally (is_of peer domain) (entered observer seen xs) ≤ room
    by_pair (inl is) less =
        let parts = and_parts (observer.peer == peer) (observer.domain == domain) is in
        let same_peer : observer.peer ≡ peer = eqb-true observer.peer peer parts.0 in
        let same_domain : observer.domain ≡ domain = eqb-true observer.domain domain parts.1 in
        let counts = ap (λ p. tally (is_of p observer.domain) xs) same_peer ∙ ap (λ d. tally (is_of peer d) xs) same_domain in
        let one : cond (is_of peer domain (registered_first observer seen)) 1 0 ≡ 1 = ap (λ b. cond {A = ℕ} b 1 0) is in
        let more_is = more in
        omega (arith, more_is, one, counts, less)
    by_pair (inr out) less =
        let none : cond (is_of peer domain (registered_first observer seen)) 1 0 ≡ 0 = ap (λ b. cond {A = ℕ} b 1 0) out in
        let all = few peer domain in
        let more_is = more in
        omega (arith, more_is, none, all)

pub bounded_entered : (pairs : List Pair) (room : ℕ) (observer : Observer) (seen : List (ℕ × ℕ)) (xs : List ObservedValue) → has_room room observer xs ≡ true
    → list_any (is_pair observer.peer observer.domain) pairs ≡ true → AreBounded pairs room xs → AreBounded pairs room (entered observer seen xs)
bounded_entered pairs room observer seen xs has pair bounded = record {
  known = known_entered pairs observer seen xs (pair_turned observer seen pairs pair) bounded.known;
  few = few_entered room observer seen xs has bounded.few;
}
