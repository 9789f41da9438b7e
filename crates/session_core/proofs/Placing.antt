-- The place of a peer's row.
use Rattle.std.proofs.Common.{◌≡◌, ℕ, zero, suc, ◌+◌, ◌<◌, Bool, true, false, cond, List, [], ◌∷◌, ◌++◌, length, map, drop, get_or, set, drop-cons, add-one, Option, Some, None, refl, sym, ap, ◌∙◌, inl, inr, arith}
use Rattle.std.specs.Prelude.{◌==◌, ◌||◌, is_some, position, slice_get, option_and_then}
use Rattle.std.specs.List.{find, list_any, position_from}
use Rattle.std.proofs.lemmas.Bool.{cases_eq, eq-eqb, ne_eqb, cond-true, cond-false, false≢true}
use Rattle.std.proofs.lemmas.Iterator.Adapters.{position_from-zero}
use Rattle.std.proofs.lemmas.List.Quantifiers.{position-Some}
use Rattle.session_core.specs.declared.contact.PeerContact.{PeerContact}
use Rattle.session_core.specs.Contacts.{is_of, with_row, number_in, number_of}
use Rattle.session_core.specs.Places.{row_peer, with_place}

-- ---- by the map

eq_turned : (a b : ℕ) → (a == b) ≡ (b == a)
eq_turned a b =
    elim (cases_eq a b) [
      | inl same ↦ eq-eqb a b same ∙ sym (eq-eqb b a (sym same))
      | inr apart ↦ ne_eqb a b apart ∙ sym (ne_eqb b a (λ same. apart (sym same)))
    ]

row_from : (peer n : ℕ) (rows : List PeerContact) → position_from (λ other. peer == other) n (map row_peer rows) ≡ position_from (is_of peer) n rows
row_from peer n [] = refl
row_from peer n (row ∷ rows) =
    ap (λ b. cond b (Some n) (position_from (λ other. peer == other) (n + 1) (map row_peer rows))) (eq_turned peer row.peer)
    ∙ ap (λ o. cond (is_of peer row) (Some n) o) (row_from peer (n + 1) rows)

-- where a peer stands by the map its row stands
pub row_place : (peer : ℕ) (rows : List PeerContact) → position_from (λ other. peer == other) 0 (map row_peer rows) ≡ position (is_of peer) rows
row_place peer rows = row_from peer 0 rows ∙ sym (position_from-zero (is_of peer) rows)

peer_at : (rows : List PeerContact) (i : ℕ) (d : PeerContact) → row_peer (get_or rows i d) ≡ get_or (map row_peer rows) i (row_peer d)
peer_at [] i d = refl
peer_at (row ∷ rows) zero d = refl
peer_at (row ∷ rows) (suc i) d = peer_at rows i d

-- one more peer at the front of those that are entered
pub one_entered : (rows : List PeerContact) (i : ℕ) (d : PeerContact) (before found : Option ℕ) (other : ℕ) → i < length (map row_peer rows)
    → before ≡ position_from (λ p. other == p) (i + 1) (drop (i + 1) (map row_peer rows))
    → found ≡ cond (row_peer (get_or rows i d) == other) (Some i) before → found ≡ position_from (λ p. other == p) i (drop i (map row_peer rows))
one_entered rows i d before found other less rest is =
    let peers = map row_peer rows in
    let peer = get_or peers i (row_peer d) in
    is
    ∙ ap (λ p. cond (p == other) (Some i) before) (peer_at rows i d)
    ∙ ap (λ b. cond b (Some i) before) (eq_turned peer other)
    ∙ ap (λ o. cond (other == peer) (Some i) o) rest
    ∙ ap (λ k. cond (other == peer) (Some i) (position_from (λ p. other == p) (i + 1) (drop k peers))) (add-one i)
    ∙ sym (ap (position_from (λ p. other == p) i) (drop-cons peers i (row_peer d) less))

-- ---- at a place

any_from : {A : Type 0} (test : A → Bool) (n : ℕ) (xs : List A) → is_some (position_from test n xs) ≡ list_any test xs
any_from test n [] = refl
any_from test n (x ∷ xs) = by_test (test x) (any_from test (n + 1) xs)
  where
    by_test : (b : Bool) → is_some (position_from test (n + 1) xs) ≡ list_any test xs
        → is_some (cond b (Some n) (position_from test (n + 1) xs)) ≡ b || list_any test xs
    by_test true rest = refl
    by_test false rest = rest

-- one that passes has a place
pub any_placed : {A : Type 0} (test : A → Bool) (xs : List A) → is_some (position test xs) ≡ list_any test xs
any_placed test xs = ap is_some (position_from-zero test xs) ∙ any_from test 0 xs

pub there_is : {A : Type 0} (xs : List A) (i : ℕ) (x : A) → i < length xs → x ≡ get_or xs i x → slice_get xs i ≡ Some x
there_is [] i x less is = absurd (omega (arith, less))
there_is (y ∷ xs) zero x less is = ap Some (sym is)
there_is (y ∷ xs) (suc i) x less is = there_is xs i x (omega (arith, less)) is

one_there : {A : Type 0} (x y : A) → Some x ≡ Some y → x ≡ y
one_there x y same = cc

pub set_place : (becomes : PeerContact → PeerContact) (rows : List PeerContact) (i : ℕ) (row new : PeerContact) → slice_get rows i ≡ Some row → new ≡ becomes row
    → set rows i new ≡ with_place i becomes rows
set_place becomes [] i row new there is = cc there
set_place becomes (r ∷ rows) zero row new there is = ap (λ x. x ∷ rows) (is ∙ ap becomes (sym (one_there r row there)))
set_place becomes (r ∷ rows) (suc i) row new there is = ap (λ rs. r ∷ rs) (set_place becomes rows i row new there is)

-- before place i none passes
abbrev NoneBefore : {A : Type 0} → (A → Bool) → List A → ℕ → A → Type 0
NoneBefore test xs i d = (k : ℕ) → k < i → test (get_or xs k d) ≡ false

later : {A : Type 0} (test : A → Bool) (x : A) (xs : List A) (i : ℕ) (d : A) → NoneBefore test (x ∷ xs) (suc i) d → NoneBefore test xs i d
later test x xs i d before k less = before (suc k) (omega (arith, less))

first_placed : (peer : ℕ) (becomes : PeerContact → PeerContact) (rows : List PeerContact) (i : ℕ) (d : PeerContact) → i < length rows
    → is_of peer (get_or rows i d) ≡ true → NoneBefore (is_of peer) rows i d → with_place i becomes rows ≡ with_row peer becomes rows
first_placed peer becomes [] i d less is before = absurd (omega (arith, less))
first_placed peer becomes (r ∷ rows) zero d less is before =
    sym (cond-true (is_of peer r) (becomes r ∷ rows) (r ∷ with_row peer becomes rows) is)
first_placed peer becomes (r ∷ rows) (suc i) d less is before =
    ap (λ rs. r ∷ rs) (first_placed peer becomes rows i d (omega (arith, less)) is (later (is_of peer) r rows i d before))
    ∙ sym (cond-false (is_of peer r) (becomes r ∷ rows) (r ∷ with_row peer becomes rows) (before zero (omega arith)))

first_found : {A : Type 0} (test : A → Bool) (xs : List A) (i : ℕ) (d : A) → i < length xs → test (get_or xs i d) ≡ true → NoneBefore test xs i d
    → find test xs ≡ slice_get xs i
first_found test [] i d less is before = absurd (omega (arith, less))
first_found test (x ∷ xs) zero d less is before = cond-true (test x) (Some x) (find test xs) is
first_found test (x ∷ xs) (suc i) d less is before =
    cond-false (test x) (Some x) (find test xs) (before zero (omega arith))
    ∙ first_found test xs i d (omega (arith, less)) is (later test x xs i d before)

unheard_row : PeerContact
unheard_row = record { peer = 0; contact = None }

pub place_within : (peer i : ℕ) (rows : List PeerContact) → position (is_of peer) rows ≡ Some i → i < length rows
place_within peer i rows found = (position-Some (is_of peer) rows i unheard_row found).0

-- what becomes of the row at the peer's place becomes of the peer's row
pub placed : (peer i : ℕ) (becomes : PeerContact → PeerContact) (rows : List PeerContact) → position (is_of peer) rows ≡ Some i
    → with_place i becomes rows ≡ with_row peer becomes rows
placed peer i becomes rows found =
    let at = position-Some (is_of peer) rows i unheard_row found in
    first_placed peer becomes rows i unheard_row at.0 at.1 at.2

pub number_placed : (peer i : ℕ) (rows : List PeerContact) → position (is_of peer) rows ≡ Some i
    → option_and_then number_in (slice_get rows i) ≡ number_of peer rows
number_placed peer i rows found =
    let at = position-Some (is_of peer) rows i unheard_row found in
    ap (option_and_then number_in) (sym (first_found (is_of peer) rows i unheard_row at.0 at.1 at.2))

-- ---- nowhere

pub none_any : (peer : ℕ) (rows : List PeerContact) → position (is_of peer) rows ≡ None → list_any (is_of peer) rows ≡ false
none_any peer rows none = sym (any_placed (is_of peer) rows) ∙ ap is_some none

found_none : {A : Type 0} (test : A → Bool) (xs : List A) → list_any test xs ≡ false → find test xs ≡ None
found_none test [] none = refl
found_none test (x ∷ xs) none = by_test (test x) none (found_none test xs)
  where
    by_test : (b : Bool) → b || list_any test xs ≡ false → (list_any test xs ≡ false → find test xs ≡ None) → cond b (Some x) (find test xs) ≡ None
    by_test true none rest = absurd (false≢true (sym none))
    by_test false none rest = rest none

-- a peer without a place has no row
pub number_nowhere : (peer : ℕ) (rows : List PeerContact) → position (is_of peer) rows ≡ None → number_of peer rows ≡ None
number_nowhere peer rows none = ap (option_and_then number_in) (found_none (is_of peer) rows (none_any peer rows none))

-- ---- the peers stay

pub peers_placed : (i : ℕ) (becomes : PeerContact → PeerContact) (rows : List PeerContact) → ((row : PeerContact) → row_peer (becomes row) ≡ row_peer row)
    → map row_peer (with_place i becomes rows) ≡ map row_peer rows
peers_placed i becomes [] same = refl
peers_placed zero becomes (row ∷ rows) same = ap (λ p. p ∷ map row_peer rows) (same row)
peers_placed (suc i) becomes (row ∷ rows) same = ap (λ ps. row_peer row ∷ ps) (peers_placed i becomes rows same)

pub peers_same : (front : List PeerContact) (row new : PeerContact) (rest : List PeerContact) → row_peer new ≡ row_peer row
    → map row_peer (front ++ new ∷ rest) ≡ map row_peer (front ++ row ∷ rest)
peers_same [] row new rest same = ap (λ p. p ∷ map row_peer rest) same
peers_same (one ∷ front) row new rest same = ap (λ ps. row_peer one ∷ ps) (peers_same front row new rest same)
