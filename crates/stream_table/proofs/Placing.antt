-- Rows and lines at places.
use Rattle.std.proofs.Common.{◌≡◌, ℕ, zero, suc, ◌+◌, ◌<◌, ◌≤◌, Bool, true, false, cond, List, [], ◌∷◌, length, take, get_or, set, Option, Some, None, refl, sym, ap, ◌∙◌, arith}
use Rattle.std.specs.Prelude.{◌||◌, is_some, position, slice_get, option_map, option_and_then, Ok, Err}
use Rattle.std.specs.List.{find, list_any, position_from}
use Rattle.std.proofs.lemmas.Bool.{cond-true, cond-false, false≢true}
use Rattle.std.proofs.lemmas.Iterator.Adapters.{position_from-zero}
use Rattle.std.proofs.lemmas.List.{take_all, get_or_default}
use Rattle.std.proofs.lemmas.List.Quantifiers.{position-Some}
use Rattle.stream_table.specs.declared.refused.Refused.TheVariants.{Third}
use Rattle.stream_table.specs.declared.place.LinePlace.{LinePlace}
use Rattle.stream_table.specs.Lines.{Line, PeerLines, is_of, has_room, taken_in, with_row, is_number, all_lines}
use Rattle.stream_table.specs.Places.{conn_of, conn_at, IsAt, with_place}

pub there_is : {A : Type 0} (xs : List A) (i : ℕ) (x : A) → i < length xs → x ≡ get_or xs i x → slice_get xs i ≡ Some x
there_is [] i x less is = absurd (omega (arith, less))
there_is (y ∷ xs) zero x less is = ap Some (sym is)
there_is (y ∷ xs) (suc i) x less is = there_is xs i x (omega (arith, less)) is

pub one_there : {A : Type 0} (x y : A) → Some x ≡ Some y → x ≡ y
one_there x y same = cc

pub set_place : (becomes : PeerLines → PeerLines) (rows : List PeerLines) (i : ℕ) (row new : PeerLines) → slice_get rows i ≡ Some row → new ≡ becomes row
    → set rows i new ≡ with_place i becomes rows
set_place becomes [] i row new there is = cc there
set_place becomes (r ∷ rows) zero row new there is = ap (λ x. x ∷ rows) (is ∙ ap becomes (sym (one_there r row there)))
set_place becomes (r ∷ rows) (suc i) row new there is = ap (λ rs. r ∷ rs) (set_place becomes rows i row new there is)

-- before place i none passes
abbrev NoneBefore : {A : Type 0} → (A → Bool) → List A → ℕ → A → Type 0
NoneBefore test xs i d = (k : ℕ) → k < i → test (get_or xs k d) ≡ false

later : {A : Type 0} (test : A → Bool) (x : A) (xs : List A) (i : ℕ) (d : A) → NoneBefore test (x ∷ xs) (suc i) d → NoneBefore test xs i d
later test x xs i d before k less = before (suc k) (omega (arith, less))

first_placed : (peer : ℕ) (becomes : PeerLines → PeerLines) (rows : List PeerLines) (i : ℕ) (d : PeerLines) → i < length rows
    → is_of peer (get_or rows i d) ≡ true → NoneBefore (is_of peer) rows i d → with_place i becomes rows ≡ with_row peer becomes rows
first_placed peer becomes [] i d less is before = absurd (omega (arith, less))
first_placed peer becomes (r ∷ rows) zero d less is before =
    sym (cond-true (is_of peer r) (becomes r ∷ rows) (r ∷ with_row peer becomes rows) is)
first_placed peer becomes (r ∷ rows) (suc i) d less is before =
    ap (λ rs. r ∷ rs) (first_placed peer becomes rows i d (omega (arith, less)) is (later (is_of peer) r rows i d before))
    ∙ sym (cond-false (is_of peer r) (becomes r ∷ rows) (r ∷ with_row peer becomes rows) (before zero (omega arith)))

first_found : {A : Type 0} (test : A → Bool) (xs : List A) (i : ℕ) (d : A) → i < length xs → test (get_or xs i d) ≡ true → NoneBefore test xs i d
    → find test xs ≡ slice_get xs i
first_found test [] i d less is before = absurd (omega (arith, less))
first_found test (x ∷ xs) zero d less is before = cond-true (test x) (Some x) (find test xs) is
first_found test (x ∷ xs) (suc i) d less is before =
    cond-false (test x) (Some x) (find test xs) (before zero (omega arith))
    ∙ first_found test xs i d (omega (arith, less)) is (later test x xs i d before)

no_row : PeerLines
no_row = record { peer = 0; lines = [] }

pub place_within : (peer i : ℕ) (rows : List PeerLines) → position (is_of peer) rows ≡ Some i → i < length rows
place_within peer i rows found = (position-Some (is_of peer) rows i no_row found).0

-- what becomes of the row at the peer's place becomes of the peer's row
pub placed : (peer i : ℕ) (becomes : PeerLines → PeerLines) (rows : List PeerLines) → position (is_of peer) rows ≡ Some i
    → with_place i becomes rows ≡ with_row peer becomes rows
placed peer i becomes rows found =
    let at = position-Some (is_of peer) rows i no_row found in
    first_placed peer becomes rows i no_row at.0 at.1 at.2

-- and that is the first row of the peer
pub row_found : (peer i : ℕ) (rows : List PeerLines) → position (is_of peer) rows ≡ Some i → find (is_of peer) rows ≡ slice_get rows i
row_found peer i rows found =
    let at = position-Some (is_of peer) rows i no_row found in
    first_found (is_of peer) rows i no_row at.0 at.1 at.2

-- ---- nowhere

pub found_none : {A : Type 0} (test : A → Bool) (xs : List A) → list_any test xs ≡ false → find test xs ≡ None
found_none test [] none = refl
found_none test (x ∷ xs) none = by_test (test x) none (found_none test xs)
  where
    by_test : (b : Bool) → b || list_any test xs ≡ false → (list_any test xs ≡ false → find test xs ≡ None) → cond b (Some x) (find test xs) ≡ None
    by_test true none rest = absurd (false≢true (sym none))
    by_test false none rest = rest none

pub row_nowhere : (peer : ℕ) (becomes : PeerLines → PeerLines) (rows : List PeerLines) → list_any (is_of peer) rows ≡ false → with_row peer becomes rows ≡ rows
row_nowhere peer becomes [] none = refl
row_nowhere peer becomes (row ∷ rows) none = by_test (is_of peer row) none (row_nowhere peer becomes rows)
  where
    by_test : (b : Bool) → b || list_any (is_of peer) rows ≡ false → (list_any (is_of peer) rows ≡ false → with_row peer becomes rows ≡ rows)
        → cond b (becomes row ∷ rows) (row ∷ with_row peer becomes rows) ≡ row ∷ rows
    by_test true none rest = absurd (false≢true (sym none))
    by_test false none rest = ap (λ rs. row ∷ rs) (rest none)

none_from : {A : Type 0} (test : A → Bool) (n : ℕ) (xs : List A) → position_from test n xs ≡ None → list_any test xs ≡ false
none_from test n [] none = refl
none_from test n (x ∷ xs) none = by_test (test x) none (none_from test (n + 1) xs)
  where
    by_test : (b : Bool) → cond b (Some n) (position_from test (n + 1) xs) ≡ None → (position_from test (n + 1) xs ≡ None → list_any test xs ≡ false)
        → b || list_any test xs ≡ false
    by_test true none rest = cc none
    by_test false none rest = rest none

pub none_any : {A : Type 0} (test : A → Bool) (xs : List A) → position test xs ≡ None → list_any test xs ≡ false
none_any test xs none = none_from test 0 xs (sym (position_from-zero test xs) ∙ none)

pub answered : (b : Bool) (row : Option PeerLines) → Some b ≡ option_map has_room row → taken_in row ≡ cond b (Ok tt) (Err Third)
answered b None is = cc is
answered b (Some row) is = ap (λ c. cond c (Ok tt) (Err Third)) (sym (one_there b (has_room row) is))

-- ---- one row more

pub at_any : {A : Type 0} (xs : List A) (i : ℕ) (d : A) → i < length xs → get_or xs i d ≡ get_or xs i (get_or xs i d)
at_any xs i d within = get_or_default xs i d (get_or xs i d) within

pub nowhere_in : (conn i : ℕ) (rows : List PeerLines) → length rows ≤ i → list_any (is_number conn) (all_lines (take i rows)) ≡ false
    → find (is_number conn) (all_lines rows) ≡ None
nowhere_in conn i rows over none =
    found_none (is_number conn) (all_lines rows)
    (sym (ap (λ rs. list_any (is_number conn) (all_lines rs)) (take_all i rows over)) ∙ none)

-- a place at which something stands is one of the rows
pub row_within : {A B : Type 0} (f : A → Option B) (xs : List A) (i : ℕ) → is_some (option_and_then f (slice_get xs i)) ≡ true → i < length xs
row_within f [] i is = absurd (false≢true is)
row_within f (x ∷ xs) zero is = omega arith
row_within f (x ∷ xs) (suc i) is = let rest = row_within f xs i is in omega (arith, rest)

-- ---- a connection that stands at a place

pub is_there : (conn : ℕ) (place : LinePlace) (rows : List PeerLines) → IsAt conn place rows → is_some (conn_at place rows) ≡ true
is_there conn place rows at = ap (λ (o : Option Line). is_some (option_map conn_of o)) at.there

pub conn_is : (conn : ℕ) (place : LinePlace) (rows : List PeerLines) → IsAt conn place rows → conn_at place rows ≡ Some conn
conn_is conn place rows at = ap (option_map conn_of) at.there ∙ ap Some at.own
