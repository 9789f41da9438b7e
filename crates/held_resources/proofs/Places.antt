-- One client of a list, found by its cuid.
use Rattle.std.proofs.Common.{◌≡◌, ℕ, suc, zero, ◌+◌, ◌<◌, ◌≤◌, Bool, true, false, cond, not, ◌||◌, List, [], ◌∷◌, ◌++◌, map, filter, length, set, get_or, Option, Some, None, inl, inr, refl, sym, ap, ◌∙◌, subst, append-nil, length-append, arith}
use Rattle.std.specs.Prelude.{position, slice_get, nat_lt, nat_le, is_some, option_to_list}
use Rattle.std.specs.List.{list_any, find, remove, position_or_len}
use Rattle.std.proofs.lemmas.Bool.{false≢true, cond_both, cond-true, cond-false, or_parts, or_from, not_from_true, not_from_false, ltb-true, ltb-false, le-ltb, lt-ltb, le-leb, lt-leb, cases_lt}
use Rattle.std.proofs.lemmas.Option.{none-some, cond_some, slice_get_read}
use Rattle.std.proofs.lemmas.List.Folds.{find_at, list_any_none}
use Rattle.std.proofs.lemmas.List.Sums.{fails_before_first}
use Rattle.std.proofs.lemmas.List.{length-set, length-map, get_or_default}
use Rattle.std.proofs.lemmas.List.Edits.{length-remove}
use Rattle.std.proofs.lemmas.List.Quantifiers.{position-Some}
use Rattle.std.proofs.lemmas.Slice.Eq.{bytes_eq-Decides}
use Rattle.dots_history.specs.declared.change.Change.{Change}
use Rattle.dots_history.specs.declared.change.Change.TheVariants as change
use Rattle.dots_history.specs.Capacities.{is_registration}
use Rattle.held_resources.specs.declared.rooms.Rooms.{Rooms}
use Rattle.held_resources.specs.Tables.{Holding, Clients, no_holding, holding_with, has_cuid, changed, list_with, AreApart, AreEmpty, HaveRooms}
use Rattle.held_resources.proofs.Holdings.{turned_bytes, unchanged}

-- ---- a place
pub none_there : {A : Type 0} (p : A → Bool) (xs : List A) → position p xs ≡ None → list_any p xs ≡ false
none_there p xs is =
    let past : nat_lt (position_or_len p xs) (length xs) ≡ false = by_test (nat_lt (position_or_len p xs) (length xs)) (position_or_len p xs) is in
    let le : length xs ≤ position_or_len p xs = ltb-false (position_or_len p xs) (length xs) past in
    list_any_none p xs (λ k d lt. fails_before_first p xs k d (omega (arith, le, lt)))
  where
    by_test : (b : Bool) (n : ℕ) → cond b (Some n) None ≡ None → b ≡ false
    by_test true n is = absurd (none-some n (sym is))
    by_test false n is = refl

pub found : {A : Type 0} (p : A → Bool) (xs : List A) (i : ℕ) (x : A) → position p xs ≡ Some i → x ≡ get_or xs i x → find p xs ≡ Some x
found p xs i x is at =
    let parts = cond_some (nat_lt (position_or_len p xs) (length xs)) (position_or_len p xs) i is in
    let within : i < length xs = subst (λ n. n < length xs) parts.1 (ltb-true (position_or_len p xs) (length xs) parts.0) in
    find_at p xs ∙ ap (slice_get xs) parts.1 ∙ slice_get_read xs (length xs) i x refl within at

-- ---- of clients that are apart
none_else : (cuid : List ℕ) (h : Holding) (hs : List Holding) → has_cuid cuid h ≡ true → list_any (has_cuid h.cuid) hs ≡ false → list_any (has_cuid cuid) hs ≡ false
none_else cuid h hs is none = ap (λ c. list_any (has_cuid c) hs) ((bytes_eq-Decides cuid h.cuid).0 is) ∙ none

pub all_left : (cuid : List ℕ) (hs : List Holding) → list_any (has_cuid cuid) hs ≡ false → filter (λ h. not (has_cuid cuid h)) hs ≡ hs
all_left cuid [] none = refl
all_left cuid (h ∷ hs) none =
    let parts = or_parts (has_cuid cuid h) (list_any (has_cuid cuid) hs) none in
    let rest = filter (λ h. not (has_cuid cuid h)) hs in
    cond-true (not (has_cuid cuid h)) (h ∷ rest) rest (not_from_false (has_cuid cuid h) parts.0) ∙ ap (λ xs. h ∷ xs) (all_left cuid hs parts.1)

at_place : (cuid : List ℕ) (c : Change) (hs : List Holding) (i : ℕ) (d : Holding) → i < length hs → has_cuid cuid (get_or hs i d) ≡ true
    → ((k : ℕ) → k < i → has_cuid cuid (get_or hs k d) ≡ false) → AreApart hs → set hs i (holding_with c (get_or hs i d)) ≡ map (changed cuid c) hs
at_place cuid c [] i d within is before apart = absurd (omega (arith, within))
at_place cuid c (h ∷ hs) zero d within is before apart =
    ap (λ x. x ∷ hs) (sym (cond-true (has_cuid cuid h) (holding_with c h) h is))
    ∙ ap (λ xs. changed cuid c h ∷ xs) (sym (unchanged cuid c hs (none_else cuid h hs is apart.0)))
at_place cuid c (h ∷ hs) (suc i) d within is before apart =
    ap (λ x. x ∷ set hs i (holding_with c (get_or hs i d))) (sym (cond-false (has_cuid cuid h) (holding_with c h) h (before zero (omega arith))))
    ∙ ap (λ xs. changed cuid c h ∷ xs) (at_place cuid c hs i d (omega (arith, within)) is (λ k lt. before (suc k) (omega (arith, lt))) apart.1)

pub changed_there : (cuid : List ℕ) (c : Change) (hs : List Holding) (i : ℕ) (h : Holding) → position (has_cuid cuid) hs ≡ Some i → h ≡ get_or hs i h → AreApart hs
    → set hs i (holding_with c h) ≡ map (changed cuid c) hs
changed_there cuid c hs i h is at apart =
    let facts = position-Some (has_cuid cuid) hs i h is in
    ap (λ x. set hs i (holding_with c x)) at ∙ at_place cuid c hs i h facts.0 facts.1 facts.2 apart

out_of_place : (cuid : List ℕ) (hs : List Holding) (i : ℕ) (d : Holding) → i < length hs → has_cuid cuid (get_or hs i d) ≡ true
    → ((k : ℕ) → k < i → has_cuid cuid (get_or hs k d) ≡ false) → AreApart hs → remove hs i ≡ filter (λ h. not (has_cuid cuid h)) hs
out_of_place cuid [] i d within is before apart = absurd (omega (arith, within))
out_of_place cuid (h ∷ hs) zero d within is before apart =
    let rest = filter (λ h. not (has_cuid cuid h)) hs in
    sym (all_left cuid hs (none_else cuid h hs is apart.0))
    ∙ sym (cond-false (not (has_cuid cuid h)) (h ∷ rest) rest (not_from_true (has_cuid cuid h) is))
out_of_place cuid (h ∷ hs) (suc i) d within is before apart =
    let rest = filter (λ h. not (has_cuid cuid h)) hs in
    ap (λ xs. h ∷ xs) (out_of_place cuid hs i d (omega (arith, within)) is (λ k lt. before (suc k) (omega (arith, lt))) apart.1)
    ∙ sym (cond-true (not (has_cuid cuid h)) (h ∷ rest) rest (not_from_false (has_cuid cuid h) (before zero (omega arith))))

pub left_there : (cuid : List ℕ) (hs : List Holding) (i : ℕ) (d : Holding) → position (has_cuid cuid) hs ≡ Some i → AreApart hs
    → remove hs i ≡ filter (λ h. not (has_cuid cuid h)) hs
left_there cuid hs i d is apart =
    let facts = position-Some (has_cuid cuid) hs i d is in
    out_of_place cuid hs i d facts.0 facts.1 facts.2 apart

-- ---- what stays of clients
pub apart_pushed : (hs : List Holding) (x : Holding) → AreApart hs → list_any (has_cuid x.cuid) hs ≡ false → AreApart (hs ++ x ∷ [])
apart_pushed [] x apart none = (refl, record {})
apart_pushed (h ∷ hs) x apart none =
    let parts = or_parts (has_cuid x.cuid h) (list_any (has_cuid x.cuid) hs) none in
    (none_pushed hs apart.0 (turned_bytes h.cuid x.cuid ∙ parts.0), apart_pushed hs x apart.1 parts.1)
  where
    none_pushed : (ys : List Holding) → list_any (has_cuid h.cuid) ys ≡ false → has_cuid h.cuid x ≡ false → list_any (has_cuid h.cuid) (ys ++ x ∷ []) ≡ false
    none_pushed [] none last = or_from (has_cuid h.cuid x) false last refl
    none_pushed (y ∷ ys) none last =
        let parts = or_parts (has_cuid h.cuid y) (list_any (has_cuid h.cuid) ys) none in
        or_from (has_cuid h.cuid y) (list_any (has_cuid h.cuid) (ys ++ x ∷ [])) parts.0 (none_pushed ys parts.1 last)

same_cuid : (cuid other : List ℕ) (c : Change) (h : Holding) → has_cuid other (changed cuid c h) ≡ has_cuid other h
same_cuid cuid other c h = cond_both (has_cuid cuid h) (holding_with c h) h (λ x. has_cuid other x ≡ has_cuid other h) (λ is. refl) (λ out. refl)

same_any : (cuid other : List ℕ) (c : Change) (hs : List Holding) → list_any (has_cuid other) (map (changed cuid c) hs) ≡ list_any (has_cuid other) hs
same_any cuid other c [] = refl
same_any cuid other c (h ∷ hs) =
    ap (λ b. b || list_any (has_cuid other) (map (changed cuid c) hs)) (same_cuid cuid other c h)
    ∙ ap (λ b. has_cuid other h || b) (same_any cuid other c hs)

pub apart_changed : (cuid : List ℕ) (c : Change) (hs : List Holding) → AreApart hs → AreApart (map (changed cuid c) hs)
apart_changed cuid c [] apart = record {}
apart_changed cuid c (h ∷ hs) apart = (
  cond_both
      (has_cuid cuid h)
      (holding_with c h)
      h
      (λ x. list_any (has_cuid x.cuid) (map (changed cuid c) hs) ≡ false)
      (λ is. same_any cuid h.cuid c hs ∙ apart.0)
      (λ out. same_any cuid h.cuid c hs ∙ apart.0),
  apart_changed cuid c hs apart.1,
)

none_filtered : (other : List ℕ) (test : Holding → Bool) (hs : List Holding) → list_any (has_cuid other) hs ≡ false → list_any (has_cuid other) (filter test hs) ≡ false
none_filtered other test [] none = refl
none_filtered other test (h ∷ hs) none =
    let parts = or_parts (has_cuid other h) (list_any (has_cuid other) hs) none in
    let go = none_filtered other test hs parts.1 in
    cond_both
    (test h)
    (h ∷ filter test hs)
    (filter test hs)
    (λ xs. list_any (has_cuid other) xs ≡ false)
    (λ is. or_from (has_cuid other h) (list_any (has_cuid other) (filter test hs)) parts.0 go)
    (λ out. go)

pub apart_filtered : (test : Holding → Bool) (hs : List Holding) → AreApart hs → AreApart (filter test hs)
apart_filtered test [] apart = record {}
apart_filtered test (h ∷ hs) apart =
    let go = apart_filtered test hs apart.1 in
    cond_both
    (test h)
    (h ∷ filter test hs)
    (filter test hs)
    AreApart
    (λ is. (none_filtered h.cuid test hs apart.0, go))
    (λ out. go)

pub rooms_pushed : (rooms : Rooms) (hs : List Holding) (x : Holding) → HaveRooms rooms hs → x.rooms ≡ rooms → HaveRooms rooms (hs ++ x ∷ [])
rooms_pushed rooms [] x have is = (is, record {})
rooms_pushed rooms (h ∷ hs) x have is = (have.0, rooms_pushed rooms hs x have.1 is)

pub rooms_changed : (rooms : Rooms) (cuid : List ℕ) (c : Change) (hs : List Holding) → HaveRooms rooms hs → HaveRooms rooms (map (changed cuid c) hs)
rooms_changed rooms cuid c [] have = record {}
rooms_changed rooms cuid c (h ∷ hs) have =
    (cond_both (has_cuid cuid h) (holding_with c h) h (λ x. x.rooms ≡ rooms) (λ is. have.0) (λ out. have.0), rooms_changed rooms cuid c hs have.1)

pub rooms_filtered : (rooms : Rooms) (test : Holding → Bool) (hs : List Holding) → HaveRooms rooms hs → HaveRooms rooms (filter test hs)
rooms_filtered rooms test [] have = record {}
rooms_filtered rooms test (h ∷ hs) have =
    let go = rooms_filtered rooms test hs have.1 in
    cond_both (test h) (h ∷ filter test hs) (filter test hs) (HaveRooms rooms) (λ is. (have.0, go)) (λ out. go)

pub rooms_at : (rooms : Rooms) (hs : List Holding) (i : ℕ) (d : Holding) → i < length hs → HaveRooms rooms hs → (get_or hs i d).rooms ≡ rooms
rooms_at rooms [] i d within have = absurd (omega (arith, within))
rooms_at rooms (h ∷ hs) zero d within have = have.0
rooms_at rooms (h ∷ hs) (suc i) d within have = rooms_at rooms hs i d (omega (arith, within)) have.1

pub fresh_is : (rooms : Rooms) (x : Holding) → x ≡ no_holding rooms 0 [] → x ≡ no_holding rooms x.peer x.cuid
fresh_is rooms x is =
    is
    ∙ ap (λ p. no_holding rooms p []) (sym (ap (λ (h : Holding). h.peer) is))
    ∙ ap (no_holding rooms x.peer) (sym (ap (λ (h : Holding). h.cuid) is))

pub empty_pushed : (rooms : Rooms) (hs : List Holding) (x : Holding) → AreEmpty rooms hs → x ≡ no_holding rooms x.peer x.cuid → AreEmpty rooms (hs ++ x ∷ [])
empty_pushed rooms [] x empty is = (is, record {})
empty_pushed rooms (h ∷ hs) x empty is = (empty.0, empty_pushed rooms hs x empty.1 is)

pub empty_popped : (rooms : Rooms) (hs : List Holding) (x : Holding) → AreEmpty rooms (hs ++ x ∷ []) → AreEmpty rooms hs × (x ≡ no_holding rooms x.peer x.cuid)
empty_popped rooms [] x empty = (record {}, empty.0)
empty_popped rooms (h ∷ hs) x empty = let rest = empty_popped rooms hs x empty.1 in ((empty.0, rest.0), rest.1)

-- ---- what the calls keep
abbrev Keeps : Rooms → List Holding → List Holding → Type 0
Keeps rooms list spare = (length list + length spare ≡ rooms.clients) × AreApart list × HaveRooms rooms list × AreEmpty rooms spare

pub register_keeps : (rooms : Rooms) (list spare after left : List Holding) (x y : Holding) (peer : ℕ) (cuid : List ℕ)
    → length list + length spare ≡ rooms.clients → AreApart list → HaveRooms rooms list → AreEmpty rooms spare
    → spare ≡ left ++ x ∷ [] → y ≡ record x { peer = peer; cuid = cuid } → after ≡ list ++ y ∷ [] → list_any (has_cuid cuid) list ≡ false
    → Keeps rooms after left × (after ≡ list ++ no_holding rooms peer cuid ∷ [])
register_keeps rooms list spare after left x y peer cuid sum apart have empty popped named pushed fresh =
    let parts = empty_popped rooms left x (subst (AreEmpty rooms) popped empty) in
    let named_so : y ≡ no_holding rooms peer cuid = named ∙ ap (λ (h : Holding). record h { peer = peer; cuid = cuid }) parts.1 in
    let is : after ≡ list ++ no_holding rooms peer cuid ∷ [] = pushed ∙ ap (λ h. list ++ h ∷ []) named_so in
    let a = ap length is in
    let b = length-append list (no_holding rooms peer cuid ∷ []) in
    let d = ap length popped in
    let e = length-append left (x ∷ []) in (
      (
        omega (arith, sum, a, b, d, e),
        subst AreApart (sym is) (apart_pushed list (no_holding rooms peer cuid) apart fresh),
        subst (HaveRooms rooms) (sym is) (rooms_pushed rooms list (no_holding rooms peer cuid) have refl),
        parts.0,
      ),
      is,
    )

pub deregister_keeps : (rooms : Rooms) (list spare after more : List Holding) (x y : Holding) (place : ℕ) (cuid : List ℕ)
    → length list + length spare ≡ rooms.clients → AreApart list → HaveRooms rooms list → AreEmpty rooms spare
    → position (has_cuid cuid) list ≡ Some place → x ≡ get_or list place x → after ≡ remove list place → y ≡ no_holding x.rooms x.peer x.cuid → more ≡ spare ++ y ∷ []
    → Keeps rooms after more × (after ≡ filter (λ h. not (has_cuid cuid h)) list)
deregister_keeps rooms list spare after more x y place cuid sum apart have empty found at removed cleared pushed =
    let facts = position-Some (has_cuid cuid) list place x found in
    let is : after ≡ filter (λ h. not (has_cuid cuid h)) list = removed ∙ left_there cuid list place x found apart in
    let rooms_is : x.rooms ≡ rooms = ap (λ (h : Holding). h.rooms) at ∙ rooms_at rooms list place x facts.0 have in
    let cleared_so : y ≡ no_holding rooms x.peer x.cuid = cleared ∙ ap (λ r. no_holding r x.peer x.cuid) rooms_is in
    let same_peer : y.peer ≡ x.peer = ap (λ (h : Holding). h.peer) cleared_so in
    let same_cuid : y.cuid ≡ x.cuid = ap (λ (h : Holding). h.cuid) cleared_so in
    let a = ap length removed in
    let b = length-remove list place facts.0 in
    let d = ap length pushed in
    let e = length-append spare (y ∷ []) in (
      (
        omega (arith, sum, a, b, d, e),
        subst AreApart (sym is) (apart_filtered (λ h. not (has_cuid cuid h)) list apart),
        subst (HaveRooms rooms) (sym is) (rooms_filtered rooms (λ h. not (has_cuid cuid h)) list have),
        subst (AreEmpty rooms) (sym pushed) (empty_pushed rooms spare y empty (cleared_so ∙ ap (λ p. no_holding rooms p x.cuid) (sym same_peer) ∙ ap (no_holding rooms y.peer) (sym same_cuid))),
      ),
      is,
    )

pub change_keeps : (rooms : Rooms) (list spare after : List Holding) (x : Holding) (place : ℕ) (cuid : List ℕ) (c : Change)
    → length list + length spare ≡ rooms.clients → AreApart list → HaveRooms rooms list → AreEmpty rooms spare
    → position (has_cuid cuid) list ≡ Some place → x ≡ get_or list place x → after ≡ set list place (holding_with c x)
    → Keeps rooms after spare × (after ≡ map (changed cuid c) list)
change_keeps rooms list spare after x place cuid c sum apart have empty found at put =
    let is : after ≡ map (changed cuid c) list = put ∙ changed_there cuid c list place x found at apart in
    let a = ap length put in
    let b = length-set list place (holding_with c x) in (
      (
        omega (arith, sum, a, b),
        subst AreApart (sym is) (apart_changed cuid c list apart),
        subst (HaveRooms rooms) (sym is) (rooms_changed rooms cuid c list have),
        empty,
      ),
      is,
    )

-- nothing changes where nobody has the cuid
pub deregister_none : (cuid : List ℕ) (list : List Holding) → position (has_cuid cuid) list ≡ None → filter (λ h. not (has_cuid cuid h)) list ≡ list
deregister_none cuid list is = all_left cuid list (none_there (has_cuid cuid) list is)

pub change_none : (cuid : List ℕ) (c : Change) (list : List Holding) → position (has_cuid cuid) list ≡ None → map (changed cuid c) list ≡ list
change_none cuid c list is = unchanged cuid c list (none_there (has_cuid cuid) list is)

-- ---- numbers
lt_le : (a m : ℕ) → nat_lt a m ≡ nat_le (a + 1) m
lt_le a m =
    elim (cases_lt a m) [
      | inl lt ↦ lt-ltb a m lt ∙ sym (le-leb (a + 1) m (omega (arith, lt)))
      | inr ge ↦ le-ltb a m ge ∙ sym (lt-leb (a + 1) m (omega (arith, ge)))
    ]

pub one_more_fits : {A : Type 0} (xs : List A) (x : A) (m : ℕ) → nat_lt (length xs) m ≡ nat_le (length (xs ++ x ∷ [])) m
one_more_fits xs x m = lt_le (length xs) m ∙ ap (λ n. nat_le n m) (sym (length-append xs (x ∷ [])))

pub written_fits : {A : Type 0} (xs : List A) (o : Option A) (m : ℕ) → is_some o ≡ true → nat_lt (length xs) m ≡ nat_le (length (xs ++ option_to_list o)) m
written_fits xs None m is = absurd (false≢true is)
written_fits xs (Some x) m is = one_more_fits xs x m

pub nothing_fits : {A : Type 0} (xs : List A) (o : Option A) (m : ℕ) → is_some o ≡ false → nat_le (length xs) m ≡ nat_le (length (xs ++ option_to_list o)) m
nothing_fits xs None m out = ap (λ ys. nat_le (length ys) m) (sym (append-nil xs))
nothing_fits xs (Some x) m out = absurd (false≢true (sym out))

length_filtered : (test : Holding → Bool) (xs : List Holding) → length (filter test xs) ≤ length xs
length_filtered test [] = omega arith
length_filtered test (x ∷ xs) =
    let go = length_filtered test xs in
    cond_both (test x) (x ∷ filter test xs) (filter test xs) (λ ys. length ys ≤ length (x ∷ xs)) (λ is. omega (arith, go)) (λ out. omega (arith, go))

-- one that doesn't register adds no client
pub number_within : (rooms : Rooms) (peer : ℕ) (cuid : List ℕ) (c : Change) (list spare : List Holding) → length list + length spare ≡ rooms.clients
    → is_registration c ≡ false → nat_le (length (list_with rooms peer cuid c list)) rooms.clients ≡ true
unfolding is_registration
number_within rooms peer cuid change.Register list spare sum out = absurd (false≢true (sym out))
number_within rooms peer cuid change.Deregister list spare sum out =
    let few = length_filtered (λ h. not (has_cuid cuid h)) list in
    le-leb (length (filter (λ h. not (has_cuid cuid h)) list)) rooms.clients (omega (arith, few, sum))
number_within rooms peer cuid c list spare sum out =
    let same = length-map list (changed cuid c) in
    le-leb (length (map (changed cuid c) list)) rooms.clients (omega (arith, same, sum))

pub number_more : (rooms : Rooms) (peer : ℕ) (cuid : List ℕ) (c : Change) (list : List Holding) → is_registration c ≡ true
    → nat_lt (length list) rooms.clients ≡ nat_le (length (list_with rooms peer cuid c list)) rooms.clients
unfolding is_registration
number_more rooms peer cuid change.Register list is = one_more_fits list (no_holding rooms peer cuid) rooms.clients
number_more rooms peer cuid _ list is = absurd (false≢true is)

abbrev pub clients_by : Rooms → List Holding → Clients
clients_by rooms list = record { rooms = rooms; list = list }

-- what stands at a place, whatever the default
pub at_any : {A : Type 0} (xs : List A) (i : ℕ) (d : A) → i < length xs → get_or xs i d ≡ get_or xs i (get_or xs i d)
at_any xs i d within = get_or_default xs i d (get_or xs i d) within
