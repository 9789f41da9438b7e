-- How many live mitigations there are after an entry.
use Rattle.std.proofs.Common.{◌≡◌, ℕ, ◌+◌, ◌<◌, ◌≤◌, Bool, true, false, cond, ◌&&◌, List, [], ◌∷◌, ◌++◌, map, length, Some, refl, sym, ap, ◌∙◌, arith}
use Rattle.std.specs.Prelude.{slice_get, ◌==◌, nat_le, bytes_eq}
use Rattle.std.proofs.lemmas.Bool.{cond_both, and_parts, and_from, eq-eqb, eqb-true, leb-true, both_ways}
use Rattle.std.proofs.lemmas.Slice.Eq.{bytes_eq-Decides}
use Rattle.dots_history.specs.declared.entry.Entry.{Entry}
use Rattle.dots_history.specs.declared.status.Status.{Status}
use Rattle.dots_history.specs.declared.status.Status.TheVariants.{Ended, Open, Withdrawn}
use Rattle.dots_history.specs.Entries.{same_client, runs}
use Rattle.dots_history.specs.Histories.{Mitigation, live, tally, mitigations}
use Rattle.dots_history.specs.Keeping.{moved}
use Rattle.dots_history.specs.Tables.{bare, bare_mitigation}
use Rattle.dots_history.specs.Views.{mitigations_at, mitigations_with, mitigations_of}
use Rattle.dots_history.proofs.Apart.{apart}
use Rattle.dots_history.proofs.Bare.{bare_mitigations}
use Rattle.live_mitigations.specs.Rows.{LiveTable, rows_or_none, of_entry, is_left, lives_at_first}
use Rattle.live_mitigations.specs.LiveValues.{LiveValue, AreTables, rows_for, Represents, keeps_limits, has_live_room}
use Rattle.conflict_rules.specs.Lives.{live_of, lives_of}
use Rattle.conflict_rules.specs.LiveViews.{live_view, of_cuid, live_views_of, live_views_in}
use Rattle.live_mitigations.proofs.Rows.{grown_rows}
use Rattle.live_mitigations.proofs.LiveValues.{own_with}

tally_append : {A : Type 0} → (test : A → Bool) (xs ys : List A) → tally test (xs ++ ys) ≡ tally test xs + tally test ys
tally_append test [] ys = omega arith
tally_append test (x ∷ xs) ys = let go = tally_append test xs ys in omega (arith, go)

both_tests : (a b : Bool) (n : ℕ) → cond a (cond b 1 0 + n) n ≡ cond (a && b) 1 0 + n
both_tests true b n = refl
both_tests false b n = omega arith

-- those that are left of what was there
tally_left : (test : Entry → Bool) (e : Entry) (ms : List Mitigation)
    → tally (λ (m : Mitigation). test m.put) (mitigations_at e.time (map (moved e) ms)) ≡ tally (λ (m : Mitigation). is_left e m && test m.put) ms
tally_left test e [] = refl
tally_left test e (m ∷ ms) =
    cond_both
    (is_left e m)
    (moved e m ∷ mitigations_at e.time (map (moved e) ms))
    (mitigations_at e.time (map (moved e) ms))
    (λ xs. tally (λ (x : Mitigation). test x.put) xs ≡ cond (is_left e m && test m.put) 1 0 + tally (λ (x : Mitigation). is_left e x && test x.put) ms)
    (λ is. ap (λ n. cond (test m.put) 1 0 + n) (tally_left test e ms) ∙ ap (λ b. cond (b && test m.put) 1 0 + tally (λ (x : Mitigation). is_left e x && test x.put) ms) (sym is))
    (λ out.
    let nought : ℕ = 0 in
    let none : cond (is_left e m && test m.put) 1 0 ≡ nought = ap (λ b. cond (b && test m.put) 1 0) out in
    let go = tally_left test e ms in
    omega (arith, none, go))

-- and the entry's own
tally_own : (test : Entry → Bool) (e : Entry) → test (bare e) ≡ true → tally (λ (m : Mitigation). test m.put) (of_entry (bare e)) ≡ cond (live e.time (bare e) Open) 1 0
tally_own test e is =
    cond_both
    (live e.time (bare e) Open)
    (record { put = bare e; status = Open } ∷ [])
    []
    (λ xs. tally (λ (m : Mitigation). test m.put) xs ≡ cond (live e.time (bare e) Open) 1 0)
    (λ now. ap (λ b. cond b 1 0 + 0) is ∙ sym (ap (λ b. cond b 1 0) now))
    (λ dead. sym (ap (λ b. cond b 1 0) dead))

tally_grown : (test : Entry → Bool) (e : Entry) (ms : List Mitigation) → test (bare e) ≡ true
    → tally (λ (m : Mitigation). test m.put) (mitigations_with (bare e) ms) ≡ tally (λ (m : Mitigation). is_left e m && test m.put) ms + cond (live e.time (bare e) Open) 1 0
tally_grown test e ms is =
    ap (tally (λ (m : Mitigation). test m.put)) (grown_rows e ms)
    ∙ tally_append (λ (m : Mitigation). test m.put) (mitigations_at e.time (map (moved e) ms)) (of_entry (bare e))
    ∙ ap (λ n. n + tally (λ (m : Mitigation). test m.put) (of_entry (bare e))) (tally_left test e ms)
    ∙ ap (λ n. tally (λ (m : Mitigation). is_left e m && test m.put) ms + n) (tally_own test e is)

-- a test that only those of a domain pass counts the same in the domain
tally_of : (test : Entry → Bool) (domain : ℕ) (ms : List Mitigation) → ((p : Entry) → test (bare p) ≡ test p) → ((p : Entry) → test p ≡ true → (p.domain == domain) ≡ true)
    → tally (λ (m : Mitigation). test m.put) (mitigations_of domain (map bare_mitigation ms)) ≡ tally (λ (m : Mitigation). test m.put) ms
tally_of test domain [] same own = refl
tally_of test domain (m ∷ ms) same own =
    let go = tally_of test domain ms same own in
    cond_both
    (m.put.domain == domain)
    (bare_mitigation m ∷ mitigations_of domain (map bare_mitigation ms))
    (mitigations_of domain (map bare_mitigation ms))
    (λ xs. tally (λ (x : Mitigation). test x.put) xs ≡ cond (test m.put) 1 0 + tally (λ (x : Mitigation). test x.put) ms)
    (λ is. ap (λ b. cond b 1 0 + tally (λ (x : Mitigation). test x.put) (mitigations_of domain (map bare_mitigation ms))) (same m.put) ∙ ap (λ n. cond (test m.put) 1 0 + n) go)
    (λ out.
    let nought : ℕ = 0 in
    let none : cond (test m.put) 1 0 ≡ nought = cond_both (test m.put) 1 0 (λ n. n ≡ 0) (λ is. absurd (both_ways (m.put.domain == domain) out (own m.put is))) (λ no. refl) in
    omega (arith, none, go))

and_true : (b : Bool) → (b && true) ≡ b
and_true true = refl
and_true false = refl

-- in those of a domain that they are of it is no further test
tally_in : (test : Mitigation → Bool) (domain : ℕ) (ms : List Mitigation)
    → tally (λ (m : Mitigation). test m && (m.put.domain == domain)) (mitigations_of domain ms) ≡ tally test (mitigations_of domain ms)
tally_in test domain [] = refl
tally_in test domain (m ∷ ms) =
    let go = tally_in test domain ms in
    cond_both
    (m.put.domain == domain)
    (m ∷ mitigations_of domain ms)
    (mitigations_of domain ms)
    (λ xs. tally (λ (x : Mitigation). test x && (x.put.domain == domain)) xs ≡ tally test xs)
    (λ is. ap (λ b. cond (test m && b) 1 0 + tally (λ (x : Mitigation). test x && (x.put.domain == domain)) (mitigations_of domain ms)) is
    ∙ ap (λ b. cond b 1 0 + tally (λ (x : Mitigation). test x && (x.put.domain == domain)) (mitigations_of domain ms)) (and_true (test m))
    ∙ ap (λ n. cond (test m) 1 0 + n) go)
    (λ out. go)

-- what is kept of the entry's domain after it, by the history
pub after_is : (live : LiveValue) (entries : List Entry) (e : Entry) → live.time ≤ e.time → e.domain < live.domains → Represents live entries
    → mitigations_with (bare e) (rows_for live e.domain) ≡ mitigations_of e.domain (map bare_mitigation (mitigations e.time (entries ++ e ∷ [])))
after_is live entries e later within stands =
    ap (mitigations_with (bare e)) (stands.rows e.domain within)
    ∙ sym (own_with live.time entries e later)
    ∙ apart e.domain e.time (map bare (entries ++ e ∷ []))
    ∙ ap (mitigations_of e.domain) (bare_mitigations e.time (entries ++ e ∷ []))

first_bare : (e : Entry) → live e.time (bare e) Open ≡ live e.time e Open
unfolding runs
first_bare e = refl

counted : (test : Entry → Bool) (live : LiveValue) (entries : List Entry) (e : Entry) → live.time ≤ e.time → e.domain < live.domains → Represents live entries
    → ((p : Entry) → test (bare p) ≡ test p) → ((p : Entry) → test p ≡ true → (p.domain == e.domain) ≡ true) → test (bare e) ≡ true
    → tally (λ (m : Mitigation). test m.put) (mitigations e.time (entries ++ e ∷ []))
    ≡ tally (λ (m : Mitigation). is_left e m && test m.put) (rows_for live e.domain) + cond (lives_at_first e) 1 0
counted test live entries e later within stands same own is =
    sym (tally_of test e.domain (mitigations e.time (entries ++ e ∷ [])) same own)
    ∙ ap (tally (λ (m : Mitigation). test m.put)) (sym (after_is live entries e later within stands))
    ∙ tally_grown test e (rows_for live e.domain) is
    ∙ ap (λ b. tally (λ (m : Mitigation). is_left e m && test m.put) (rows_for live e.domain) + cond b 1 0) (first_bare e)

pub rows_are_live : (live : LiveValue) (entries : List Entry) (domain : ℕ) → domain < live.domains → Represents live entries
    → rows_for live domain ≡ mitigations_of domain (mitigations live.time (map bare entries))
rows_are_live live entries domain within stands = stands.rows domain within ∙ apart domain live.time (map bare entries)

same_domain : (e p : Entry) → same_client e p ≡ true → (p.domain == e.domain) ≡ true
unfolding same_client
same_domain e p is =
    let parts = and_parts (e.domain == p.domain) (bytes_eq e.cuid p.cuid) is in
    eq-eqb p.domain e.domain (sym (eqb-true e.domain p.domain parts.0))

own_client : (e : Entry) → same_client e (bare e) ≡ true
unfolding same_client
own_client e = and_from (e.domain == e.domain) (bytes_eq e.cuid e.cuid) (eq-eqb e.domain e.domain refl) ((bytes_eq-Decides e.cuid e.cuid).1 refl)

bare_client : (e p : Entry) → same_client e (bare p) ≡ same_client e p
unfolding same_client
bare_client e p = refl

domain_count : (live : LiveValue) (entries : List Entry) (e : Entry) → live.time ≤ e.time → e.domain < live.domains → Represents live entries
    → tally (λ (m : Mitigation). m.put.domain == e.domain) (mitigations e.time (entries ++ e ∷ []))
    ≡ tally (is_left e) (rows_for live e.domain) + cond (lives_at_first e) 1 0
domain_count live entries e later within stands =
    let is = rows_are_live live entries e.domain within stands in
    counted (λ (p : Entry). p.domain == e.domain) live entries e later within stands (λ p. refl) (λ p own. own) (eq-eqb e.domain e.domain refl)
    ∙ ap
    (λ n. n + cond (lives_at_first e) 1 0)
    (ap (tally (λ (m : Mitigation). is_left e m && (m.put.domain == e.domain))) is
    ∙ tally_in (is_left e) e.domain (mitigations live.time (map bare entries))
    ∙ ap (tally (is_left e)) (sym is))

client_count : (live : LiveValue) (entries : List Entry) (e : Entry) → live.time ≤ e.time → e.domain < live.domains → Represents live entries
    → tally (λ (m : Mitigation). same_client e m.put) (mitigations e.time (entries ++ e ∷ []))
    ≡ tally (λ (m : Mitigation). is_left e m && same_client e m.put) (rows_for live e.domain) + cond (lives_at_first e) 1 0
client_count live entries e later within stands =
    counted (same_client e) live entries e later within stands (bare_client e) (same_domain e) (own_client e)

-- whether there is room, by what is kept of the entry's domain
pub has_room_is : (live : LiveValue) (entries : List Entry) (e : Entry) → live.time ≤ e.time → e.domain < live.domains → Represents live entries
    → has_live_room live.limits entries e
    ≡ (nat_le (tally (is_left e) (rows_for live e.domain) + cond (lives_at_first e) 1 0) live.limits.domain_mitigations
    && nat_le (tally (λ (m : Mitigation). is_left e m && same_client e m.put) (rows_for live e.domain) + cond (lives_at_first e) 1 0) live.limits.client_mitigations)
has_room_is live entries e later within stands =
    ap
    (λ n. nat_le n live.limits.domain_mitigations && nat_le (tally (λ (m : Mitigation). same_client e m.put) (mitigations e.time (entries ++ e ∷ []))) live.limits.client_mitigations)
    (domain_count live entries e later within stands)
    ∙ ap
    (λ n. nat_le (tally (is_left e) (rows_for live e.domain) + cond (lives_at_first e) 1 0) live.limits.domain_mitigations && nat_le n live.limits.client_mitigations)
    (client_count live entries e later within stands)

tally_all : (ms : List Mitigation) → tally (λ (m : Mitigation). true) ms ≡ length ms
tally_all [] = refl
tally_all (m ∷ ms) = let go = tally_all ms in omega (arith, go)

tally_and_true : (test : Mitigation → Bool) (ms : List Mitigation) → tally (λ (m : Mitigation). test m && true) ms ≡ tally test ms
tally_and_true test [] = refl
tally_and_true test (m ∷ ms) =
    ap (λ n. cond (test m && true) 1 0 + n) (tally_and_true test ms) ∙ ap (λ b. cond b 1 0 + tally test ms) (and_true (test m))

-- how many there are of a domain after an entry
length_grown : (e : Entry) (ms : List Mitigation) → length (mitigations_with (bare e) ms) ≡ tally (is_left e) ms + cond (lives_at_first e) 1 0
length_grown e ms =
    sym (tally_all (mitigations_with (bare e) ms))
    ∙ tally_grown (λ p. true) e ms refl
    ∙ ap (λ n. n + cond (live e.time (bare e) Open) 1 0) (tally_and_true (is_left e) ms)
    ∙ ap (λ b. tally (is_left e) ms + cond b 1 0) (first_bare e)

-- where the limits are kept, the table of the domain has room for them
pub fits_limits : (inside live : LiveValue) (e : Entry) → inside ≡ live → AreTables inside → keeps_limits live.limits e (rows_for live e.domain) ≡ true
    → (table : LiveTable) → slice_get inside.tables e.domain ≡ Some table → length (mitigations_with (bare e) table.rows) ≤ table.room
fits_limits inside live e is are keeps table there =
    let here : keeps_limits inside.limits e (rows_for inside e.domain) ≡ true = ap (λ (v : LiveValue). keeps_limits v.limits e (rows_for v e.domain)) is ∙ keeps in
    let rows : rows_for inside e.domain ≡ table.rows = ap rows_or_none there in
    let few : tally (is_left e) (rows_for inside e.domain) + cond (lives_at_first e) 1 0 ≤ inside.limits.domain_mitigations =
    leb-true _ _ (and_parts
    (nat_le (tally (is_left e) (rows_for inside e.domain) + cond (lives_at_first e) 1 0) inside.limits.domain_mitigations)
    (nat_le (tally (λ (m : Mitigation). is_left e m && same_client e m.put) (rows_for inside e.domain) + cond (lives_at_first e) 1 0) inside.limits.client_mitigations)
    here).0 in
    let long : length (mitigations_with (bare e) table.rows) ≡ tally (is_left e) (rows_for inside e.domain) + cond (lives_at_first e) 1 0 =
    length_grown e table.rows ∙ ap (λ ms. tally (is_left e) ms + cond (lives_at_first e) 1 0) (sym rows) in
    let room : table.room ≡ inside.limits.domain_mitigations = are.rooms e.domain table there in
    omega (arith, long, few, room)

-- what is read of the rows of a domain doesn't have messages and replies in it
pub read_bare : {A : Type 0} → (f : Mitigation → A) (domain : ℕ) (ms : List Mitigation) → ((m : Mitigation) → f (bare_mitigation m) ≡ f m)
    → map f (mitigations_of domain (map bare_mitigation ms)) ≡ map f (mitigations_of domain ms)
read_bare f domain [] same = refl
read_bare f domain (m ∷ ms) same =
    let go = read_bare f domain ms same in
    cond_both
    (m.put.domain == domain)
    (m ∷ mitigations_of domain ms)
    (mitigations_of domain ms)
    (λ xs. map f (cond (m.put.domain == domain) (bare_mitigation m ∷ mitigations_of domain (map bare_mitigation ms)) (mitigations_of domain (map bare_mitigation ms))) ≡ map f xs)
    (λ is. ap (λ b. map f (cond b (bare_mitigation m ∷ mitigations_of domain (map bare_mitigation ms)) (mitigations_of domain (map bare_mitigation ms)))) is
    ∙ ap (λ y. y ∷ map f (mitigations_of domain (map bare_mitigation ms))) (same m)
    ∙ ap (λ ys. f m ∷ ys) go)
    (λ out. ap (λ b. map f (cond b (bare_mitigation m ∷ mitigations_of domain (map bare_mitigation ms)) (mitigations_of domain (map bare_mitigation ms)))) out ∙ go)

view_of_bare : (t : ℕ) (m : Mitigation) → live_view t (bare_mitigation m) ≡ live_view t m
view_of_bare t m = by_status m.put m.status
  where
    by_status : (e : Entry) (s : Status) → live_view t (record { put = bare e; status = s }) ≡ live_view t (record { put = e; status = s })
    by_status e Ended = refl
    by_status e Open = refl
    by_status e (Withdrawn at) = refl

of_cuid_bare : (cuid : List ℕ) (t : ℕ) (ms : List Mitigation) → live_views_of t cuid (map bare_mitigation ms) ≡ live_views_of t cuid ms
of_cuid_bare cuid t [] = refl
of_cuid_bare cuid t (m ∷ ms) =
    let go = of_cuid_bare cuid t ms in
    cond_both
    (bytes_eq m.put.cuid cuid)
    (m ∷ of_cuid cuid ms)
    (of_cuid cuid ms)
    (λ xs. map (live_view t) (cond (bytes_eq m.put.cuid cuid) (bare_mitigation m ∷ of_cuid cuid (map bare_mitigation ms)) (of_cuid cuid (map bare_mitigation ms))) ≡ map (live_view t) xs)
    (λ is. ap (λ b. map (live_view t) (cond b (bare_mitigation m ∷ of_cuid cuid (map bare_mitigation ms)) (of_cuid cuid (map bare_mitigation ms)))) is
    ∙ ap (λ y. y ∷ map (live_view t) (of_cuid cuid (map bare_mitigation ms))) (view_of_bare t m)
    ∙ ap (λ ys. live_view t m ∷ ys) go)
    (λ out. ap (λ b. map (live_view t) (cond b (bare_mitigation m ∷ of_cuid cuid (map bare_mitigation ms)) (of_cuid cuid (map bare_mitigation ms)))) out ∙ go)

pub of_domain_bare : (domain : ℕ) (ms : List Mitigation) → mitigations_of domain (map bare_mitigation ms) ≡ map bare_mitigation (mitigations_of domain ms)
of_domain_bare domain [] = refl
of_domain_bare domain (m ∷ ms) = ap (λ rest. cond (m.put.domain == domain) (bare_mitigation m ∷ rest) rest) (of_domain_bare domain ms) ∙ by_test (m.put.domain == domain)
  where
    by_test : (b : Bool) → cond b (bare_mitigation m ∷ map bare_mitigation (mitigations_of domain ms)) (map bare_mitigation (mitigations_of domain ms))
        ≡ map bare_mitigation (cond b (m ∷ mitigations_of domain ms) (mitigations_of domain ms))
    by_test true = refl
    by_test false = refl

pub lives_are : (t domain : ℕ) (entries : List Entry) → map live_of (mitigations_of domain (mitigations t (map bare entries))) ≡ lives_of domain t entries
lives_are t domain entries =
    ap (λ ms. map live_of (mitigations_of domain ms)) (bare_mitigations t entries) ∙ read_bare live_of domain (mitigations t entries) (λ m. refl)

pub views_are : (t domain : ℕ) (cuid : List ℕ) (entries : List Entry) → live_views_of t cuid (mitigations_of domain (mitigations t (map bare entries))) ≡ live_views_in domain cuid t entries
views_are t domain cuid entries =
    ap (λ ms. live_views_of t cuid (mitigations_of domain ms)) (bare_mitigations t entries)
    ∙ ap (live_views_of t cuid) (of_domain_bare domain (mitigations t entries))
    ∙ of_cuid_bare cuid t (mitigations_of domain (mitigations t entries))
