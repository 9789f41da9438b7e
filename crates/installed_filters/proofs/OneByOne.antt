-- The rows of live mitigations, made one mitigation after the other.
use Rattle.std.proofs.Common.{◌≡◌, ℕ, ◌+◌, ◌≤◌, Bool, true, false, cond, ◌&&◌, ◌||◌, List, [], ◌∷◌, ◌++◌, map, length, refl, sym, ap, ◌∙◌, append-nil, arith}
use Rattle.std.specs.Prelude.{nat_lt}
use Rattle.std.specs.List.{list_all}
use Rattle.std.proofs.lemmas.Grind.{flat_map-append}
use Rattle.std.proofs.lemmas.List.{length-append}
use Rattle.std.proofs.lemmas.List.Folds.{list_any-append}
use Rattle.acl_lists.specs.declared.acl.Acl.{Acl}
use Rattle.acl_lists.specs.declared.rows.ScrubRow.{ScrubRow}
use Rattle.filter_table.specs.TableRows.{is_of_client, row_set}
use Rattle.dots_settings.specs.declared.limits.Limits.{Limits}
use Rattle.dots_history.specs.declared.entry.Entry.{Entry}
use Rattle.dots_history.specs.Entries.{same_client}
use Rattle.dots_history.specs.Histories.{Mitigation, mitigations, held}
use Rattle.dots_history.specs.Rows.{is_lost_in, works, acl_rows, acl_rows_of, list_rows}
use Rattle.dots_history.specs.Tables.{client_of, bare, bare_mitigation}
use Rattle.dots_history.specs.Held.{acls_of}
use Rattle.dots_history.proofs.GoingOn.{held_push}
use Rattle.installed_filters.specs.Filters.{FiltersValue, with_rows, rows_with, rows_put, is_working, activated_row, acls_by, filters_more, filters_written}
use Rattle.installed_filters.specs.HistoryRows.{Represents, KeepsLimits, scrub_room_of}
use Rattle.installed_filters.proofs.Copies.{rows_alike}
use Rattle.installed_filters.proofs.HistoryRows.{tests_same}
use Rattle.installed_filters.proofs.Keys.{scrubs_by, rows_are, rows_set}
use Rattle.installed_filters.proofs.Room.{rows_number, scrubs_fit, lists_number}
use Rattle.installed_filters.proofs.Waking.{mitigates, acls_by_client, lists_by, lists_are, clients_changed, same_clients, switched_by, is_client}
use Rattle.installed_filters.proofs.Writing.{acls_written}

-- the rows are those of these mitigations, and of the lists that are held, by which of their clients have one of them that filters
pub record AreOf (standing : List Entry) (done : List Mitigation) (filters : FiltersValue) : Type 0 where
  pub scrubs : filters.scrubs ≡ scrubs_by (works standing) done
  pub acls : filters.acls ≡ acls_by_client (mitigates (works standing) done) standing

pub of_none : (standing : List Entry) (filters : FiltersValue) → filters.scrubs ≡ [] → filters.acls ≡ acls_by_client (λ e. false) standing
    → AreOf standing [] filters
of_none standing filters none lists = record { scrubs = none; acls = lists }

pub of_all : (t : ℕ) (entries : List Entry) (filters : FiltersValue) → AreOf (held entries) (mitigations t entries) filters → Represents filters t entries
of_all t entries filters are = record { scrubs = are.scrubs ∙ sym (rows_are t entries); acls = are.acls ∙ sym (lists_are t entries) }

-- ---- who mitigates with one more

mitigates_more : (working : Entry → Bool) (done : List Mitigation) (m : Mitigation) (e : Entry)
    → mitigates working (done ++ m ∷ []) e ≡ (mitigates working done e || ((same_client e m.put && working m.put) || false))
mitigates_more working done m e = list_any-append (λ (x : Mitigation). same_client e x.put && working x.put) done (m ∷ [])

mitigates_then : (working : Entry → Bool) (done : List Mitigation) (m : Mitigation) (e : Entry) → working m.put ≡ true
    → mitigates working (done ++ m ∷ []) e ≡ cond (is_of_client m.put.domain m.put.cuid e.domain e.cuid) true (mitigates working done e)
mitigates_then working done m e is =
    mitigates_more working done m e
    ∙ ap (λ b. mitigates working done e || ((same_client e m.put && b) || false)) is
    ∙ by_client (mitigates working done e) (same_client e m.put)
    ∙ ap (λ b. cond b true (mitigates working done e)) (sym (is_client m.put e))
  where
    by_client : (before own : Bool) → (before || ((own && true) || false)) ≡ cond own true before
    by_client true true = refl
    by_client true false = refl
    by_client false true = refl
    by_client false false = refl

mitigates_still : (working : Entry → Bool) (done : List Mitigation) (m : Mitigation) (e : Entry) → working m.put ≡ false
    → mitigates working done e ≡ mitigates working (done ++ m ∷ []) e
mitigates_still working done m e is =
    sym (mitigates_more working done m e
    ∙ ap (λ b. mitigates working done e || ((same_client e m.put && b) || false)) is
    ∙ by_client (mitigates working done e) (same_client e m.put))
  where
    by_client : (before own : Bool) → (before || ((own && false) || false)) ≡ before
    by_client true true = refl
    by_client true false = refl
    by_client false true = refl
    by_client false false = refl

lists_more : (working : Entry → Bool) (done : List Mitigation) (m : Mitigation) (es : List Entry) (b : Bool) → working m.put ≡ b
    → cond b (map (activated_row m.put.domain m.put.cuid true) (acls_by_client (mitigates working done) es)) (acls_by_client (mitigates working done) es)
    ≡ acls_by_client (mitigates working (done ++ m ∷ [])) es
lists_more working done m es true is =
    clients_changed
    (mitigates working done)
    (mitigates working (done ++ m ∷ []))
    (activated_row m.put.domain m.put.cuid true)
    (λ e acl.
    switched_by
    (is_of_client m.put.domain m.put.cuid e.domain e.cuid)
    true
    (mitigates working done e)
    (mitigates working (done ++ m ∷ []) e)
    e
    acl
    (mitigates_then working done m e is))
    es
lists_more working done m es false is =
    same_clients (mitigates working done) (mitigates working (done ++ m ∷ [])) (λ e. mitigates_still working done m e is) es

-- ---- one more mitigation, as it is kept

pub of_more : (lost : ℕ → ℕ → Bool) (standing : List Entry) (done : List Mitigation) (m : Mitigation) (filters new : FiltersValue)
    → ((peer domain : ℕ) → lost peer domain ≡ is_lost_in standing peer domain) → new ≡ filters_more lost (bare_mitigation m) filters
    → AreOf standing done filters → AreOf standing (done ++ m ∷ []) new
of_more lost standing done m filters new losses is are =
    let working = works standing in
    let made : new ≡ filters_more (is_lost_in standing) (bare_mitigation m) filters =
    is ∙ ap (λ test. filters_more test (bare_mitigation m) filters) (tests_same lost standing losses) in
    record {
      scrubs = ap (λ (f : FiltersValue). f.scrubs) made
          ∙ ap (λ rows. filters.scrubs ++ rows) (rows_alike (working m.put) (bare m.put) m.put refl refl refl)
          ∙ ap (λ rows. rows ++ rows_with (working m.put) m.put) are.scrubs
          ∙ ap (λ rows. scrubs_by working done ++ rows) (sym (append-nil (rows_with (working m.put) m.put)))
          ∙ sym (flat_map-append (λ (x : Mitigation). rows_with (working x.put) x.put) done (m ∷ []));
      acls = ap (λ (f : FiltersValue). f.acls) made
          ∙ ap (λ rows. cond (working m.put) (map (activated_row m.put.domain m.put.cuid true) rows) rows) are.acls
          ∙ lists_more working done m standing (working m.put) refl;
    }

-- as they are put behind the others
installed : (lost : ℕ → ℕ → Bool) (m : Mitigation) (own : List ScrubRow) (works : Bool) (filters : FiltersValue) → own ≡ rows_put m.put → works ≡ is_working lost m
    → with_rows filters (filters.scrubs ++ map (row_set works) own) filters.acls
    ≡ with_rows filters (filters.scrubs ++ rows_with (is_working lost m) m.put) filters.acls
installed lost m own works filters made is =
    ap (λ rows. with_rows filters (filters.scrubs ++ map (row_set works) rows) filters.acls) made
    ∙ ap (λ rows. with_rows filters (filters.scrubs ++ rows) filters.acls) (rows_set works m.put)
    ∙ ap (λ b. with_rows filters (filters.scrubs ++ rows_with b m.put) filters.acls) is

pub more_works : (lost : ℕ → ℕ → Bool) (m : Mitigation) (own : List ScrubRow) (works : Bool) (domain : ℕ) (cuid : List ℕ) (filters before new : FiltersValue)
    → own ≡ rows_put m.put → works ≡ is_working lost m → works ≡ true → domain ≡ m.put.domain → cuid ≡ m.put.cuid
    → before ≡ with_rows filters (filters.scrubs ++ map (row_set works) own) filters.acls
    → new ≡ with_rows before before.scrubs (map (activated_row domain cuid true) before.acls) → new ≡ filters_more lost m filters
more_works lost m own works domain cuid filters before new made is yes_ domains cuids put on =
    on
    ∙ ap (λ d. with_rows before before.scrubs (map (activated_row d cuid true) before.acls)) domains
    ∙ ap (λ c. with_rows before before.scrubs (map (activated_row m.put.domain c true) before.acls)) cuids
    ∙ ap (λ (f : FiltersValue). with_rows f f.scrubs (map (activated_row m.put.domain m.put.cuid true) f.acls)) (put ∙ installed lost m own works filters made is)
    ∙ ap
    (λ b. with_rows filters (filters.scrubs ++ rows_with (is_working lost m) m.put) (cond b (map (activated_row m.put.domain m.put.cuid true) filters.acls) filters.acls))
    (sym (sym is ∙ yes_))

pub more_waits : (lost : ℕ → ℕ → Bool) (m : Mitigation) (own : List ScrubRow) (works : Bool) (filters new : FiltersValue)
    → own ≡ rows_put m.put → works ≡ is_working lost m → works ≡ false
    → new ≡ with_rows filters (filters.scrubs ++ map (row_set works) own) filters.acls → new ≡ filters_more lost m filters
more_waits lost m own works filters new made is no_ put =
    put
    ∙ installed lost m own works filters made is
    ∙ ap
    (λ b. with_rows filters (filters.scrubs ++ rows_with (is_working lost m) m.put) (cond b (map (activated_row m.put.domain m.put.cuid true) filters.acls) filters.acls))
    (sym (sym is ∙ no_))

-- there is room for its rows
pub more_fit : (domains : ℕ) (limits : Limits) (t : ℕ) (entries : List Entry) (done : List Mitigation) (m : Mitigation) (rest : List Mitigation) (filters : FiltersValue)
    → list_all (λ (x : Mitigation). nat_lt x.put.domain domains) (mitigations t entries) ≡ true → KeepsLimits limits t entries
    → mitigations t entries ≡ done ++ m ∷ rest → AreOf (held entries) done filters
    → length filters.scrubs + length (rows_put (bare m.put)) ≤ scrub_room_of domains limits
more_fit domains limits t entries done m rest filters inside keeps cut are =
    let working = works (held entries) in
    let all = scrubs_fit domains limits t entries inside keeps in
    let so_far = ap length are.scrubs in
    let whole = ap length (rows_are t entries ∙ ap (scrubs_by working) cut ∙ flat_map-append (λ (x : Mitigation). rows_with (working x.put) x.put) done (m ∷ rest))
    ∙ length-append (scrubs_by working done) (scrubs_by working (m ∷ rest)) in
    let here = length-append (rows_with (working m.put) m.put) (scrubs_by working rest) in
    let one = rows_number (working m.put) m.put in
    let put = rows_number false (bare m.put) in
    omega (arith, all, so_far, whole, here, one, put)

-- ---- lists, as they are where nobody mitigates

pub rest_are : (entries : List Entry) → acl_rows_of 0 [] (list_rows entries) ≡ acls_by_client (λ e. false) (held entries)
rest_are entries = lists_by 0 [] (held entries)

pub rest_same : (e : Entry) (entries : List Entry) → held (entries ++ e ∷ []) ≡ held entries
    → acl_rows_of 0 [] (list_rows entries) ≡ acl_rows_of 0 [] (list_rows (entries ++ e ∷ []))
rest_same e entries same = rest_are entries ∙ ap (acls_by_client (λ x. false)) (sym same) ∙ sym (rest_are (entries ++ e ∷ []))

pub rest_written : (acls : List Acl) (e : Entry) (entries : List Entry) (filters new : FiltersValue) → filters.acls ≡ acl_rows_of 0 [] (list_rows entries)
    → acls ≡ acls_of (client_of e) (held entries) → new ≡ filters_written false acls e filters → new.acls ≡ acl_rows_of 0 [] (list_rows (entries ++ e ∷ []))
rest_written acls e entries filters new lists are is =
    ap (λ (f : FiltersValue). f.acls) is
    ∙ ap (acls_by false acls e e.change) (lists ∙ rest_are entries)
    ∙ acls_written (λ x. false) false acls e (held entries) (λ acl some. refl) are
    ∙ ap (acls_by_client (λ x. false)) (sym (held_push e entries))
    ∙ sym (rest_are (entries ++ e ∷ []))

pub rest_number : (t : ℕ) (entries : List Entry) → length (acl_rows_of 0 [] (list_rows entries)) ≡ length (acl_rows t entries)
rest_number t entries =
    ap length (rest_are entries)
    ∙ lists_number (λ e. false) (held entries)
    ∙ sym (ap length (lists_are t entries) ∙ lists_number (mitigates (works (held entries)) (mitigations t entries)) (held entries))
