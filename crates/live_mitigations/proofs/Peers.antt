-- Whether a live mitigation of some domain passes a test.
use Rattle.std.proofs.Common.{◌≡◌, ℕ, ◌<◌, zero, suc, Bool, true, false, cond, not, ◌||◌, List, [], ◌∷◌, ◌++◌, map, Option, Some, None, inl, inr, refl, sym, ap, ◌∙◌, arith}
use Rattle.std.specs.Prelude.{slice_get, ◌==◌, nat_lt, option_to_list}
use Rattle.std.specs.List.{list_any, list_all}
use Rattle.std.proofs.lemmas.Option.{none-some, slice_get_within}
use Rattle.std.proofs.lemmas.Bool.{false≢true, both_ways, cond_both, cases_Bool, or_cases, or_left, or_right, and_parts, eq-eqb, ltb-true}
use Rattle.dots_history.specs.declared.entry.Entry.{Entry}
use Rattle.dots_history.specs.declared.put.Put.{Put}
use Rattle.dots_history.specs.declared.status.Status.TheVariants.{Open}
use Rattle.dots_history.specs.Entries.{put_of, option_any}
use Rattle.dots_history.specs.Histories.{Mitigation, live, status, mitigations}
use Rattle.dots_history.specs.Tables.{bare, bare_mitigation}
use Rattle.dots_history.specs.Views.{mitigations_of}
use Rattle.dots_history.proofs.Touching.{never_live}
use Rattle.dots_history.proofs.Bare.{bare_mitigations}
use Rattle.live_mitigations.specs.Rows.{LiveTable, rows_or_none, any_row}
use Rattle.live_mitigations.specs.LiveValues.{LiveValue, puts, is_inside, Represents}
use Rattle.live_mitigations.proofs.Updates.{there_within}
use Rattle.live_mitigations.proofs.Room.{rows_are_live, of_domain_bare}

any_of_domain : (test : Mitigation → Bool) (domain : ℕ) (ms : List Mitigation) → list_any test (mitigations_of domain ms) ≡ true → list_any test ms ≡ true
any_of_domain test domain [] is = is
any_of_domain test domain (m ∷ ms) is =
    elim (cases_Bool (m.put.domain == domain)) [
      | inl own ↦
          elim (or_cases (test m) (list_any test (mitigations_of domain ms)) (sym (ap (λ b. list_any test (cond b (m ∷ mitigations_of domain ms) (mitigations_of domain ms))) own) ∙ is)) [
            | inl here ↦ or_left (test m) (list_any test ms) here
            | inr there ↦ or_right (test m) (list_any test ms) (any_of_domain test domain ms there)
          ]
      | inr other ↦
          or_right (test m) (list_any test ms)
          (any_of_domain test domain ms (sym (ap (λ b. list_any test (cond b (m ∷ mitigations_of domain ms) (mitigations_of domain ms))) other) ∙ is))
    ]

any_bare : (test : Entry → Bool) (ms : List Mitigation) → ((e : Entry) → test (bare e) ≡ test e)
    → list_any (λ (m : Mitigation). test m.put) (map bare_mitigation ms) ≡ list_any (λ (m : Mitigation). test m.put) ms
any_bare test [] same = refl
any_bare test (m ∷ ms) same =
    ap (λ b. b || list_any (λ (x : Mitigation). test x.put) (map bare_mitigation ms)) (same m.put) ∙ ap (λ b. test m.put || b) (any_bare test ms same)

-- a table that passes, at its place
there_any : (test : LiveTable → Bool) (tables : List LiveTable) → list_any test tables ≡ true
    → (place : ℕ) × (table : LiveTable) × (slice_get tables place ≡ Some table) × (test table ≡ true)
there_any test [] is = absurd (false≢true is)
there_any test (t ∷ tables) is =
    elim (or_cases (test t) (list_any test tables) is) [
      | inl here ↦ (zero, t, refl, here)
      | inr there ↦ let found = there_any test tables there in (suc found.0, found.1, found.2, found.3)
    ]

any_there : (test : LiveTable → Bool) (tables : List LiveTable) (place : ℕ) (table : LiveTable) → slice_get tables place ≡ Some table → test table ≡ true
    → list_any test tables ≡ true
any_there test [] place table there is = absurd (none-some table there)
any_there test (t ∷ tables) zero table there is = let same : t ≡ table = cc in or_left (test t) (list_any test tables) (ap test same ∙ is)
any_there test (t ∷ tables) (suc place) table there is = or_right (test t) (list_any test tables) (any_there test tables place table there is)

-- what is live was put
live_puts : (t : ℕ) (e : Entry) (later : List Entry) → live t e (status e Open later) ≡ true → puts e ≡ true
live_puts t e later is = by_put (put_of e.change) refl
  where
    by_put : (o : Option Put) → put_of e.change ≡ o → option_any (λ (put : Put). true) o ≡ true
    by_put None none = absurd (both_ways (live t e (status e Open later)) (never_live t e (status e Open later) none) is)
    by_put (Some put) there = refl

within : (domains : ℕ) (e : Entry) → puts e ≡ true → is_inside domains e ≡ true → e.domain < domains
within domains e put is = ltb-true e.domain domains (sym (ap (λ b. not b || nat_lt e.domain domains) put) ∙ is)

-- one of all that passes is of a domain
domain_any : (test : Mitigation → Bool) (t domains : ℕ) (entries : List Entry) → list_all (is_inside domains) entries ≡ true
    → list_any test (mitigations t entries) ≡ true
    → (domain : ℕ) × (domain < domains) × (list_any test (mitigations_of domain (mitigations t entries)) ≡ true)
domain_any test t domains [] all is = absurd (false≢true is)
domain_any test t domains (e ∷ later) all is =
    let parts = and_parts (is_inside domains e) (list_all (is_inside domains) later) all in
    let m : Mitigation = record { put = e; status = status e Open later } in
    let rest : List Mitigation = mitigations t later in
    elim (cases_Bool (live t e (status e Open later))) [
      | inl now ↦
          let shows : mitigations t (e ∷ later) ≡ m ∷ rest = ap (λ b. option_to_list (cond b (Some m) None) ++ rest) now in
          elim (or_cases (test m) (list_any test rest) (sym (ap (list_any test) shows) ∙ is)) [
            | inl here ↦ (
              e.domain,
              within domains e (live_puts t e later now) parts.0,
              ap (λ ms. list_any test (mitigations_of e.domain ms)) shows
                  ∙ ap (λ b. list_any test (cond b (m ∷ mitigations_of e.domain rest) (mitigations_of e.domain rest))) (eq-eqb e.domain e.domain refl)
                  ∙ or_left (test m) (list_any test (mitigations_of e.domain rest)) here,
            )
            | inr there ↦
                let found = domain_any test t domains later parts.1 there in (
                  found.0,
                  found.1,
                  ap (λ ms. list_any test (mitigations_of found.0 ms)) shows
                      ∙ cond_both
                      (e.domain == found.0)
                      (m ∷ mitigations_of found.0 rest)
                      (mitigations_of found.0 rest)
                      (λ ms. list_any test ms ≡ true)
                      (λ own. or_right (test m) (list_any test (mitigations_of found.0 rest)) found.2)
                      (λ other. found.2),
                )
          ]
      | inr dead ↦
          let shows : mitigations t (e ∷ later) ≡ rest = ap (λ b. option_to_list (cond b (Some m) None) ++ rest) dead in
          let found = domain_any test t domains later parts.1 (sym (ap (list_any test) shows) ∙ is) in
          (found.0, found.1, ap (λ ms. list_any test (mitigations_of found.0 ms)) shows ∙ found.2)
    ]

same_truth : (a b : Bool) → (a ≡ true → b ≡ true) → (b ≡ true → a ≡ true) → a ≡ b
same_truth true b to from = sym (to refl)
same_truth false true to from = from refl
same_truth false false to from = refl

abbrev tests : (Entry → Bool) → Mitigation → Bool
tests test m = test m.put

-- one that is kept passes exactly where a live one of the history does
pub any_live_row : (test : Entry → Bool) (live : LiveValue) (entries : List Entry) → ((e : Entry) → test (bare e) ≡ test e) → Represents live entries
    → any_row (tests test) live.tables ≡ list_any (tests test) (mitigations live.time entries)
any_live_row test live entries same stands =
    same_truth (any_row (tests test) live.tables) (list_any (tests test) (mitigations live.time entries))
    (λ is.
    let found = there_any (λ (table : LiveTable). list_any (tests test) table.rows) live.tables is in
    let less : found.0 < live.domains = omega (arith, slice_get_within live.tables found.0 found.1 found.2, stands.are_tables.number) in
    let rows : found.1.rows ≡ mitigations_of found.0 (mitigations live.time (map bare entries)) =
    sym (ap rows_or_none found.2) ∙ rows_are_live live entries found.0 less stands in
    sym (ap (list_any (tests test)) (bare_mitigations live.time entries) ∙ any_bare test (mitigations live.time entries) same)
    ∙ any_of_domain (tests test) found.0 (mitigations live.time (map bare entries)) (sym (ap (list_any (tests test)) rows) ∙ found.3))
    (λ is.
    let found = domain_any (tests test) live.time live.domains entries stands.inside is in
    let there = there_within live.tables found.0 (omega (arith, found.1, stands.are_tables.number)) in
    let rows : there.0.rows ≡ mitigations_of found.0 (map bare_mitigation (mitigations live.time entries)) =
    sym (ap rows_or_none there.1) ∙ rows_are_live live entries found.0 found.1 stands ∙ ap (mitigations_of found.0) (bare_mitigations live.time entries) in
    any_there (λ (table : LiveTable). list_any (tests test) table.rows) live.tables found.0 there.0 there.1
    (ap (list_any (tests test)) (rows ∙ of_domain_bare found.0 (mitigations live.time entries))
    ∙ any_bare test (mitigations_of found.0 (mitigations live.time entries)) same
    ∙ found.2))
