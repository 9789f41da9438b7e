-- What is kept of the live mitigations goes on to represent a history.
use Rattle.std.proofs.Common.{◌≡◌, ℕ, ◌<◌, ◌≤◌, ◌≢◌, true, false, ◌&&◌, List, [], ◌∷◌, ◌++◌, map, length, Option, Some, None, inl, inr, refl, sym, ap, subst, ◌∙◌, arith}
use Rattle.std.specs.Prelude.{slice_get, ◌==◌, nat_lt, not, ◌||◌, IfNone, IfSome}
use Rattle.std.specs.List.{list_any, list_all}
use Rattle.std.proofs.lemmas.List.{map-append, append-nil}
use Rattle.std.proofs.lemmas.List.Elements.{filter-append}
use Rattle.std.proofs.lemmas.List.Folds.{list_all-append}
use Rattle.std.proofs.lemmas.Bool.{cases_eq, cond-true, cond-false, eq-eqb, ne_eqb, and_from, or_right, lt-ltb, lt-leb, le-leb, false≢true}
use Rattle.dots_settings.specs.declared.limits.Limits.{Limits}
use Rattle.dots_history.specs.declared.entry.Entry.{Entry}
use Rattle.dots_history.specs.Histories.{Mitigation, Within, tally, mitigations, alone}
use Rattle.dots_history.specs.Filed.{Filed}
use Rattle.dots_history.specs.Tables.{Client, is_of, has_mid, AreApart, bare, is_due}
use Rattle.dots_history.specs.Views.{mitigations_at, mitigations_with}
use Rattle.dots_history.proofs.Ageing.{mitigations_age}
use Rattle.dots_history.proofs.Adding.{adding}
use Rattle.dots_history.proofs.Endings.{none_due}
use Rattle.dots_history.proofs.Single.{one_mid, live_apart}
use Rattle.live_mitigations.specs.Ends.{never, first_end}
use Rattle.live_mitigations.specs.Rows.{LiveTable, AreEmpty, rows_or_none, rows_at, update, count_rows, noted, grown, moved_all}
use Rattle.live_mitigations.specs.LiveValues.{LiveValue, rows_for, count_live, has_due, puts, is_inside, AreTables, Represents, ComesTo, SameButRows}
use Rattle.live_mitigations.proofs.Ends.{left_twice, fewer_left, any_due}
use Rattle.live_mitigations.proofs.Rows.{grown_rows, none_put, puts_none}
use Rattle.live_mitigations.proofs.Updates.{length_updated, rows_other, rows_changed, fewer_rows, there_within, room_updated}

within_push : (low high : ℕ) (xs : List Entry) (e : Entry) → Within low xs high → high ≤ e.time → Within low (xs ++ e ∷ []) e.time
within_push low high [] e is less = (omega (arith, is, less), omega arith)
within_push low high (x ∷ xs) e is less = (is.0, within_push x.time high xs e is.1 less)

within_more : (low high more : ℕ) (xs : List Entry) → Within low xs high → high ≤ more → Within low xs more
within_more low high more [] is less = omega (arith, is, less)
within_more low high more (x ∷ xs) is less = (is.0, within_more x.time high more xs is.1 less)

-- what represents a history comes to it later
pub comes_later : (now : ℕ) (live : LiveValue) (entries : List Entry) → live.time ≤ now → Represents live entries → ComesTo now live entries
comes_later now live entries less stands = record {
  in_order = within_more 0 live.time now entries stands.in_order less;
  inside = stands.inside;
  are_tables = stands.are_tables;
  rows = λ domain within.
      ap (mitigations_at now) (stands.rows domain within) ∙ sym (mitigations_age live.time now (alone domain (map bare entries)) less);
}

-- where nothing is over any more, what comes to a history represents it
pub represents_now : (now : ℕ) (inside old : LiveValue) (entries : List Entry) → inside ≡ old → ((domain : ℕ) → has_due now old domain ≡ false) → ComesTo now old entries
    → Represents (record { domains = inside.domains; limits = inside.limits; time = now; tables = inside.tables }) entries
represents_now now inside old entries is none comes =
    let here : ComesTo now inside entries = subst (λ (v : LiveValue). ComesTo now v entries) (sym is) comes in
    record {
      in_order = here.in_order;
      inside = here.inside;
      are_tables = record { number = here.are_tables.number; rooms = here.are_tables.rooms };
      rows = λ domain within.
          sym (none_due now (rows_for inside domain) (ap (λ (v : LiveValue). has_due now v domain) is ∙ none domain)) ∙ here.rows domain within;
    }

-- what is over in a domain is taken out
pub comes_still : (now domain : ℕ) (old new : LiveValue) (entries : List Entry) → new.domains ≡ old.domains → AreTables new
    → rows_for new domain ≡ mitigations_at now (rows_for old domain) → ((other : ℕ) → other ≢ domain → rows_for new other ≡ rows_for old other)
    → ComesTo now old entries → ComesTo now new entries
comes_still now domain old new entries same are own others comes = record {
  in_order = comes.in_order;
  inside = subst (λ n. list_all (is_inside n) entries ≡ true) (sym same) comes.inside;
  are_tables = are;
  rows = λ other within.
      let less : other < old.domains = subst (λ n. other < n) same within in
      elim (cases_eq other domain) [
        | inl is ↦
            ap (λ d. mitigations_at now (rows_for new d)) is
            ∙ ap (mitigations_at now) own
            ∙ left_twice now (rows_for old domain)
            ∙ ap (λ d. mitigations_at now (rows_for old d)) (sym is)
            ∙ comes.rows other less
        | inr apart ↦ ap (mitigations_at now) (others other apart) ∙ comes.rows other less
      ];
}

-- a domain's own entries with one more
alone_own : (domain : ℕ) (entries : List Entry) (e : Entry) → e.domain ≡ domain → alone domain (map bare (entries ++ e ∷ [])) ≡ alone domain (map bare entries) ++ bare e ∷ []
alone_own domain entries e own =
    ap (alone domain) (map-append bare entries (e ∷ []))
    ∙ filter-append (λ (x : Entry). x.domain == domain) (map bare entries) (bare e ∷ [])
    ∙ ap (λ xs. alone domain (map bare entries) ++ xs) (cond-true (e.domain == domain) (bare e ∷ []) [] (eq-eqb e.domain domain own))

alone_other : (domain : ℕ) (entries : List Entry) (e : Entry) → e.domain ≢ domain → alone domain (map bare (entries ++ e ∷ [])) ≡ alone domain (map bare entries)
alone_other domain entries e apart =
    ap (alone domain) (map-append bare entries (e ∷ []))
    ∙ filter-append (λ (x : Entry). x.domain == domain) (map bare entries) (bare e ∷ [])
    ∙ ap (λ xs. alone domain (map bare entries) ++ xs) (cond-false (e.domain == domain) (bare e ∷ []) [] (ne_eqb e.domain domain apart))
    ∙ append-nil (alone domain (map bare entries))

-- the mitigations of a domain with one more entry of it
pub own_with : (t : ℕ) (entries : List Entry) (e : Entry) → t ≤ e.time
    → mitigations e.time (alone e.domain (map bare (entries ++ e ∷ []))) ≡ mitigations_with (bare e) (mitigations t (alone e.domain (map bare entries)))
own_with t entries e less = ap (mitigations e.time) (alone_own e.domain entries e refl) ∙ adding t (bare e) (alone e.domain (map bare entries)) less

inside_more : (domains : ℕ) (entries : List Entry) (e : Entry) → list_all (is_inside domains) entries ≡ true → is_inside domains e ≡ true
    → list_all (is_inside domains) (entries ++ e ∷ []) ≡ true
inside_more domains entries e all is =
    list_all-append (is_inside domains) entries (e ∷ [])
    ∙ and_from (list_all (is_inside domains) entries) (list_all (is_inside domains) (e ∷ [])) all (and_from (is_inside domains e) true is refl)

-- one more entry, at the time
pub represents_with : (old new : LiveValue) (entries : List Entry) (e : Entry) → e.time ≡ old.time → is_inside old.domains e ≡ true
    → new.domains ≡ old.domains → new.time ≡ old.time → AreTables new
    → (e.domain < old.domains → rows_for new e.domain ≡ mitigations_with (bare e) (rows_for old e.domain))
    → ((other : ℕ) → other ≢ e.domain → rows_for new other ≡ rows_for old other)
    → Represents old entries → Represents new (entries ++ e ∷ [])
represents_with old new entries e at is domains time are own others stands =
    let now : new.time ≡ e.time = time ∙ sym at in
    let later : old.time ≤ e.time = omega (arith, at) in
    record {
      in_order = subst (λ t. Within 0 (entries ++ e ∷ []) t) (sym now) (within_push 0 old.time entries e stands.in_order later);
      inside = subst (λ n. list_all (is_inside n) (entries ++ e ∷ []) ≡ true) (sym domains) (inside_more old.domains entries e stands.inside is);
      are_tables = are;
      rows = λ domain within.
          let less : domain < old.domains = subst (λ n. domain < n) domains within in
          elim (cases_eq domain e.domain) [
            | inl same ↦
                ap (rows_for new) same
                ∙ own (subst (λ d. d < old.domains) same less)
                ∙ ap (mitigations_with (bare e)) (stands.rows e.domain (subst (λ d. d < old.domains) same less))
                ∙ sym (own_with old.time entries e later)
                ∙ ap (λ t. mitigations t (alone e.domain (map bare (entries ++ e ∷ [])))) (sym now)
                ∙ ap (λ d. mitigations new.time (alone d (map bare (entries ++ e ∷ [])))) (sym same)
            | inr apart ↦
                others domain apart
                ∙ stands.rows domain less
                ∙ ap (λ t. mitigations t (alone domain (map bare entries))) (sym time)
                ∙ ap (mitigations new.time) (sym (alone_other domain entries e (λ x. apart (sym x))))
          ];
    }

empty_rows : (number room : ℕ) (tables : List LiveTable) (domain : ℕ) → AreEmpty number room tables → rows_at domain tables ≡ []
empty_rows number room tables domain are = by_case (slice_get tables domain) refl
  where
    by_case : (o : Option LiveTable) → slice_get tables domain ≡ o → rows_or_none o ≡ []
    by_case None is = refl
    by_case (Some table) is = ap (λ (t : LiveTable). t.rows) (are.each domain table is)

-- no tables' rows stand for no entries
pub represents_empty : (live : LiveValue) → AreEmpty live.domains live.limits.domain_mitigations live.tables → live.time ≡ 0 → Represents live []
represents_empty live are at = record {
  in_order = omega arith;
  inside = refl;
  are_tables = record { number = are.counted; rooms = λ domain table is. ap (λ (t : LiveTable). t.room) (are.each domain table is) };
  rows = λ domain within. empty_rows live.domains live.limits.domain_mitigations live.tables domain are;
}

-- ---- one domain's table is changed

pub record Changed (f : LiveTable → LiveTable) (domain : ℕ) (old new : LiveValue) : Type 0 where
  pub domains : new.domains ≡ old.domains
  pub limits : new.limits ≡ old.limits
  pub time : new.time ≡ old.time
  pub tables : new.tables ≡ update f domain old.tables

abbrev with_tables : LiveValue → List LiveTable → LiveValue
with_tables live tables = record { domains = live.domains; limits = live.limits; time = live.time; tables = tables }

pub changed_to : (f : LiveTable → LiveTable) (domain : ℕ) (inside old : LiveValue) (tables : List LiveTable) → inside ≡ old → tables ≡ update f domain inside.tables
    → Changed f domain old (with_tables inside tables)
changed_to f domain inside old tables is made =
    let here : Changed f domain inside (with_tables inside tables) = record { domains = refl; limits = refl; time = refl; tables = made } in
    subst (λ (v : LiveValue). Changed f domain v (with_tables inside tables)) is here

pub within_tables : (domain : ℕ) (inside old : LiveValue) → inside ≡ old → length inside.tables ≡ inside.domains → domain < old.domains → domain < length old.tables
within_tables domain inside old is counted less =
    let same : length old.tables ≡ old.domains = subst (λ (v : LiveValue). length v.tables ≡ v.domains) is counted in
    omega (arith, same, less)

pub changed_same : (f : LiveTable → LiveTable) (domain : ℕ) (old new : LiveValue) → Changed f domain old new → SameButRows old new
changed_same f domain old new changed = record { domains = changed.domains; limits = changed.limits; time = changed.time }

pub changed_other : (f : LiveTable → LiveTable) (domain : ℕ) (old new : LiveValue) → Changed f domain old new → (other : ℕ) → other ≢ domain
    → rows_for new other ≡ rows_for old other
changed_other f domain old new changed other apart = ap (rows_at other) changed.tables ∙ rows_other f domain other old.tables apart

pub changed_own : (f : LiveTable → LiveTable) (g : List Mitigation → List Mitigation) (domain : ℕ) (old new : LiveValue) → Changed f domain old new
    → domain < length old.tables → ((table : LiveTable) → (f table).rows ≡ g table.rows) → rows_for new domain ≡ g (rows_for old domain)
changed_own f g domain old new changed within is = ap (rows_at domain) changed.tables ∙ rows_changed f g domain old.tables within is

pub changed_are : (f : LiveTable → LiveTable) (domain : ℕ) (old new : LiveValue) → Changed f domain old new → ((table : LiveTable) → (f table).room ≡ table.room)
    → AreTables old → AreTables new
changed_are f domain old new changed keeps are = record {
  number = ap length changed.tables ∙ length_updated f domain old.tables ∙ are.number ∙ sym changed.domains;
  rooms = λ place table there.
      let now : slice_get (update f domain old.tables) place ≡ Some table = ap (λ ts. slice_get ts place) (sym changed.tables) ∙ there in
      room_updated f domain old.tables old.limits.domain_mitigations keeps are.rooms place table now ∙ ap (λ (l : Limits). l.domain_mitigations) (sym changed.limits);
}

pub changed_comes : (f : LiveTable → LiveTable) (now domain : ℕ) (old new : LiveValue) (entries : List Entry) → Changed f domain old new
    → domain < length old.tables → ((table : LiveTable) → (f table).room ≡ table.room) → ((table : LiveTable) → (f table).rows ≡ mitigations_at now table.rows)
    → ComesTo now old entries → ComesTo now new entries
changed_comes f now domain old new entries changed within keeps is comes =
    comes_still now domain old new entries changed.domains (changed_are f domain old new changed keeps comes.are_tables)
    (changed_own f (mitigations_at now) domain old new changed within is) (changed_other f domain old new changed) comes

pub changed_represents : (f : LiveTable → LiveTable) (old new : LiveValue) (entries : List Entry) (e : Entry) → Changed f e.domain old new
    → ((table : LiveTable) → (f table).room ≡ table.room) → ((table : LiveTable) → (f table).rows ≡ mitigations_with (bare e) table.rows)
    → e.time ≡ old.time → is_inside old.domains e ≡ true → Represents old entries → Represents new (entries ++ e ∷ [])
changed_represents f old new entries e changed keeps is at inside stands =
    represents_with old new entries e at inside changed.domains changed.time (changed_are f e.domain old new changed keeps stands.are_tables)
    (λ within. changed_own f (mitigations_with (bare e)) e.domain old new changed (subst (λ n. e.domain < n) (sym stands.are_tables.number) within) is)
    (changed_other f e.domain old new changed)
    stands

pub changed_fewer : (f : LiveTable → LiveTable) (now domain : ℕ) (old new : LiveValue) → Changed f domain old new → domain < length old.tables
    → ((table : LiveTable) → (f table).rows ≡ mitigations_at now table.rows) → has_due now old domain ≡ true → count_live new < count_live old
changed_fewer f now domain old new changed within is due =
    let there = there_within old.tables domain within in
    let over : list_any (is_due now) there.0.rows ≡ true = subst (λ ms. list_any (is_due now) ms ≡ true) (ap rows_or_none there.1) due in
    let less : length (f there.0).rows < length there.0.rows = subst (λ ms. length ms < length there.0.rows) (sym (is there.0)) (fewer_left now there.0.rows over) in
    subst (λ n. n < count_live old) (sym (ap count_rows changed.tables)) (fewer_rows f domain old.tables there.0 there.1 less)

-- an entry that puts none does the same to all, and has none of its own
pub noted_rows : (x : Filed) (table : LiveTable) → puts x.entry ≡ false → (noted x table).rows ≡ mitigations_with (bare x.entry) table.rows
noted_rows x table none =
    let e = x.entry in
    sym (grown_rows e table.rows ∙ ap (λ ms. moved_all e table.rows ++ ms) (none_put e (puts_none e none)) ∙ append-nil (moved_all e table.rows))

pub quiet_inside : (domains : ℕ) (e : Entry) → puts e ≡ false → is_inside domains e ≡ true
quiet_inside domains e none = ap (λ b. not b || nat_lt e.domain domains) none

pub within_inside : (domains : ℕ) (e : Entry) → e.domain < domains → is_inside domains e ≡ true
within_inside domains e less = or_right (not (puts e)) (nat_lt e.domain domains) (lt-ltb e.domain domains less)

-- ---- the next domain in which one is over

-- a domain in which one is over changes, so one in which none is goes on as it was
pub still_on : (now domain : ℕ) (start before found after : LiveValue) → found ≡ before → has_due now before domain ≡ true
    → ((other : ℕ) → other ≢ domain → rows_for after other ≡ rows_for found other)
    → ((other : ℕ) → has_due now start other ≡ false → rows_for before other ≡ rows_for start other)
    → (other : ℕ) → has_due now start other ≡ false → rows_for after other ≡ rows_for start other
still_on now domain start before found after is due others so_far other none =
    let same = so_far other none in
    let apart : other ≢ domain = λ one. false≢true (sym none ∙ ap (list_any (is_due now)) (sym same) ∙ ap (has_due now before) one ∙ due) in
    others other apart ∙ ap (λ (live : LiveValue). rows_for live other) is ∙ same

pub none_is_due : (now : ℕ) (inside old : LiveValue) (found : Option ℕ) → now < never → inside ≡ old
    → IfNone found ((domain : ℕ) → now < first_end (rows_for inside domain)) → IfNone found ((domain : ℕ) → has_due now old domain ≡ false)
none_is_due now inside old None less is none =
    λ domain. ap (λ (v : LiveValue). has_due now v domain) (sym is) ∙ any_due now (rows_for inside domain) less ∙ lt-leb (first_end (rows_for inside domain)) now (none domain)
none_is_due now inside old (Some domain) less is none = tt

pub some_is_due : (now : ℕ) (inside old : LiveValue) (found : Option ℕ) → now < never → inside ≡ old → length inside.tables ≡ inside.domains
    → IfSome found (λ domain. (domain < length inside.tables) × (first_end (rows_for inside domain) ≤ now))
    → IfSome found (λ domain. (domain < old.domains) × (has_due now old domain ≡ true))
some_is_due now inside old None less is counted some = tt
some_is_due now inside old (Some domain) less is counted some = (
  subst (λ n. domain < n) (counted ∙ ap (λ (v : LiveValue). v.domains) is) some.0,
  ap (λ (v : LiveValue). has_due now v domain) (sym is) ∙ any_due now (rows_for inside domain) less ∙ le-leb (first_end (rows_for inside domain)) now some.1,
)

-- the change, without the value behind it
pub changed_here : (f : LiveTable → LiveTable) (domain : ℕ) (inside : LiveValue) (tables : List LiveTable) → tables ≡ update f domain inside.tables
    → ((table : LiveTable) → (f table).room ≡ table.room) → AreTables inside → AreTables (with_tables inside tables)
changed_here f domain inside tables made keeps are =
    changed_are f domain inside (with_tables inside tables) (record { domains = refl; limits = refl; time = refl; tables = made }) keeps are

-- an entry that puts none, of no domain
pub represents_outside : (live : LiveValue) (entries : List Entry) (e : Entry) → live.domains ≤ e.domain → puts e ≡ false → e.time ≡ live.time
    → Represents live entries → Represents live (entries ++ e ∷ [])
represents_outside live entries e past none at stands =
    represents_with live live entries e at (quiet_inside live.domains e none) refl refl stands.are_tables
    (λ less. absurd (omega (arith, past, less)))
    (λ other apart. refl)
    stands

-- a mitigation of an entry that may have lost its message and reply
pub put_represents : (old new : LiveValue) (entries : List Entry) (slot : ℕ) (put e : Entry) → Changed (grown (record { entry = put; slot = slot })) put.domain old new
    → bare e ≡ bare put → put.time ≡ old.time → put.domain < old.domains → Represents old entries → Represents new (entries ++ e ∷ [])
put_represents old new entries slot put e changed same at within stands =
    let f = grown (record { entry = put; slot = slot }) in
    let domain : e.domain ≡ put.domain = ap (λ (x : Entry). x.domain) same in
    let time : e.time ≡ put.time = ap (λ (x : Entry). x.time) same in
    let here : Changed f e.domain old new = subst (λ d. Changed f d old new) (sym domain) changed in
    changed_represents f old new entries e here
    (λ table. refl)
    (λ table. ap (λ x. mitigations_with x table.rows) (sym same))
    (time ∙ at)
    (within_inside old.domains e (subst (λ d. d < old.domains) (sym domain) within))
    stands

-- ---- one at most of each
pub one_row_each : (client : Client) (mid domain : ℕ) (live : LiveValue) (entries : List Entry) → domain < live.domains → Represents live entries
    → tally (λ (m : Mitigation). is_of client m.put && has_mid mid m.put) (rows_for live domain) ≤ 1
one_row_each client mid domain live entries within stands =
    subst
    (λ ms. tally (λ (m : Mitigation). is_of client m.put && has_mid mid m.put) ms ≤ 1)
    (sym (stands.rows domain within))
    (one_mid client mid live.time (alone domain (map bare entries)))

pub rows_apart : (domain : ℕ) (live : LiveValue) (entries : List Entry) → domain < live.domains → Represents live entries → AreApart (rows_for live domain)
rows_apart domain live entries within stands = subst AreApart (sym (stands.rows domain within)) (live_apart live.time (alone domain (map bare entries)))

pub are_empty_tables : (live : LiveValue) → AreEmpty live.domains live.limits.domain_mitigations live.tables → AreTables live
are_empty_tables live are = record {
  number = are.counted;
  rooms = λ domain table is. ap (λ (t : LiveTable). t.room) (are.each domain table is);
}
