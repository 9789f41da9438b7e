-- The rows go on to be those that a history comes to.
use Rattle.std.proofs.Common.{◌≡◌, ◌≢◌, ℕ, ◌+◌, ◌<◌, ◌≤◌, Bool, true, false, cond, not, ◌&&◌, ◌||◌, List, [], ◌∷◌, ◌++◌, map, filter, Option, Some, None, inl, inr, refl, sym, ap, ◌∙◌, subst, append-nil, arith}
use Rattle.std.specs.Prelude.{bytes_eq, ◌==◌, nat_lt, option_to_list}
use Rattle.std.specs.List.{list_any, list_all, flat_map}
use Rattle.std.proofs.lemmas.Bool.{false≢true, true≢false, both_ways, cond_both, cond-true, cond-false, cases_Bool, cases_eq, and_parts, and_from, or_parts, not_from_false, eqb-true, eq-eqb, ne_eqb, ltb-true, lt-ltb}
use Rattle.std.proofs.Math.Path.{fun_ext}
use Rattle.std.proofs.lemmas.List.Folds.{flat_map-map}
use Rattle.std.proofs.lemmas.Grind.{flat_map-append}
use Rattle.std.proofs.lemmas.Option.{none-some}
use Rattle.acl_lists.specs.declared.acl.Acl.{Acl}
use Rattle.acl_lists.specs.declared.rows.ScrubRow.{ScrubRow}
use Rattle.acl_lists.specs.declared.rows.AclRow.{AclRow}
use Rattle.filter_table.specs.TableRows.{row_set, waits}
use Rattle.dots_history.specs.declared.entry.Entry.{Entry}
use Rattle.dots_history.specs.declared.put.Put.{Put}
use Rattle.dots_history.specs.declared.status.Status.{Status}
use Rattle.dots_history.specs.declared.status.Status.TheVariants.{Ended, Open, Withdrawn}
use Rattle.dots_history.specs.declared.change.Change.{Change}
use Rattle.dots_history.specs.declared.change.Change.TheVariants as change
use Rattle.dots_history.specs.Entries.{same_client, put_of, option_any, holds_of_both, overlaps, same_flag, ends, replaces, withdraws, runs, is_signal, is_loss}
use Rattle.dots_history.specs.Histories.{Mitigation, live, status, step, mitigations, held}
use Rattle.dots_history.specs.Keeping.{moved}
use Rattle.dots_history.specs.Rows.{acl_of, is_lost_in, works}
use Rattle.dots_history.specs.Tables.{client_of, bare, bare_mitigation, is_due}
use Rattle.dots_history.specs.Views.{mitigations_at, mitigations_with, mitigations_of}
use Rattle.dots_history.proofs.Adding.{adding}
use Rattle.dots_history.proofs.Ageing.{mitigations_age}
use Rattle.dots_history.proofs.Bare.{bare_mitigations}
use Rattle.dots_history.proofs.GoingOn.{held_push}
use Rattle.dots_history.proofs.Local.{quiet_with}
use Rattle.dots_history.proofs.Touching.{never_live}
use Rattle.dots_history.proofs.Members.{In}
use Rattle.dots_history.proofs.Endings.{live_end}
use Rattle.live_mitigations.specs.LiveValues.{LiveValue, SameButRows, rows_for, has_due, puts}
use Rattle.live_mitigations.specs.LiveValues as lives
use Rattle.live_mitigations.proofs.Room.{rows_are_live, of_domain_bare}
use Rattle.live_mitigations.proofs.Rows.{puts_none}
use Rattle.dots_history.specs.Held.{acls_of}
use Rattle.installed_filters.specs.Filters.{FiltersValue, with_rows, rows_with, own_rows, is_row_of, scrubs_without, woken_row, lives_at, is_over, lives_at_once, stays_beside, works_by, is_working, is_waiting_for, works_at, works_at_once, works_beside, some_of, settled_row, acl_switched, activated_row, acls_by, filters_at, filters_put, filters_lost, filters_written}
use Rattle.installed_filters.specs.HistoryRows.{Represents}
use Rattle.installed_filters.proofs.Sieving.{filter_by, filter_twice, filter_all, map_by, all_filter, all_in}
use Rattle.installed_filters.proofs.Keys.{Keyed, keeps, goes_from, scrubs_by, rows_are, live_keyed, left_keyed, scrubs_left, scrubs_woken}
use Rattle.installed_filters.proofs.Waking.{mitigates, acls_by_client, own_of, lists_are, same_clients, some_working, acls_settled, acls_put, acls_woken}
use Rattle.installed_filters.proofs.Signals.{quiet_works, works_after}
use Rattle.installed_filters.proofs.Writing.{acls_written, acls_lost}

-- ---- what is kept has no messages

abbrev settled_with : ℕ → AclRow → Bool → Bool → AclRow
settled_with domain row goes stays = cond (((row.domain == domain) && goes) && waits row.acl.activation) (acl_switched stays row) row

any_bare : (p : Mitigation → Bool) → ((m : Mitigation) → p (bare_mitigation m) ≡ p m) → (ms : List Mitigation) → list_any p (map bare_mitigation ms) ≡ list_any p ms
any_bare p same [] = refl
any_bare p same (m ∷ ms) = ap (λ b. b || list_any p (map bare_mitigation ms)) (same m) ∙ ap (λ b. p m || b) (any_bare p same ms)

some_bare : (stays : Mitigation → Bool) → ((m : Mitigation) → stays (bare_mitigation m) ≡ stays m) → (cuid : List ℕ) (ms : List Mitigation)
    → some_of stays cuid (map bare_mitigation ms) ≡ some_of stays cuid ms
some_bare stays same cuid ms = any_bare (λ m. stays m && bytes_eq m.put.cuid cuid) (λ m. ap (λ b. b && bytes_eq m.put.cuid cuid) (same m)) ms

without_bare : (domain : ℕ) (stays : Mitigation → Bool) → ((m : Mitigation) → stays (bare_mitigation m) ≡ stays m) → (ms : List Mitigation) (rows : List ScrubRow)
    → scrubs_without domain stays (map bare_mitigation ms) rows ≡ scrubs_without domain stays ms rows
without_bare domain stays same ms rows =
    filter_by
    (λ row. not (list_any (λ m. not (stays m) && is_row_of domain m row) (map bare_mitigation ms)))
    (λ row. not (list_any (λ m. not (stays m) && is_row_of domain m row) ms))
    (λ row.
    ap not (any_bare (λ m. not (stays m) && is_row_of domain m row) (λ m. ap (λ b. not b && is_row_of domain m row) (same m)) ms))
    rows

settled_bare : (domain : ℕ) (goes passes : Mitigation → Bool) → ((m : Mitigation) → goes (bare_mitigation m) ≡ goes m)
    → ((m : Mitigation) → passes (bare_mitigation m) ≡ passes m) → (ms : List Mitigation) (rows : List AclRow)
    → map (settled_row domain goes passes (map bare_mitigation ms) (map bare_mitigation ms)) rows ≡ map (settled_row domain goes passes ms ms) rows
settled_bare domain goes passes same_goes same_passes ms rows =
    map_by
    (settled_row domain goes passes (map bare_mitigation ms) (map bare_mitigation ms))
    (settled_row domain goes passes ms ms)
    (λ row.
    ap (λ b. settled_with domain row b (some_of passes row.cuid (map bare_mitigation ms))) (some_bare goes same_goes row.cuid ms)
    ∙ ap (λ b. settled_with domain row (some_of goes row.cuid ms) b) (some_bare passes same_passes row.cuid ms))
    rows

woken_bare : (domain : ℕ) (goes : Mitigation → Bool) (active : Bool) → ((m : Mitigation) → goes (bare_mitigation m) ≡ goes m) → (ms : List Mitigation) (rows : List ScrubRow)
    → map (woken_row domain goes active (map bare_mitigation ms)) rows ≡ map (woken_row domain goes active ms) rows
woken_bare domain goes active same ms rows =
    map_by
    (woken_row domain goes active (map bare_mitigation ms))
    (woken_row domain goes active ms)
    (λ row.
    ap
    (λ b. cond b (row_set active row) row)
    (any_bare (λ m. goes m && is_row_of domain m row) (λ m. ap (λ b. b && is_row_of domain m row) (same m)) ms))
    rows

bare_lives : (now : ℕ) (m : Mitigation) → lives_at now (bare_mitigation m) ≡ lives_at now m
unfolding runs
bare_lives now m = by_status m.status
  where
    by_status : (s : Status) → live now (bare m.put) s ≡ live now m.put s
    by_status Ended = refl
    by_status Open = refl
    by_status (Withdrawn at) = refl

bare_stays : (e : Entry) (m : Mitigation) → stays_beside e (bare_mitigation m) ≡ stays_beside e m
unfolding ends same_client
bare_stays e m = refl

at_bare : (lost : ℕ → ℕ → Bool) (domain now : ℕ) (ms : List Mitigation) (filters : FiltersValue)
    → filters_at lost domain now (map bare_mitigation ms) filters ≡ filters_at lost domain now ms filters
at_bare lost domain now ms filters =
    ap
    (λ rows. with_rows filters rows (map (settled_row domain (is_over now) (works_at lost now) (map bare_mitigation ms) (map bare_mitigation ms)) filters.acls))
    (without_bare domain (lives_at now) (bare_lives now) ms filters.scrubs)
    ∙ ap
    (λ rows. with_rows filters (scrubs_without domain (lives_at now) ms filters.scrubs) rows)
    (settled_bare
    domain
    (is_over now)
    (works_at lost now)
    (λ m. ap not (bare_lives now m))
    (λ m. ap (λ b. b && is_working lost m) (bare_lives now m))
    ms
    filters.acls)

put_bare : (lost : ℕ → ℕ → Bool) (e : Entry) (ms : List Mitigation) (filters : FiltersValue)
    → filters_put lost e (map bare_mitigation ms) filters ≡ filters_put lost e ms filters
put_bare lost e ms filters =
    ap
    (λ rows.
    with_rows
    filters
    (rows ++ own_rows lost e)
    (map (activated_row e.domain e.cuid (works_at_once lost e || some_of (works_beside lost e) e.cuid (map bare_mitigation ms))) filters.acls))
    (without_bare e.domain (stays_beside e) (bare_stays e) ms filters.scrubs)
    ∙ ap
    (λ b.
    with_rows
    filters
    (scrubs_without e.domain (stays_beside e) ms filters.scrubs ++ own_rows lost e)
    (map (activated_row e.domain e.cuid (works_at_once lost e || b)) filters.acls))
    (some_bare (works_beside lost e) (λ m. ap (λ b. b && is_working lost m) (bare_stays e m)) e.cuid ms)

lost_bare : (lost : ℕ → ℕ → Bool) (peer domain : ℕ) (ms : List Mitigation) (filters : FiltersValue)
    → filters_lost lost peer domain (map bare_mitigation ms) filters ≡ filters_lost lost peer domain ms filters
lost_bare lost peer domain ms filters =
    ap
    (λ rows. with_rows filters rows (map (settled_row domain (is_waiting_for peer) (is_working lost) (map bare_mitigation ms) (map bare_mitigation ms)) filters.acls))
    (woken_bare domain (is_waiting_for peer) (lost peer domain) (λ m. refl) ms filters.scrubs)
    ∙ ap
    (λ rows. with_rows filters (map (woken_row domain (is_waiting_for peer) (lost peer domain) ms) filters.scrubs) rows)
    (settled_bare domain (is_waiting_for peer) (is_working lost) (λ m. refl) (λ m. refl) ms filters.acls)

at_of_bare : (now : ℕ) (ms : List Mitigation) → mitigations_at now (map bare_mitigation ms) ≡ map bare_mitigation (mitigations_at now ms)
at_of_bare now [] = refl
at_of_bare now (m ∷ ms) =
    ap (λ b. cond b (bare_mitigation m ∷ mitigations_at now (map bare_mitigation ms)) (mitigations_at now (map bare_mitigation ms))) (bare_lives now m)
    ∙ by_live (lives_at now m) (at_of_bare now ms)
  where
    by_live : (b : Bool) → mitigations_at now (map bare_mitigation ms) ≡ map bare_mitigation (mitigations_at now ms) → cond b (bare_mitigation m ∷ mitigations_at now (map bare_mitigation ms)) (mitigations_at now (map bare_mitigation ms))
        ≡ map bare_mitigation (cond b (m ∷ mitigations_at now ms) (mitigations_at now ms))
    by_live true rest = ap (λ xs. bare_mitigation m ∷ xs) rest
    by_live false rest = rest

pub rows_are_bare : (lived : LiveValue) (entries : List Entry) (domain : ℕ) → domain < lived.domains → lives.Represents lived entries
    → rows_for lived domain ≡ map bare_mitigation (mitigations_of domain (mitigations lived.time entries))
rows_are_bare lived entries domain within stands =
    rows_are_live lived entries domain within stands
    ∙ ap (mitigations_of domain) (bare_mitigations lived.time entries)
    ∙ of_domain_bare domain (mitigations lived.time entries)

-- ---- who is lost

-- where a test says of each peer what the history does, the two are one
pub tests_same : (lost : ℕ → ℕ → Bool) (standing : List Entry) → ((peer domain : ℕ) → lost peer domain ≡ is_lost_in standing peer domain)
    → lost ≡ is_lost_in standing
tests_same lost standing same = fun_ext (λ (peer : ℕ). fun_ext (λ (domain : ℕ). same peer domain))

-- ---- all that are live

all_live : (t : ℕ) (entries : List Entry) → list_all (lives_at t) (mitigations t entries) ≡ true
all_live t [] = refl
all_live t (e ∷ later) =
    cond_both
    (live t e (status e Open later))
    (Some (record { put = e; status = status e Open later }))
    None
    (λ o. list_all (lives_at t) (option_to_list o ++ mitigations t later) ≡ true)
    (λ is. and_from (live t e (status e Open later)) (list_all (lives_at t) (mitigations t later)) is (all_live t later))
    (λ dead. all_live t later)

-- ---- time

-- Between two times: the rows are those of mitigations of which those that are over by now go one domain after the other.
pub record Between (now : ℕ) (lived : LiveValue) (filters : FiltersValue) (entries : List Entry) : Type 0 where
  pub ms : List Mitigation
  pub keyed : Keyed ms
  pub own : (domain : ℕ) → domain < lived.domains → rows_for lived domain ≡ map bare_mitigation (mitigations_of domain ms)
  pub inside : list_all (λ (m : Mitigation). nat_lt m.put.domain lived.domains) ms ≡ true
  pub scrubs : filters.scrubs ≡ scrubs_by (works (held entries)) ms
  pub acls : filters.acls ≡ acls_by_client (mitigates (works (held entries)) ms) (held entries)
  pub later : mitigations_at now ms ≡ mitigations now entries

pub live_inside : (t domains : ℕ) (entries : List Entry) → list_all (lives.is_inside domains) entries ≡ true
    → list_all (λ (m : Mitigation). nat_lt m.put.domain domains) (mitigations t entries) ≡ true
live_inside t domains [] all = refl
live_inside t domains (e ∷ later) all =
    let parts = and_parts (lives.is_inside domains e) (list_all (lives.is_inside domains) later) all in
    cond_both
    (live t e (status e Open later))
    (Some (record { put = e; status = status e Open later }))
    None
    (λ o. list_all (λ (m : Mitigation). nat_lt m.put.domain domains) (option_to_list o ++ mitigations t later) ≡ true)
    (λ is.
    and_from
    (nat_lt e.domain domains)
    (list_all (λ (m : Mitigation). nat_lt m.put.domain domains) (mitigations t later))
    (put_inside (puts e) (by_put (put_of e.change) refl is) parts.0)
    (live_inside t domains later parts.1))
    (λ dead. live_inside t domains later parts.1)
  where
    by_put : (o : Option Put) → put_of e.change ≡ o → live t e (status e Open later) ≡ true → puts e ≡ true
    by_put None none is = absurd (both_ways (live t e (status e Open later)) (never_live t e (status e Open later) none) is)
    by_put (Some put) there is = ap (λ o. option_any (λ (p : Put). true) o) there

    put_inside : (b : Bool) → b ≡ true → (not b || nat_lt e.domain domains) ≡ true → nat_lt e.domain domains ≡ true
    put_inside true is within = within
    put_inside false is within = absurd (false≢true is)

pub between_first : (now : ℕ) (lived : LiveValue) (filters : FiltersValue) (entries : List Entry) → lived.time ≤ now → lives.Represents lived entries
    → Represents filters lived.time entries → Between now lived filters entries
between_first now lived filters entries less alive stands = record {
  ms = mitigations lived.time entries;
  keyed = live_keyed lived.time entries;
  own = λ domain within. rows_are_bare lived entries domain within alive;
  inside = live_inside lived.time lived.domains entries alive.inside;
  scrubs = stands.scrubs ∙ rows_are lived.time entries;
  acls = stands.acls ∙ lists_are lived.time entries;
  later = sym (mitigations_age lived.time now entries less);
}

-- what goes of other domains, and by and by of all
own_goes : (domain now : ℕ) (ms : List Mitigation) → mitigations_of domain (filter (keeps domain (lives_at now)) ms) ≡ mitigations_at now (mitigations_of domain ms)
own_goes domain now ms =
    filter_twice (λ (m : Mitigation). m.put.domain == domain) (keeps domain (lives_at now)) ms
    ∙ filter_by
    (λ m. keeps domain (lives_at now) m && (m.put.domain == domain))
    (λ m. (m.put.domain == domain) && lives_at now m)
    (λ m. both (m.put.domain == domain) (lives_at now m))
    ms
    ∙ sym (filter_twice (lives_at now) (λ (m : Mitigation). m.put.domain == domain) ms)
  where
    both : (d s : Bool) → (not (d && not s) && d) ≡ (d && s)
    both true true = refl
    both true false = refl
    both false s = refl

other_stays : (domain other now : ℕ) (ms : List Mitigation) → other ≢ domain → mitigations_of other (filter (keeps domain (lives_at now)) ms) ≡ mitigations_of other ms
other_stays domain other now ms apart =
    filter_twice (λ (m : Mitigation). m.put.domain == other) (keeps domain (lives_at now)) ms
    ∙ filter_by
    (λ m. keeps domain (lives_at now) m && (m.put.domain == other))
    (λ (m : Mitigation). m.put.domain == other)
    (λ m.
    elim (cases_Bool (m.put.domain == other)) [
      | inl is ↦
          ap (λ b. not (b && not (lives_at now m)) && (m.put.domain == other)) (ne_eqb m.put.domain domain (λ same. apart (sym (eqb-true m.put.domain other is) ∙ same)))
      | inr out ↦ ap (λ b. keeps domain (lives_at now) m && b) out ∙ none (keeps domain (lives_at now) m) ∙ sym out
    ])
    ms
  where
    none : (a : Bool) → (a && false) ≡ false
    none true = refl
    none false = refl

later_same : (domain now : ℕ) (ms : List Mitigation) → mitigations_at now (filter (keeps domain (lives_at now)) ms) ≡ mitigations_at now ms
later_same domain now ms =
    filter_twice (lives_at now) (keeps domain (lives_at now)) ms
    ∙ filter_by (λ m. keeps domain (lives_at now) m && lives_at now m) (lives_at now) (λ m. both (m.put.domain == domain) (lives_at now m)) ms
  where
    both : (d s : Bool) → (not (d && not s) && s) ≡ s
    both true true = refl
    both true false = refl
    both false s = refl

pub between_next : (lost : ℕ → ℕ → Bool) (now domain : ℕ) (lived after : LiveValue) (filters new : FiltersValue) (entries : List Entry) → domain < lived.domains
    → SameButRows lived after → rows_for after domain ≡ mitigations_at now (rows_for lived domain)
    → ((other : ℕ) → other ≢ domain → rows_for after other ≡ rows_for lived other)
    → ((peer own : ℕ) → lost peer own ≡ is_lost_in (held entries) peer own)
    → new ≡ filters_at lost domain now (rows_for lived domain) filters → Between now lived filters entries → Between now after new entries
between_next lost now domain lived after filters new entries within but own others losses is between =
    let ms = between.ms in
    let left = filter (keeps domain (lives_at now)) ms in
    let lost_there = is_lost_in (held entries) in
    let made : new ≡ filters_at lost_there domain now (mitigations_of domain ms) filters =
    is
    ∙ ap (λ test. filters_at test domain now (rows_for lived domain) filters) (tests_same lost (held entries) losses)
    ∙ ap (λ kept. filters_at lost_there domain now kept filters) (between.own domain within)
    ∙ at_bare lost_there domain now (mitigations_of domain ms) filters in
    record {
      ms = left;
      keyed = left_keyed (keeps domain (lives_at now)) ms between.keyed;
      own = λ other inside.
          elim (cases_eq other domain) [
            | inl same ↦
                ap (rows_for after) same
                ∙ own
                ∙ ap (mitigations_at now) (between.own domain within)
                ∙ at_of_bare now (mitigations_of domain ms)
                ∙ ap (map bare_mitigation) (sym (own_goes domain now ms))
                ∙ sym (ap (λ d. map bare_mitigation (mitigations_of d left)) same)
            | inr apart ↦
                others other apart
                ∙ between.own other (subst (λ n. other < n) but.domains inside)
                ∙ ap (map bare_mitigation) (sym (other_stays domain other now ms apart))
          ];
      inside = all_left (keeps domain (lives_at now)) ms between.inside;
      scrubs = ap (λ (f : FiltersValue). f.scrubs) made
          ∙ ap (scrubs_without domain (lives_at now) (mitigations_of domain ms)) between.scrubs
          ∙ scrubs_left (works (held entries)) domain (lives_at now) ms between.keyed;
      acls = ap (λ (f : FiltersValue). f.acls) made
          ∙ ap (map (settled_row domain (is_over now) (works_at lost_there now) (mitigations_of domain ms) (mitigations_of domain ms))) between.acls
          ∙ acls_settled (works (held entries)) domain (lives_at now) ms (held entries);
      later = later_same domain now ms ∙ between.later;
    }
  where
    all_left : (keep : Mitigation → Bool) (xs : List Mitigation) → list_all (λ (m : Mitigation). nat_lt m.put.domain lived.domains) xs ≡ true
        → list_all (λ (m : Mitigation). nat_lt m.put.domain after.domains) (filter keep xs) ≡ true
    all_left keep xs all =
        ap (λ n. list_all (λ (m : Mitigation). nat_lt m.put.domain n) (filter keep xs)) but.domains
        ∙ all_filter (λ (m : Mitigation). nat_lt m.put.domain lived.domains) keep xs all

-- where nothing of any domain is over, all are live
none_over : (now domain : ℕ) (ms : List Mitigation) → list_any (is_due now) (map bare_mitigation (mitigations_of domain ms)) ≡ false
    → list_all (λ (m : Mitigation). not (m.put.domain == domain) || lives_at now m) ms ≡ true
none_over now domain [] none = refl
none_over now domain (m ∷ ms) none = by_domain (m.put.domain == domain) none (none_over now domain ms)
  where
    by_domain : (b : Bool) → list_any (is_due now) (map bare_mitigation (cond b (m ∷ mitigations_of domain ms) (mitigations_of domain ms))) ≡ false
        → (list_any (is_due now) (map bare_mitigation (mitigations_of domain ms)) ≡ false
        → list_all (λ (x : Mitigation). not (x.put.domain == domain) || lives_at now x) ms ≡ true)
        → ((not b || lives_at now m) && list_all (λ (x : Mitigation). not (x.put.domain == domain) || lives_at now x) ms) ≡ true
    by_domain true out rest =
        let parts = or_parts (is_due now (bare_mitigation m)) (list_any (is_due now) (map bare_mitigation (mitigations_of domain ms))) out in
        and_from
        (lives_at now m)
        (list_all (λ (x : Mitigation). not (x.put.domain == domain) || lives_at now x) ms)
        (sym (bare_lives now m) ∙ live_end now (bare m.put) m.status ∙ back _ parts.0)
        (rest parts.1)
      where
        back : (c : Bool) → not c ≡ false → c ≡ true
        back true is = refl
        back false is = absurd (true≢false is)
    by_domain false out rest = rest out

all_at : (now : ℕ) (ms : List Mitigation) → ((m : Mitigation) → In m ms → lives_at now m ≡ true) → mitigations_at now ms ≡ ms
all_at now [] each = refl
all_at now (m ∷ ms) each =
    cond-true (lives_at now m) (m ∷ mitigations_at now ms) (mitigations_at now ms) (each m (inl refl))
    ∙ ap (λ xs. m ∷ xs) (all_at now ms (λ x there. each x (inr there)))

pub between_last : (now : ℕ) (lived : LiveValue) (filters : FiltersValue) (entries : List Entry) → ((domain : ℕ) → has_due now lived domain ≡ false)
    → Between now lived filters entries → Represents filters now entries
between_last now lived filters entries none between =
    let ms = between.ms in
    let all : ms ≡ mitigations now entries =
    sym (all_at
    now
    ms
    (λ m there.
    let within = ltb-true m.put.domain lived.domains (all_in (λ (x : Mitigation). nat_lt x.put.domain lived.domains) m ms between.inside there) in
    own_lives
    m
    (all_in
    (λ (x : Mitigation). not (x.put.domain == m.put.domain) || lives_at now x)
    m
    ms
    (none_over
    now
    m.put.domain
    ms
    (ap (list_any (is_due now)) (sym (between.own m.put.domain within)) ∙ none m.put.domain))
    there)))
    ∙ between.later in
    record {
      scrubs = between.scrubs ∙ ap (scrubs_by (works (held entries))) all ∙ sym (rows_are now entries);
      acls = between.acls
          ∙ ap (λ xs. acls_by_client (mitigates (works (held entries)) xs) (held entries)) all
          ∙ sym (lists_are now entries);
    }
  where
    own_lives : (m : Mitigation) → (not (m.put.domain == m.put.domain) || lives_at now m) ≡ true → lives_at now m ≡ true
    own_lives m is = sym (ap (λ b. not b || lives_at now m) (eq-eqb m.put.domain m.put.domain refl)) ∙ is

-- ---- one more entry

scrubs_of_puts : (working : Entry → Bool) (ms ns : List Mitigation) → map (λ (m : Mitigation). m.put) ms ≡ map (λ (m : Mitigation). m.put) ns
    → scrubs_by working ms ≡ scrubs_by working ns
scrubs_of_puts working ms ns same =
    sym (flat_map-map (λ e. rows_with (working e) e) (λ (m : Mitigation). m.put) ms)
    ∙ ap (flat_map (λ e. rows_with (working e) e)) same
    ∙ flat_map-map (λ e. rows_with (working e) e) (λ (m : Mitigation). m.put) ns

any_of_puts : (p : Entry → Bool) (ms : List Mitigation) → list_any (λ (m : Mitigation). p m.put) ms ≡ list_any p (map (λ (m : Mitigation). m.put) ms)
any_of_puts p [] = refl
any_of_puts p (m ∷ ms) = ap (λ b. p m.put || b) (any_of_puts p ms)

mitigates_puts : (working : Entry → Bool) (ms ns : List Mitigation) → map (λ (m : Mitigation). m.put) ms ≡ map (λ (m : Mitigation). m.put) ns → (e : Entry)
    → mitigates working ms e ≡ mitigates working ns e
mitigates_puts working ms ns same e =
    any_of_puts (λ x. same_client e x && working x) ms
    ∙ ap (list_any (λ x. same_client e x && working x)) same
    ∙ sym (any_of_puts (λ x. same_client e x && working x) ns)

-- a live one that the entry doesn't end stays live
goes_on : (put : Entry) (s : Status) (e : Entry) → live e.time put s ≡ true → ends put e ≡ false → live e.time put (step put s e) ≡ true
goes_on put Ended e is out = is
goes_on put Open e is out =
    ap (λ b. live e.time put (cond b Ended (cond (withdraws put e) (Withdrawn e.time) Open))) out ∙ by_withdrawal (withdraws put e)
  where
    still : runs e.time put ≡ true
    still = left (runs e.time put) is
      where
        left : (b : Bool) → (b || false) ≡ true → b ≡ true
        left true yes_ = refl
        left false no_ = absurd (false≢true no_)

    by_withdrawal : (b : Bool) → live e.time put (cond b (Withdrawn e.time) Open) ≡ true
    by_withdrawal true = ap (λ b. b && nat_lt e.time (e.time + 120)) still ∙ lt-ltb e.time (e.time + 120) (omega arith)
    by_withdrawal false = is
goes_on put (Withdrawn at) e is out = ap (λ b. live e.time put (cond b Ended (Withdrawn at))) out ∙ is

ended_is : (put : Entry) (s : Status) (e : Entry) → ends put e ≡ true → step put s e ≡ Ended
ended_is put Ended e is = refl
ended_is put Open e is = ap (λ b. cond b Ended (cond (withdraws put e) (Withdrawn e.time) Open)) is
ended_is put (Withdrawn at) e is = ap (λ b. cond b Ended (Withdrawn at)) is

puts_with : (e : Entry) (ms : List Mitigation) → list_all (lives_at e.time) ms ≡ true
    → map (λ (m : Mitigation). m.put) (mitigations_with e ms)
    ≡ map (λ (m : Mitigation). m.put) (filter (stays_beside e) ms ++ own_of e)
puts_with e [] all = refl
puts_with e (m ∷ ms) all =
    let parts = and_parts (lives_at e.time m) (list_all (lives_at e.time) ms) all in
    let go = puts_with e ms parts.1 in
    elim (cases_Bool (ends m.put e)) [
      | inl ended ↦
          ap (λ s. map (λ (x : Mitigation). x.put) (cond (live e.time m.put s) (record { put = m.put; status = s } ∷ mitigations_with e ms) (mitigations_with e ms))) (ended_is m.put m.status e ended)
          ∙ go
          ∙ sym (ap
          (λ b.
          map
          (λ (x : Mitigation). x.put)
          (cond (not b) (m ∷ filter (stays_beside e) ms) (filter (stays_beside e) ms) ++ own_of e))
          ended)
      | inr stays ↦
          ap
          (λ b. map (λ (x : Mitigation). x.put) (cond b (moved e m ∷ mitigations_with e ms) (mitigations_with e ms)))
          (goes_on m.put m.status e parts.0 stays)
          ∙ ap (λ xs. m.put ∷ xs) go
          ∙ sym (ap
          (λ b.
          map
          (λ (x : Mitigation). x.put)
          (cond (not b) (m ∷ filter (stays_beside e) ms) (filter (stays_beside e) ms) ++ own_of e))
          stays)
    ]

-- a mitigation that it ends is of its domain
keeps_beside : (e : Entry) (m : Mitigation) → keeps e.domain (stays_beside e) m ≡ stays_beside e m
unfolding ends same_client
keeps_beside e m = by_ends (m.put.domain == e.domain) (bytes_eq m.put.cuid e.cuid) (replaces m.put.change e.change)
  where
    by_ends : (d c r : Bool) → not (d && not (not ((d && c) && r))) ≡ not ((d && c) && r)
    by_ends true true true = refl
    by_ends true true false = refl
    by_ends true false r = refl
    by_ends false c r = refl

own_scrubs : (lost : ℕ → ℕ → Bool) (e : Entry) → scrubs_by (works_by lost) (own_of e) ≡ own_rows lost e
own_scrubs lost e = by_live (lives_at_once e)
  where
    by_live : (b : Bool) → scrubs_by (works_by lost) (cond b (record { put = e; status = Open } ∷ []) []) ≡ cond b (rows_with (works_by lost e) e) []
    by_live true = append-nil (rows_with (works_by lost e) e)
    by_live false = refl

pub put_represents : (lost : ℕ → ℕ → Bool) (lived : LiveValue) (filters new : FiltersValue) (e : Entry) (entries : List Entry) → e.time ≡ lived.time
    → e.domain < lived.domains → puts e ≡ true → lives.Represents lived entries → Represents filters lived.time entries
    → ((peer domain : ℕ) → lost peer domain ≡ is_lost_in (held entries) peer domain) → new ≡ filters_put lost e (rows_for lived e.domain) filters
    → held (entries ++ e ∷ []) ≡ held entries → Represents new e.time (entries ++ e ∷ [])
put_represents lost lived filters new e entries at within put alive stands losses is same =
    let ms = mitigations lived.time entries in
    let after = mitigations e.time (entries ++ e ∷ []) in
    let left = filter (stays_beside e) ms ++ own_of e in
    let lost_there = is_lost_in (held entries) in
    let working = works (held entries) in
    let made : new ≡ filters_put lost_there e (mitigations_of e.domain ms) filters =
    is
    ∙ ap (λ test. filters_put test e (rows_for lived e.domain) filters) (tests_same lost (held entries) losses)
    ∙ ap (λ kept. filters_put lost_there e kept filters) (rows_are_bare lived entries e.domain within alive)
    ∙ put_bare lost_there e (mitigations_of e.domain ms) filters in
    let with_e : after ≡ mitigations_with e ms = adding lived.time e entries (omega (arith, at)) in
    let puts_are : map (λ (m : Mitigation). m.put) after ≡ map (λ (m : Mitigation). m.put) left =
    ap (map (λ (m : Mitigation). m.put)) with_e ∙ puts_with e ms (ap (λ t. list_all (lives_at t) ms) at ∙ all_live lived.time entries) in
    record {
      scrubs = ap (λ (f : FiltersValue). f.scrubs) made
          ∙ ap (λ rows. rows ++ own_rows lost_there e)
          (ap (scrubs_without e.domain (stays_beside e) (mitigations_of e.domain ms)) (stands.scrubs ∙ rows_are lived.time entries)
          ∙ scrubs_left working e.domain (stays_beside e) ms (live_keyed lived.time entries)
          ∙ ap (scrubs_by working) (filter_by (keeps e.domain (stays_beside e)) (stays_beside e) (keeps_beside e) ms))
          ∙ ap (λ rows. scrubs_by working (filter (stays_beside e) ms) ++ rows) (sym (own_scrubs lost_there e))
          ∙ sym (flat_map-append (λ (m : Mitigation). rows_with (working m.put) m.put) (filter (stays_beside e) ms) (own_of e))
          ∙ sym (scrubs_of_puts working after left puts_are)
          ∙ ap (λ standing. scrubs_by (works standing) after) (sym same)
          ∙ sym (rows_are e.time (entries ++ e ∷ []));
      acls = ap (λ (f : FiltersValue). f.acls) made
          ∙ ap
          (map (activated_row e.domain e.cuid (works_at_once lost_there e || some_of (works_beside lost_there e) e.cuid (mitigations_of e.domain ms))))
          (stands.acls ∙ lists_are lived.time entries)
          ∙ acls_put working e ms (held entries)
          ∙ sym (same_clients (mitigates working after) (mitigates working left) (mitigates_puts working after left puts_are) (held entries))
          ∙ ap (λ standing. acls_by_client (mitigates (works standing) after) standing) (sym same)
          ∙ sym (lists_are e.time (entries ++ e ∷ []));
    }

-- ---- one that puts none

ends_none : (m : Mitigation) (e : Entry) → puts e ≡ false → stays_beside e m ≡ true
unfolding ends replaces
ends_none m e out = not_from_false (ends m.put e) (ap (λ b. same_client m.put e && b) (nothing (put_of m.put.change) (put_of e.change) (puts_none e out)) ∙ none (same_client m.put e))
  where
    none : (a : Bool) → (a && false) ≡ false
    none true = refl
    none false = refl

    nothing : (a b : Option Put) → b ≡ None → holds_of_both (λ (p q : Put). (p.mid == q.mid) || (same_flag p.trigger q.trigger && overlaps true p q)) a b ≡ false
    nothing None b is = refl
    nothing (Some p) None is = refl
    nothing (Some p) (Some q) is = absurd (none-some q (sym is))

quiet_puts : (e : Entry) (ms : List Mitigation) → puts e ≡ false → list_all (lives_at e.time) ms ≡ true
    → map (λ (m : Mitigation). m.put) (mitigations_with e ms) ≡ map (λ (m : Mitigation). m.put) ms
quiet_puts e ms out all =
    puts_with e ms all
    ∙ ap
    (λ b. map (λ (m : Mitigation). m.put) (filter (stays_beside e) ms ++ cond b (record { put = e; status = Open } ∷ []) []))
    (never_live e.time e Open (puts_none e out))
    ∙ ap (map (λ (m : Mitigation). m.put)) (append-nil (filter (stays_beside e) ms) ∙ filter_all (stays_beside e) (λ m. ends_none m e out) ms)

-- the client of an entry mitigates, by the domain's
pub client_mitigates : (lost : ℕ → ℕ → Bool) (lived : LiveValue) (e : Entry) (entries : List Entry) → e.domain < lived.domains → lives.Represents lived entries
    → ((peer domain : ℕ) → lost peer domain ≡ is_lost_in (held entries) peer domain)
    → some_of (is_working lost) e.cuid (rows_for lived e.domain) ≡ mitigates (works (held entries)) (mitigations lived.time entries) e
client_mitigates lost lived e entries within alive losses =
    let ms = mitigations lived.time entries in
    let lost_there = is_lost_in (held entries) in
    ap (λ test. some_of (is_working test) e.cuid (rows_for lived e.domain)) (tests_same lost (held entries) losses)
    ∙ ap (some_of (is_working lost_there) e.cuid) (rows_are_bare lived entries e.domain within alive)
    ∙ some_bare (is_working lost_there) (λ m. refl) e.cuid (mitigations_of e.domain ms)
    ∙ some_working e.domain e (works (held entries)) ms refl

pub write_represents : (lived : LiveValue) (filters new : FiltersValue) (mitigating : Bool) (acls : List Acl) (e : Entry) (entries : List Entry) → e.time ≡ lived.time
    → puts e ≡ false → is_loss e.change ≡ false → lives.Represents lived entries → Represents filters lived.time entries
    → new ≡ filters_written mitigating acls e filters
    → ((acl : Acl) → acl_of e.change ≡ Some acl → mitigating ≡ mitigates (works (held entries)) (mitigations lived.time entries) e)
    → acls ≡ acls_of (client_of e) (held entries) → Represents new e.time (entries ++ e ∷ [])
write_represents lived filters new mitigating acls e entries at out quiet alive stands is same are =
    let ms = mitigations lived.time entries in
    let after = mitigations e.time (entries ++ e ∷ []) in
    let working = works (held entries) in
    let still : works (held (entries ++ e ∷ [])) ≡ working = quiet_works e entries quiet in
    let with_e : after ≡ mitigations_with e ms = adding lived.time e entries (omega (arith, at)) in
    let puts_are : map (λ (m : Mitigation). m.put) after ≡ map (λ (m : Mitigation). m.put) ms =
    ap (map (λ (m : Mitigation). m.put)) with_e ∙ quiet_puts e ms out (ap (λ t. list_all (lives_at t) ms) at ∙ all_live lived.time entries) in
    record {
      scrubs = ap (λ (f : FiltersValue). f.scrubs) is
          ∙ stands.scrubs
          ∙ rows_are lived.time entries
          ∙ sym (scrubs_of_puts working after ms puts_are)
          ∙ ap (λ test. scrubs_by test after) (sym still)
          ∙ sym (rows_are e.time (entries ++ e ∷ []));
      acls = ap (λ (f : FiltersValue). f.acls) is
          ∙ ap (acls_by mitigating acls e e.change) (stands.acls ∙ lists_are lived.time entries)
          ∙ acls_written (mitigates working ms) mitigating acls e (held entries) same are
          ∙ sym (ap (acls_by_client (mitigates working ms)) (held_push e entries))
          ∙ sym (same_clients (mitigates working after) (mitigates working ms) (mitigates_puts working after ms puts_are) (held (entries ++ e ∷ [])))
          ∙ ap (λ test. acls_by_client (mitigates test after) (held (entries ++ e ∷ []))) (sym still)
          ∙ sym (lists_are e.time (entries ++ e ∷ []));
    }

-- ---- one that says that a signal is lost or back

loss_signals : (c : Change) → is_loss c ≡ true → is_signal c ≡ false
unfolding is_loss is_signal
loss_signals change.Lost is = refl
loss_signals change.Back is = refl
loss_signals _ is = absurd (false≢true is)

-- it changes no mitigation
loss_mitigations : (t : ℕ) (e : Entry) (entries : List Entry) → e.time ≡ t → is_loss e.change ≡ true
    → mitigations e.time (entries ++ e ∷ []) ≡ mitigations t entries
loss_mitigations t e entries at loss =
    let ms = mitigations t entries in
    adding t e entries (omega (arith, at))
    ∙ quiet_with e ms (loss_signals e.change loss)
    ∙ ap (λ u. mitigations_at u ms) at
    ∙ all_at t ms (λ m there. all_in (lives_at t) m ms (all_live t entries) there)

-- The test is that of the history with the entry.
module _ (lost : ℕ → ℕ → Bool) (filters new : FiltersValue) (t : ℕ) (e : Entry) (entries : List Entry) (at : e.time ≡ t) (loss : is_loss e.change ≡ true)
    (stands : Represents filters t entries) (losses : (peer domain : ℕ) → lost peer domain ≡ is_lost_in (held (entries ++ e ∷ [])) peer domain) where
  abbrev ms : List Mitigation
  ms = mitigations t entries

  abbrev standing : List Entry
  standing = held (entries ++ e ∷ [])

  changes : (m : Mitigation) → In m ms
      → works standing m.put ≡ cond (goes_from e.domain (is_waiting_for e.peer) m) (is_lost_in standing e.peer e.domain) (works (held entries) m.put)
  changes m there = works_after e entries m (all_in (λ (x : Mitigation). puts x.put) m ms (live_keyed t entries).puts there)

  rows_by_domain : new ≡ filters_lost (is_lost_in standing) e.peer e.domain (mitigations_of e.domain ms) filters → Represents new e.time (entries ++ e ∷ [])
  rows_by_domain made =
      let goes = is_waiting_for e.peer in
      let active = is_lost_in standing e.peer e.domain in
      let same = loss_mitigations t e entries at loss in
      record {
        scrubs = ap (λ (f : FiltersValue). f.scrubs) made
            ∙ ap (map (woken_row e.domain goes active (mitigations_of e.domain ms))) (stands.scrubs ∙ rows_are t entries)
            ∙ scrubs_woken e.domain goes active (works (held entries)) (works standing) ms (live_keyed t entries) changes
            ∙ ap (scrubs_by (works standing)) (sym same)
            ∙ sym (rows_are e.time (entries ++ e ∷ []));
        acls = ap (λ (f : FiltersValue). f.acls) made
            ∙ ap
            (map (settled_row e.domain goes (is_working (is_lost_in standing)) (mitigations_of e.domain ms) (mitigations_of e.domain ms)))
            (stands.acls ∙ lists_are t entries)
            ∙ acls_woken
            e.domain
            goes
            (works (held entries))
            (works standing)
            ms
            (held entries)
            (λ m there kept. changes m there ∙ cond-false (goes_from e.domain goes m) active (works (held entries) m.put) kept)
            ∙ sym (acls_lost (mitigates (works standing) ms) e (held entries) loss)
            ∙ sym (ap (acls_by_client (mitigates (works standing) ms)) (held_push e entries))
            ∙ ap (λ xs. acls_by_client (mitigates (works standing) xs) standing) (sym same)
            ∙ sym (lists_are e.time (entries ++ e ∷ []));
      }

  rows_by_bare : (kept : List Mitigation) → kept ≡ map bare_mitigation (mitigations_of e.domain ms) → new ≡ filters_lost lost e.peer e.domain kept filters
      → Represents new e.time (entries ++ e ∷ [])
  rows_by_bare kept same is =
      rows_by_domain
      (is
      ∙ ap (λ test. filters_lost test e.peer e.domain kept filters) (tests_same lost standing losses)
      ∙ ap (λ given. filters_lost (is_lost_in standing) e.peer e.domain given filters) same
      ∙ lost_bare (is_lost_in standing) e.peer e.domain (mitigations_of e.domain ms) filters)

-- by the mitigations as they are kept before the entry
pub lost_represents : (lost : ℕ → ℕ → Bool) (lived : LiveValue) (filters new : FiltersValue) (e : Entry) (entries : List Entry) → e.time ≡ lived.time
    → e.domain < lived.domains → is_loss e.change ≡ true → lives.Represents lived entries → Represents filters lived.time entries
    → ((peer domain : ℕ) → lost peer domain ≡ is_lost_in (held (entries ++ e ∷ [])) peer domain)
    → new ≡ filters_lost lost e.peer e.domain (rows_for lived e.domain) filters → Represents new e.time (entries ++ e ∷ [])
lost_represents lost lived filters new e entries at within loss alive stands losses is =
    rows_by_bare lost filters new lived.time e entries at loss stands losses (rows_for lived e.domain) (rows_are_bare lived entries e.domain within alive) is

-- and after it
pub lost_represents_noted : (lost : ℕ → ℕ → Bool) (noted : LiveValue) (filters new : FiltersValue) (e : Entry) (entries : List Entry) → e.time ≡ noted.time
    → e.domain < noted.domains → is_loss e.change ≡ true → lives.Represents noted (entries ++ e ∷ []) → Represents filters e.time entries
    → ((peer domain : ℕ) → lost peer domain ≡ is_lost_in (held (entries ++ e ∷ [])) peer domain)
    → new ≡ filters_lost lost e.peer e.domain (rows_for noted e.domain) filters → Represents new e.time (entries ++ e ∷ [])
lost_represents_noted lost noted filters new e entries at within loss alive stands losses is =
    rows_by_bare
    lost
    filters
    new
    e.time
    e
    entries
    refl
    loss
    stands
    losses
    (rows_for noted e.domain)
    (rows_are_bare noted (entries ++ e ∷ []) e.domain within alive
    ∙ ap (λ t. map bare_mitigation (mitigations_of e.domain (mitigations t (entries ++ e ∷ [])))) (sym at)
    ∙ ap (λ xs. map bare_mitigation (mitigations_of e.domain xs)) (loss_mitigations e.time e entries refl loss))
    is

-- ---- what histories of one view come to

pub rows_same : (filters : FiltersValue) (t : ℕ) (xs ys : List Entry) → mitigations t xs ≡ mitigations t ys → held xs ≡ held ys → Represents filters t ys
    → Represents filters t xs
rows_same filters t xs ys alive standing stands = record {
  scrubs = stands.scrubs
      ∙ rows_are t ys
      ∙ ap (scrubs_by (works (held ys))) (sym alive)
      ∙ ap (λ es. scrubs_by (works es) (mitigations t xs)) (sym standing)
      ∙ sym (rows_are t xs);
  acls = stands.acls
      ∙ lists_are t ys
      ∙ ap (λ ms. acls_by_client (mitigates (works (held ys)) ms) (held ys)) (sym alive)
      ∙ ap (λ es. acls_by_client (mitigates (works es) (mitigations t xs)) es) (sym standing)
      ∙ sym (lists_are t xs);
}
