-- Of the rows of live mitigations those of a few go, by client and mid.
use Rattle.std.proofs.Common.{◌≡◌, ℕ, ◌≤◌, Bool, true, false, cond, not, ◌&&◌, ◌||◌, List, [], ◌∷◌, ◌++◌, map, filter, Option, Some, None, inl, inr, refl, sym, ap, ◌∙◌, le_trans}
use Rattle.std.specs.Prelude.{bytes_eq, ◌==◌, option_to_list}
use Rattle.std.specs.List.{list_any, list_all, flat_map}
use Rattle.std.proofs.lemmas.Bool.{false≢true, both_ways, cond_both, cond-true, cond-false, cases_Bool, and_parts, and_from, eqb-true, eq-eqb}
use Rattle.std.proofs.lemmas.List.{map-append}
use Rattle.std.proofs.lemmas.List.Elements.{filter-append}
use Rattle.ip_scope.specs.Prefix.{PrefixValue}
use Rattle.acl_lists.specs.declared.rows.ScrubRow.{ScrubRow}
use Rattle.filter_table.specs.TableRows.{row_set}
use Rattle.dots_history.specs.declared.entry.Entry.{Entry}
use Rattle.dots_history.specs.declared.put.Put.{Put}
use Rattle.dots_history.specs.declared.put.Target.{Target}
use Rattle.dots_history.specs.declared.change.Change.{Change}
use Rattle.dots_history.specs.declared.change.Change.TheVariants as change
use Rattle.dots_history.specs.declared.status.Status.TheVariants.{Open}
use Rattle.dots_history.specs.Entries.{put_of, option_any}
use Rattle.dots_history.specs.Histories.{Mitigation, tally, live, status, mitigations, held}
use Rattle.dots_history.specs.Rows.{Row, rows_of, targets_of, works, plain_row, mid_of, plain_rows}
use Rattle.dots_history.specs.Tables.{Client, client_of, is_of, has_mid}
use Rattle.dots_history.specs.Views.{mitigations_of}
use Rattle.dots_history.proofs.Keyed.{fewer_left}
use Rattle.dots_history.proofs.Members.{In}
use Rattle.dots_history.proofs.Single.{one_mid, client_is_of}
use Rattle.dots_history.proofs.Touching.{never_live}
use Rattle.live_mitigations.specs.LiveValues.{puts}
use Rattle.held_resources.proofs.Holdings.{turned_eq}
use Rattle.installed_filters.specs.Filters.{FiltersValue, with_rows, scrub_row_with, rows_with, rows_put, own_rows, lives_at_once, works_by, is_row_of, scrubs_without, woken_row}
use Rattle.installed_filters.proofs.Sieving.{any_filter, only_one, left_of_each, changed_each, all_filter, all_in}

-- a row of each prefix, as the mitigation of an entry has it
abbrev row_of : Entry → Target → PrefixValue → Row
row_of e target prefix = record { put = e; target = target; prefix = prefix }

abbrev rows_in : Entry → List Target → List Row
rows_in e targets = flat_map (λ (target : Target). map (row_of e target) target.prefixes) targets

-- the rows of mitigations, in their order, by which of these filter
abbrev pub scrubs_by : (Entry → Bool) → List Mitigation → List ScrubRow
scrubs_by working ms = flat_map (λ (m : Mitigation). rows_with (working m.put) m.put) ms

prefixes_plain : (standing : List Entry) (e : Entry) (target : Target) (prefixes : List PrefixValue)
    → map (plain_row standing) (map (row_of e target) prefixes) ≡ map (scrub_row_with (works standing e)) (map (row_of e target) prefixes)
prefixes_plain standing e target [] = refl
prefixes_plain standing e target (prefix ∷ prefixes) =
    ap (λ rows. plain_row standing (row_of e target prefix) ∷ rows) (prefixes_plain standing e target prefixes)

targets_plain : (standing : List Entry) (e : Entry) (targets : List Target)
    → map (plain_row standing) (rows_in e targets) ≡ map (scrub_row_with (works standing e)) (rows_in e targets)
targets_plain standing e [] = refl
targets_plain standing e (target ∷ targets) =
    let here = map (row_of e target) target.prefixes in
    map-append (plain_row standing) here (rows_in e targets)
    ∙ ap (λ rows. rows ++ map (plain_row standing) (rows_in e targets)) (prefixes_plain standing e target target.prefixes)
    ∙ ap (λ rows. map (scrub_row_with (works standing e)) here ++ rows) (targets_plain standing e targets)
    ∙ sym (map-append (scrub_row_with (works standing e)) here (rows_in e targets))

in_one : (standing : List Entry) (ms : List Mitigation)
    → map (plain_row standing) (flat_map (λ (m : Mitigation). rows_of m.put) ms) ≡ scrubs_by (works standing) ms
in_one standing [] = refl
in_one standing (m ∷ ms) =
    map-append (plain_row standing) (rows_of m.put) (flat_map (λ (x : Mitigation). rows_of x.put) ms)
    ∙ ap (λ rows. rows ++ map (plain_row standing) (flat_map (λ (x : Mitigation). rows_of x.put) ms)) (targets_plain standing m.put (targets_of m.put.change))
    ∙ ap (λ rows. rows_with (works standing m.put) m.put ++ rows) (in_one standing ms)

pub rows_are : (t : ℕ) (entries : List Entry) → plain_rows t entries ≡ scrubs_by (works (held entries)) (mitigations t entries)
rows_are t entries = in_one (held entries) (mitigations t entries)

-- ---- each is of one mitigation

-- they are mitigations, and at most one of a client has a mid
pub record Keyed (ms : List Mitigation) : Type 0 where
  pub puts : list_all (λ (m : Mitigation). puts m.put) ms ≡ true
  pub one : (client : Client) (mid : ℕ) → tally (λ (m : Mitigation). is_of client m.put && has_mid mid m.put) ms ≤ 1

put_if_live : (t : ℕ) (e : Entry) (later : List Entry) → live t e (status e Open later) ≡ true → puts e ≡ true
put_if_live t e later is = by_put (put_of e.change) refl
  where
    by_put : (o : Option Put) → put_of e.change ≡ o → option_any (λ (put : Put). true) (put_of e.change) ≡ true
    by_put None none = absurd (both_ways (live t e (status e Open later)) (never_live t e (status e Open later) none) is)
    by_put (Some put) there = ap (option_any (λ (p : Put). true)) there

all_put : (t : ℕ) (entries : List Entry) → list_all (λ (m : Mitigation). puts m.put) (mitigations t entries) ≡ true
all_put t [] = refl
all_put t (e ∷ later) =
    cond_both
    (live t e (status e Open later))
    (Some (record { put = e; status = status e Open later }))
    None
    (λ o. list_all (λ (m : Mitigation). puts m.put) (option_to_list o ++ mitigations t later) ≡ true)
    (λ is. and_from (puts e) (list_all (λ (m : Mitigation). puts m.put) (mitigations t later)) (put_if_live t e later is) (all_put t later))
    (λ dead. all_put t later)

pub live_keyed : (t : ℕ) (entries : List Entry) → Keyed (mitigations t entries)
live_keyed t entries = record { puts = all_put t entries; one = λ client mid. one_mid client mid t entries }

pub left_keyed : (keep : Mitigation → Bool) (ms : List Mitigation) → Keyed ms → Keyed (filter keep ms)
left_keyed keep ms keyed = record {
  puts = all_filter (λ (m : Mitigation). puts m.put) keep ms keyed.puts;
  one = λ client mid. le_trans (fewer_left keep (λ (m : Mitigation). is_of client m.put && has_mid mid m.put) ms) (keyed.one client mid);
}

-- ---- by client and mid

abbrev has_key : Entry → Mitigation → Bool
has_key e m = is_of (client_of e) m.put && has_mid (mid_of e.change) m.put

mid_has : (c : Change) → option_any (λ (put : Put). true) (put_of c) ≡ true → option_any (λ (put : Put). put.mid == mid_of c) (put_of c) ≡ true
mid_has (change.Put put) is = eq-eqb put.mid put.mid refl
mid_has _ is = absurd (false≢true is)

own_key : (m : Mitigation) → puts m.put ≡ true → has_key m.put m ≡ true
own_key m is = and_from (is_of (client_of m.put) m.put) (has_mid (mid_of m.put.change) m.put) (client_is_of m.put) (mid_has m.put.change is)

mid_same : (mid : ℕ) (c : Change) → option_any (λ (put : Put). true) (put_of c) ≡ true
    → (mid == mid_of c) ≡ option_any (λ (put : Put). put.mid == mid) (put_of c)
mid_same mid (change.Put put) is = turned_eq mid put.mid
mid_same mid _ is = absurd (false≢true is)

-- a row of the mitigation that e puts is one of m, in the domain, where both have one key
by_key : (domain : ℕ) (active : Bool) (e : Entry) (target : Target) (prefix : PrefixValue) (m : Mitigation) → puts m.put ≡ true → (m.put.domain == domain) ≡ true
    → is_row_of domain m (scrub_row_with active (row_of e target prefix)) ≡ has_key e m
unfolding is_of
by_key domain active e target prefix m is own =
    ap (λ d. ((e.domain == d) && bytes_eq e.cuid m.put.cuid) && (mid_of e.change == mid_of m.put.change)) (sym (eqb-true m.put.domain domain own))
    ∙ ap (λ b. ((e.domain == m.put.domain) && bytes_eq e.cuid m.put.cuid) && b) (mid_same (mid_of e.change) m.put.change is)

-- it is of the domain, and goes
abbrev pub goes_from : ℕ → (Mitigation → Bool) → Mitigation → Bool
goes_from domain goes m = (m.put.domain == domain) && goes m

abbrev pub keeps : ℕ → (Mitigation → Bool) → Mitigation → Bool
keeps domain stays m = not ((m.put.domain == domain) && not (stays m))

-- a test of a list of mitigations, where a premise holds for each
any_of_puts : (p q : Mitigation → Bool) (ms : List Mitigation) → list_all (λ (m : Mitigation). puts m.put) ms ≡ true
    → ((m : Mitigation) → puts m.put ≡ true → p m ≡ q m) → list_any p ms ≡ list_any q ms
any_of_puts p q [] all same = refl
any_of_puts p q (m ∷ ms) all same =
    let parts = and_parts (puts m.put) (list_all (λ (x : Mitigation). puts x.put) ms) all in
    ap (λ b. b || list_any p ms) (same m parts.0) ∙ ap (λ b. q m || b) (any_of_puts p q ms parts.1 same)

-- some of the domain that goes has the key of one of them: just where that one is of the domain and goes
row_goes : (domain : ℕ) (goes : Mitigation → Bool) (ms : List Mitigation) → Keyed ms → (x : Mitigation) → In x ms → (active : Bool) (target : Target) (prefix : PrefixValue)
    → list_any (λ m. goes m && is_row_of domain m (scrub_row_with active (row_of x.put target prefix))) (mitigations_of domain ms)
    ≡ goes_from domain goes x
row_goes domain goes ms keyed x there active target prefix =
    let row = scrub_row_with active (row_of x.put target prefix) in
    any_filter (λ m. goes m && is_row_of domain m row) (λ (m : Mitigation). m.put.domain == domain) ms
    ∙ any_of_puts
    (λ m. (m.put.domain == domain) && (goes m && is_row_of domain m row))
    (λ m. goes_from domain goes m && has_key x.put m)
    ms
    keyed.puts
    (λ m is.
    elim (cases_Bool (m.put.domain == domain)) [
      | inl own ↦
          ap (λ b. (m.put.domain == domain) && (goes m && b)) (by_key domain active x.put target prefix m is own)
          ∙ turned (m.put.domain == domain) (goes m) (has_key x.put m)
      | inr other ↦
          ap (λ b. b && (goes m && is_row_of domain m row)) other
          ∙ sym (ap (λ b. (b && goes m) && has_key x.put m) other)
    ])
    ∙ only_one
    (has_key x.put)
    (goes_from domain goes)
    x
    ms
    there
    (keyed.one (client_of x.put) (mid_of x.put.change))
    (own_key x (all_in (λ (m : Mitigation). puts m.put) x ms keyed.puts there))
  where
    turned : (a b c : Bool) → (a && (b && c)) ≡ ((a && b) && c)
    turned true b c = refl
    turned false b c = refl

-- ---- all rows of one

prefixes_left : (p : ScrubRow → Bool) (b active : Bool) (e : Entry) (target : Target) (prefixes : List PrefixValue)
    → ((prefix : PrefixValue) → p (scrub_row_with active (row_of e target prefix)) ≡ b)
    → filter p (map (scrub_row_with active) (map (row_of e target) prefixes)) ≡ cond b (map (scrub_row_with active) (map (row_of e target) prefixes)) []
prefixes_left p true active e target [] same = refl
prefixes_left p false active e target [] same = refl
prefixes_left p true active e target (prefix ∷ prefixes) same =
    let row = scrub_row_with active (row_of e target prefix) in
    let rest = map (scrub_row_with active) (map (row_of e target) prefixes) in
    cond-true (p row) (row ∷ filter p rest) (filter p rest) (same prefix) ∙ ap (λ rows. row ∷ rows) (prefixes_left p true active e target prefixes same)
prefixes_left p false active e target (prefix ∷ prefixes) same =
    let row = scrub_row_with active (row_of e target prefix) in
    let rest = map (scrub_row_with active) (map (row_of e target) prefixes) in
    cond-false (p row) (row ∷ filter p rest) (filter p rest) (same prefix) ∙ prefixes_left p false active e target prefixes same

targets_left : (p : ScrubRow → Bool) (b active : Bool) (e : Entry) (targets : List Target)
    → ((target : Target) (prefix : PrefixValue) → p (scrub_row_with active (row_of e target prefix)) ≡ b)
    → filter p (map (scrub_row_with active) (rows_in e targets)) ≡ cond b (map (scrub_row_with active) (rows_in e targets)) []
targets_left p true active e [] same = refl
targets_left p false active e [] same = refl
targets_left p b active e (target ∷ targets) same =
    let here = map (row_of e target) target.prefixes in
    ap (filter p) (map-append (scrub_row_with active) here (rows_in e targets))
    ∙ filter-append p (map (scrub_row_with active) here) (map (scrub_row_with active) (rows_in e targets))
    ∙ ap (λ rows. rows ++ filter p (map (scrub_row_with active) (rows_in e targets))) (prefixes_left p b active e target target.prefixes (same target))
    ∙ ap (λ rows. cond b (map (scrub_row_with active) here) [] ++ rows) (targets_left p b active e targets same)
    ∙ both b (map (scrub_row_with active) here) (map (scrub_row_with active) (rows_in e targets))
    ∙ ap (λ rows. cond b rows []) (sym (map-append (scrub_row_with active) here (rows_in e targets)))
  where
    both : (c : Bool) (xs ys : List ScrubRow) → cond c xs [] ++ cond c ys [] ≡ cond c (xs ++ ys) []
    both true xs ys = refl
    both false xs ys = refl

-- where each becomes active or not
prefixes_changed : (f : ScrubRow → ScrubRow) (before after : Bool) (e : Entry) (target : Target) (prefixes : List PrefixValue)
    → ((prefix : PrefixValue) → f (scrub_row_with before (row_of e target prefix)) ≡ scrub_row_with after (row_of e target prefix))
    → map f (map (scrub_row_with before) (map (row_of e target) prefixes)) ≡ map (scrub_row_with after) (map (row_of e target) prefixes)
prefixes_changed f before after e target [] same = refl
prefixes_changed f before after e target (prefix ∷ prefixes) same =
    ap (λ row. row ∷ map f (map (scrub_row_with before) (map (row_of e target) prefixes))) (same prefix)
    ∙ ap (λ rows. scrub_row_with after (row_of e target prefix) ∷ rows) (prefixes_changed f before after e target prefixes same)

targets_changed : (f : ScrubRow → ScrubRow) (before after : Bool) (e : Entry) (targets : List Target)
    → ((target : Target) (prefix : PrefixValue) → f (scrub_row_with before (row_of e target prefix)) ≡ scrub_row_with after (row_of e target prefix))
    → map f (map (scrub_row_with before) (rows_in e targets)) ≡ map (scrub_row_with after) (rows_in e targets)
targets_changed f before after e [] same = refl
targets_changed f before after e (target ∷ targets) same =
    let here = map (row_of e target) target.prefixes in
    ap (map f) (map-append (scrub_row_with before) here (rows_in e targets))
    ∙ map-append f (map (scrub_row_with before) here) (map (scrub_row_with before) (rows_in e targets))
    ∙ ap (λ rows. rows ++ map f (map (scrub_row_with before) (rows_in e targets))) (prefixes_changed f before after e target target.prefixes (same target))
    ∙ ap (λ rows. map (scrub_row_with after) here ++ rows) (targets_changed f before after e targets same)
    ∙ sym (map-append (scrub_row_with after) here (rows_in e targets))

-- the rows as they are made, and then made active or not
pub rows_set : (active : Bool) (e : Entry) → map (row_set active) (rows_put e) ≡ rows_with active e
rows_set active e = targets_changed (row_set active) false active e (targets_of e.change) (λ target prefix. refl)

pub own_made : (lost : ℕ → ℕ → Bool) (e : Entry) (own : List ScrubRow) (active : Bool) (filters new : FiltersValue) → own ≡ rows_put e → lives_at_once e ≡ true
    → active ≡ works_by lost e → new ≡ with_rows filters (filters.scrubs ++ map (row_set active) own) filters.acls
    → new ≡ with_rows filters (filters.scrubs ++ own_rows lost e) filters.acls
own_made lost e own active filters new staged lives works_is is =
    is
    ∙ ap
    (λ rows. with_rows filters (filters.scrubs ++ rows) filters.acls)
    (ap (map (row_set active)) staged
    ∙ rows_set active e
    ∙ ap (λ b. rows_with b e) works_is
    ∙ sym (cond-true (lives_at_once e) (rows_with (works_by lost e) e) [] lives))

-- ---- all

pub scrubs_left : (working : Entry → Bool) (domain : ℕ) (stays : Mitigation → Bool) (ms : List Mitigation) → Keyed ms
    → scrubs_without domain stays (mitigations_of domain ms) (scrubs_by working ms) ≡ scrubs_by working (filter (keeps domain stays) ms)
scrubs_left working domain stays ms keyed =
    left_of_each
    (λ (m : Mitigation). rows_with (working m.put) m.put)
    (λ row. not (list_any (λ m. not (stays m) && is_row_of domain m row) (mitigations_of domain ms)))
    (keeps domain stays)
    ms
    (λ x there.
    targets_left
    (λ row. not (list_any (λ m. not (stays m) && is_row_of domain m row) (mitigations_of domain ms)))
    (keeps domain stays x)
    (working x.put)
    x.put
    (targets_of x.put.change)
    (λ target prefix. ap not (row_goes domain (λ m. not (stays m)) ms keyed x there (working x.put) target prefix)))

-- those that filter are others, and differ from those before in some of the domain alone, which are all active or all not
pub scrubs_woken : (domain : ℕ) (goes : Mitigation → Bool) (active : Bool) (before after : Entry → Bool) (ms : List Mitigation) → Keyed ms
    → ((m : Mitigation) → In m ms → after m.put ≡ cond (goes_from domain goes m) active (before m.put))
    → map (woken_row domain goes active (mitigations_of domain ms)) (scrubs_by before ms) ≡ scrubs_by after ms
scrubs_woken domain goes active before after ms keyed same =
    changed_each
    (λ (m : Mitigation). rows_with (before m.put) m.put)
    (λ (m : Mitigation). rows_with (after m.put) m.put)
    (woken_row domain goes active (mitigations_of domain ms))
    ms
    (λ x there.
    targets_changed
    (woken_row domain goes active (mitigations_of domain ms))
    (before x.put)
    (after x.put)
    x.put
    (targets_of x.put.change)
    (λ target prefix.
    let row = scrub_row_with (before x.put) (row_of x.put target prefix) in
    ap (λ b. cond b (row_set active row) row) (row_goes domain goes ms keyed x there (before x.put) target prefix)
    ∙ set_by (goes_from domain goes x) (before x.put) (row_of x.put target prefix)
    ∙ ap (λ b. scrub_row_with b (row_of x.put target prefix)) (sym (same x there))))
  where
    set_by : (b was : Bool) (row : Row) → cond b (row_set active (scrub_row_with was row)) (scrub_row_with was row) ≡ scrub_row_with (cond b active was) row
    set_by true was row = refl
    set_by false was row = refl
