-- The steps of the loops over the mitigations of a domain and over lists.
use Rattle.std.proofs.Common.{◌≡◌, ℕ, ◌+◌, ◌<◌, ◌≤◌, Bool, true, false, cond, not, ◌&&◌, ◌||◌, List, [], ◌∷◌, map, length, drop, get_or, inl, inr, refl, sym, ap, ◌∙◌}
use Rattle.std.specs.Prelude.{bytes_eq, ◌==◌}
use Rattle.std.specs.List.{list_any}
use Rattle.std.proofs.lemmas.Bool.{false≢true, true≢false, cond-true, cond-false, cases_Bool}
use Rattle.std.proofs.lemmas.List.{drop_more, drop_all}
use Rattle.std.proofs.lemmas.Slice.Eq.{bytes_eq-Decides}
use Rattle.acl_lists.specs.declared.acl.Acl.{Acl}
use Rattle.acl_lists.specs.declared.rows.ScrubRow.{ScrubRow}
use Rattle.acl_lists.specs.declared.rows.AclRow.{AclRow}
use Rattle.filter_table.specs.TableRows.{row_set, row_woken, waits}
use Rattle.dots_history.specs.Histories.{Mitigation}
use Rattle.live_mitigations.specs.declared.live_row.LiveRow.{LiveRow}
use Rattle.live_mitigations.specs.LiveRows.{mitigations_in}
use Rattle.dots_history.specs.Rows.{mid_of}
use Rattle.held_resources.proofs.Holdings.{turned_bytes}
use Rattle.installed_filters.specs.Filters.{FiltersValue, with_rows, is_row_of, scrubs_without_one, scrubs_without, woken_row, some_of, settled_row, acl_switched, activated_row, is_named_row, acls_without, acls_without_all}
use Rattle.installed_filters.proofs.Sieving.{filter_by, filter_twice, filter_all, map_by, map_twice, map_none}

-- ---- rows of mitigations

not_either : (a b : Bool) → (not (a || false) && not b) ≡ not (a || b)
not_either true b = refl
not_either false b = refl

without_more : (domain : ℕ) (stays : Mitigation → Bool) (m : Mitigation) (ms : List Mitigation) (rows : List ScrubRow)
    → scrubs_without domain stays ms (scrubs_without domain stays (m ∷ []) rows) ≡ scrubs_without domain stays (m ∷ ms) rows
without_more domain stays m ms rows =
    filter_twice
    (λ row. not (list_any (λ x. not (stays x) && is_row_of domain x row) ms))
    (λ row. not (list_any (λ x. not (stays x) && is_row_of domain x row) (m ∷ [])))
    rows
    ∙ filter_by
    (λ row. not (list_any (λ x. not (stays x) && is_row_of domain x row) (m ∷ [])) && not (list_any (λ x. not (stays x) && is_row_of domain x row) ms))
    (λ row. not (list_any (λ x. not (stays x) && is_row_of domain x row) (m ∷ ms)))
    (λ row. not_either (not (stays m) && is_row_of domain m row) (list_any (λ x. not (stays x) && is_row_of domain x row) ms))
    rows

abbrev pub swept : ℕ → (Mitigation → Bool) → List Mitigation → FiltersValue → FiltersValue
swept domain stays ms filters = with_rows filters (scrubs_without domain stays ms filters.scrubs) filters.acls

pub sweep_none : (domain : ℕ) (stays : Mitigation → Bool) (filters : FiltersValue) → swept domain stays [] filters ≡ filters
sweep_none domain stays filters = ap (λ rows. with_rows filters rows filters.acls) (filter_all (λ row. true) (λ row. refl) filters.scrubs)

pub sweep_more : (domain : ℕ) (stays : Mitigation → Bool) (m : Mitigation) (ms : List Mitigation) (filters new : FiltersValue)
    → new ≡ swept domain stays (m ∷ []) filters → swept domain stays ms new ≡ swept domain stays (m ∷ ms) filters
sweep_more domain stays m ms filters new is =
    ap (swept domain stays ms) is ∙ ap (λ rows. with_rows filters rows filters.acls) (without_more domain stays m ms filters.scrubs)

pub sweep_step : (domain : ℕ) (stays : Mitigation → Bool) (i : ℕ) (rows : List LiveRow) (row : LiveRow) (before new goal : FiltersValue) → i < length rows
    → row ≡ get_or rows i row → new ≡ swept domain stays (row.mitigation ∷ []) before → swept domain stays (mitigations_in (drop i rows)) before ≡ goal → swept domain stays (mitigations_in (drop (i + 1) rows)) new ≡ goal
sweep_step domain stays i rows row before new goal less at is rest =
    sweep_more domain stays row.mitigation (mitigations_in (drop (i + 1) rows)) before new is
    ∙ ap (λ x. swept domain stays (x.mitigation ∷ mitigations_in (drop (i + 1) rows)) before) at
    ∙ ap (λ xs. swept domain stays (mitigations_in xs) before) (sym (drop_more rows i row less))
    ∙ rest

pub sweep_end : (domain : ℕ) (stays : Mitigation → Bool) (i : ℕ) (rows : List LiveRow) (new goal : FiltersValue) → length rows ≤ i
    → swept domain stays (mitigations_in (drop i rows)) new ≡ goal → new ≡ goal
sweep_end domain stays i rows new goal past is =
    sym (sweep_none domain stays new) ∙ ap (λ xs. swept domain stays (mitigations_in xs) new) (sym (drop_all i rows past)) ∙ is

pub sweep_one : (domain : ℕ) (stays : Mitigation → Bool) (m : Mitigation) (cuid : List ℕ) (mid : ℕ) (filters new : FiltersValue) → stays m ≡ false
    → cuid ≡ m.put.cuid → mid ≡ mid_of m.put.change → new ≡ with_rows filters (scrubs_without_one domain cuid mid filters.scrubs) filters.acls
    → new ≡ swept domain stays (m ∷ []) filters
sweep_one domain stays m cuid mid filters new out cuid_is mid_is is =
    is
    ∙ ap (λ rows. with_rows filters rows filters.acls)
    (ap (λ c. scrubs_without_one domain c mid filters.scrubs) cuid_is
    ∙ ap (λ n. scrubs_without_one domain m.put.cuid n filters.scrubs) mid_is
    ∙ filter_by
    (λ row. not (is_row_of domain m row))
    (λ row. not ((not (stays m) && is_row_of domain m row) || false))
    (λ row. by_stays (stays m) out (is_row_of domain m row))
    filters.scrubs)
  where
    by_stays : (s : Bool) → s ≡ false → (b : Bool) → not b ≡ not ((not s && b) || false)
    by_stays true is_out b = absurd (true≢false is_out)
    by_stays false is_out true = refl
    by_stays false is_out false = refl

pub sweep_unchanged : (domain : ℕ) (stays : Mitigation → Bool) (m : Mitigation) (filters : FiltersValue) → stays m ≡ true → filters ≡ swept domain stays (m ∷ []) filters
sweep_unchanged domain stays m filters is =
    ap
    (λ rows. with_rows filters rows filters.acls)
    (sym (filter_all
    (λ row. not ((not (stays m) && is_row_of domain m row) || false))
    (λ row. ap (λ b. not ((not b && is_row_of domain m row) || false)) is)
    filters.scrubs))

-- ---- rows of mitigations that become active or not

woken_unchanged : (domain : ℕ) (goes : Mitigation → Bool) (active : Bool) (m : Mitigation) (ms : List Mitigation) (row : ScrubRow)
    → list_any (λ x. goes x && is_row_of domain x row) (m ∷ []) ≡ false
    → list_any (λ x. goes x && is_row_of domain x row) (m ∷ ms) ≡ list_any (λ x. goes x && is_row_of domain x row) ms
woken_unchanged domain goes active m ms row none = by_test (goes m && is_row_of domain m row) none
  where
    by_test : (b : Bool) → (b || false) ≡ false → (b || list_any (λ x. goes x && is_row_of domain x row) ms) ≡ list_any (λ x. goes x && is_row_of domain x row) ms
    by_test true out = absurd (true≢false out)
    by_test false out = refl

set_twice : (b active : Bool) (row : ScrubRow) → cond b (row_set active (row_set active row)) (row_set active row) ≡ row_set active row
set_twice true active row = refl
set_twice false active row = refl

woken_more : (domain : ℕ) (goes : Mitigation → Bool) (active : Bool) (m : Mitigation) (ms : List Mitigation) (row : ScrubRow)
    → woken_row domain goes active ms (woken_row domain goes active (m ∷ []) row) ≡ woken_row domain goes active (m ∷ ms) row
woken_more domain goes active m ms row =
    let first = list_any (λ x. goes x && is_row_of domain x row) (m ∷ []) in
    let rest = list_any (λ x. goes x && is_row_of domain x row) ms in
    elim (cases_Bool first) [
      | inl is ↦
          ap (woken_row domain goes active ms) (cond-true first (row_set active row) row is)
          ∙ set_twice rest active row
          ∙ sym (cond-true ((goes m && is_row_of domain m row) || rest) (row_set active row) row (or_more (goes m && is_row_of domain m row) rest is))
      | inr out ↦
          ap (woken_row domain goes active ms) (cond-false first (row_set active row) row out)
          ∙ ap (λ b. cond b (row_set active row) row) (sym (woken_unchanged domain goes active m ms row out))
    ]
  where
    or_more : (a b : Bool) → (a || false) ≡ true → (a || b) ≡ true
    or_more true b is = refl
    or_more false b is = absurd (false≢true is)

abbrev pub waked : ℕ → (Mitigation → Bool) → Bool → List Mitigation → FiltersValue → FiltersValue
waked domain goes active ms filters = with_rows filters (map (woken_row domain goes active ms) filters.scrubs) filters.acls

pub wake_none : (domain : ℕ) (goes : Mitigation → Bool) (active : Bool) (filters : FiltersValue) → waked domain goes active [] filters ≡ filters
wake_none domain goes active filters =
    ap (λ rows. with_rows filters rows filters.acls) (map_none (woken_row domain goes active []) (λ row. refl) filters.scrubs)

pub wake_more : (domain : ℕ) (goes : Mitigation → Bool) (active : Bool) (m : Mitigation) (ms : List Mitigation) (filters new : FiltersValue)
    → new ≡ waked domain goes active (m ∷ []) filters → waked domain goes active ms new ≡ waked domain goes active (m ∷ ms) filters
wake_more domain goes active m ms filters new is =
    ap (waked domain goes active ms) is
    ∙ ap
    (λ rows. with_rows filters rows filters.acls)
    (map_twice (woken_row domain goes active ms) (woken_row domain goes active (m ∷ [])) filters.scrubs
    ∙ map_by
    (λ row. woken_row domain goes active ms (woken_row domain goes active (m ∷ []) row))
    (woken_row domain goes active (m ∷ ms))
    (woken_more domain goes active m ms)
    filters.scrubs)

pub wake_step : (domain : ℕ) (goes : Mitigation → Bool) (active : Bool) (i : ℕ) (rows : List LiveRow) (row : LiveRow) (before new goal : FiltersValue) → i < length rows
    → row ≡ get_or rows i row → new ≡ waked domain goes active (row.mitigation ∷ []) before → waked domain goes active (mitigations_in (drop i rows)) before ≡ goal
    → waked domain goes active (mitigations_in (drop (i + 1) rows)) new ≡ goal
wake_step domain goes active i rows row before new goal less at is rest =
    wake_more domain goes active row.mitigation (mitigations_in (drop (i + 1) rows)) before new is
    ∙ ap (λ x. waked domain goes active (x.mitigation ∷ mitigations_in (drop (i + 1) rows)) before) at
    ∙ ap (λ xs. waked domain goes active (mitigations_in xs) before) (sym (drop_more rows i row less))
    ∙ rest

pub wake_end : (domain : ℕ) (goes : Mitigation → Bool) (active : Bool) (i : ℕ) (rows : List LiveRow) (new goal : FiltersValue) → length rows ≤ i
    → waked domain goes active (mitigations_in (drop i rows)) new ≡ goal → new ≡ goal
wake_end domain goes active i rows new goal past is =
    sym (wake_none domain goes active new) ∙ ap (λ xs. waked domain goes active (mitigations_in xs) new) (sym (drop_all i rows past)) ∙ is

pub wake_one : (domain : ℕ) (goes : Mitigation → Bool) (active : Bool) (m : Mitigation) (cuid : List ℕ) (mid : ℕ) (filters new : FiltersValue) → goes m ≡ true
    → cuid ≡ m.put.cuid → mid ≡ mid_of m.put.change → new ≡ with_rows filters (map (row_woken domain cuid mid active) filters.scrubs) filters.acls
    → new ≡ waked domain goes active (m ∷ []) filters
wake_one domain goes active m cuid mid filters new here cuid_is mid_is is =
    is
    ∙ ap (λ rows. with_rows filters rows filters.acls)
    (ap (λ c. map (row_woken domain c mid active) filters.scrubs) cuid_is
    ∙ ap (λ n. map (row_woken domain m.put.cuid n active) filters.scrubs) mid_is
    ∙ map_by
    (row_woken domain m.put.cuid (mid_of m.put.change) active)
    (woken_row domain goes active (m ∷ []))
    (λ row. ap (λ b. cond b (row_set active row) row) (by_goes (goes m) here (is_row_of domain m row)))
    filters.scrubs)
  where
    by_goes : (g : Bool) → g ≡ true → (b : Bool) → b ≡ ((g && b) || false)
    by_goes true is_here true = refl
    by_goes true is_here false = refl
    by_goes false is_here b = absurd (false≢true is_here)

pub wake_unchanged : (domain : ℕ) (goes : Mitigation → Bool) (active : Bool) (m : Mitigation) (filters : FiltersValue) → goes m ≡ false
    → filters ≡ waked domain goes active (m ∷ []) filters
wake_unchanged domain goes active m filters out =
    ap
    (λ rows. with_rows filters rows filters.acls)
    (sym (map_none
    (woken_row domain goes active (m ∷ []))
    (λ row. ap (λ b. cond ((b && is_row_of domain m row) || false) (row_set active row) row) out)
    filters.scrubs))

-- ---- rows of lists

abbrev touches : ℕ → (Mitigation → Bool) → List Mitigation → AclRow → Bool
touches domain goes ms row = ((row.domain == domain) && some_of goes row.cuid ms) && waits row.acl.activation

or_touches : (d a b w : Bool) → ((d && (a || false)) && w) ≡ true → ((d && (a || b)) && w) ≡ true
or_touches true true b w is = is
or_touches true false b w is = absurd (false≢true is)
or_touches false a b w is = absurd (false≢true is)

or_stays : (d a b w : Bool) → ((d && (a || false)) && w) ≡ false → ((d && (a || b)) && w) ≡ ((d && b) && w)
or_stays true true true w is = refl
or_stays true true false true is = absurd (true≢false is)
or_stays true true false false is = refl
or_stays true false b w is = refl
or_stays false a b w is = refl

switched_twice : (b v : Bool) (row : AclRow) → cond b (acl_switched v (acl_switched v row)) (acl_switched v row) ≡ acl_switched v row
switched_twice true v row = refl
switched_twice false v row = refl

settled_more : (domain : ℕ) (goes passes : Mitigation → Bool) (all : List Mitigation) (m : Mitigation) (ms : List Mitigation) (row : AclRow)
    → settled_row domain goes passes all ms (settled_row domain goes passes all (m ∷ []) row) ≡ settled_row domain goes passes all (m ∷ ms) row
settled_more domain goes passes all m ms row =
    let v = some_of passes row.cuid all in
    let own = goes m && bytes_eq m.put.cuid row.cuid in
    let rest = some_of goes row.cuid ms in
    let first = touches domain goes (m ∷ []) row in
    elim (cases_Bool first) [
      | inl is ↦
          ap (settled_row domain goes passes all ms) (cond-true first (acl_switched v row) row is)
          ∙ switched_twice (touches domain goes ms row) v row
          ∙ sym (cond-true
          (touches domain goes (m ∷ ms) row)
          (acl_switched v row)
          row
          (or_touches (row.domain == domain) own rest (waits row.acl.activation) is))
      | inr out ↦
          ap (settled_row domain goes passes all ms) (cond-false first (acl_switched v row) row out)
          ∙ ap (λ b. cond b (acl_switched v row) row) (sym (or_stays (row.domain == domain) own rest (waits row.acl.activation) out))
    ]

abbrev pub settled : ℕ → (Mitigation → Bool) → (Mitigation → Bool) → List Mitigation → List Mitigation → FiltersValue → FiltersValue
settled domain goes passes all ms filters = with_rows filters filters.scrubs (map (settled_row domain goes passes all ms) filters.acls)

pub settle_none : (domain : ℕ) (goes passes : Mitigation → Bool) (all : List Mitigation) (filters : FiltersValue) → settled domain goes passes all [] filters ≡ filters
settle_none domain goes passes all filters =
    ap
    (λ rows. with_rows filters filters.scrubs rows)
    (map_none
    (settled_row domain goes passes all [])
    (λ row. never (row.domain == domain) (waits row.acl.activation) (acl_switched (some_of passes row.cuid all) row) row)
    filters.acls)
  where
    never : (d w : Bool) (x y : AclRow) → cond ((d && false) && w) x y ≡ y
    never true w x y = refl
    never false w x y = refl

pub settle_more : (domain : ℕ) (goes passes : Mitigation → Bool) (all : List Mitigation) (m : Mitigation) (ms : List Mitigation) (filters new : FiltersValue)
    → new ≡ settled domain goes passes all (m ∷ []) filters → settled domain goes passes all ms new ≡ settled domain goes passes all (m ∷ ms) filters
settle_more domain goes passes all m ms filters new is =
    ap (settled domain goes passes all ms) is
    ∙ ap
    (λ rows. with_rows filters filters.scrubs rows)
    (map_twice (settled_row domain goes passes all ms) (settled_row domain goes passes all (m ∷ [])) filters.acls
    ∙ map_by
    (λ row. settled_row domain goes passes all ms (settled_row domain goes passes all (m ∷ []) row))
    (settled_row domain goes passes all (m ∷ ms))
    (settled_more domain goes passes all m ms)
    filters.acls)

pub settle_step : (domain : ℕ) (goes passes : Mitigation → Bool) (all : List Mitigation) (i : ℕ) (rows : List LiveRow) (row : LiveRow) (before new goal : FiltersValue)
    → i < length rows → row ≡ get_or rows i row → new ≡ settled domain goes passes all (row.mitigation ∷ []) before → settled domain goes passes all (mitigations_in (drop i rows)) before ≡ goal
    → settled domain goes passes all (mitigations_in (drop (i + 1) rows)) new ≡ goal
settle_step domain goes passes all i rows row before new goal less at is rest =
    settle_more domain goes passes all row.mitigation (mitigations_in (drop (i + 1) rows)) before new is
    ∙ ap (λ x. settled domain goes passes all (x.mitigation ∷ mitigations_in (drop (i + 1) rows)) before) at
    ∙ ap (λ xs. settled domain goes passes all (mitigations_in xs) before) (sym (drop_more rows i row less))
    ∙ rest

pub settle_end : (domain : ℕ) (goes passes : Mitigation → Bool) (all : List Mitigation) (i : ℕ) (rows : List LiveRow) (new goal : FiltersValue) → length rows ≤ i
    → settled domain goes passes all (mitigations_in (drop i rows)) new ≡ goal → new ≡ goal
settle_end domain goes passes all i rows new goal past is =
    sym (settle_none domain goes passes all new) ∙ ap (λ xs. settled domain goes passes all (mitigations_in xs) new) (sym (drop_all i rows past)) ∙ is

pub settle_unchanged : (domain : ℕ) (goes passes : Mitigation → Bool) (all : List Mitigation) (m : Mitigation) (filters : FiltersValue) → goes m ≡ false
    → filters ≡ settled domain goes passes all (m ∷ []) filters
settle_unchanged domain goes passes all m filters is =
    ap
    (λ rows. with_rows filters filters.scrubs rows)
    (sym (map_none
    (settled_row domain goes passes all (m ∷ []))
    (λ row.
    ap (λ b. cond (((row.domain == domain) && ((b && bytes_eq m.put.cuid row.cuid) || false)) && waits row.acl.activation) (acl_switched (some_of passes row.cuid all) row) row) is
    ∙ never (row.domain == domain) (waits row.acl.activation) (acl_switched (some_of passes row.cuid all) row) row)
    filters.acls))
  where
    never : (d w : Bool) (x y : AclRow) → cond ((d && false) && w) x y ≡ y
    never true w x y = refl
    never false w x y = refl

-- the row of a client, by whether its name is that of the client
one_settled : (domain : ℕ) (goes passes : Mitigation → Bool) (all : List Mitigation) (m : Mitigation) (row : AclRow) → goes m ≡ true
    → activated_row domain m.put.cuid (some_of passes m.put.cuid all) row ≡ settled_row domain goes passes all (m ∷ []) row
one_settled domain goes passes all m row here =
    let on = acl_switched (some_of passes row.cuid all) row in
    elim (cases_Bool (bytes_eq row.cuid m.put.cuid)) [
      | inl same ↦
          let equal : row.cuid ≡ m.put.cuid = (bytes_eq-Decides row.cuid m.put.cuid).0 same in
          let back : bytes_eq m.put.cuid row.cuid ≡ true = (bytes_eq-Decides m.put.cuid row.cuid).1 (sym equal) in
          ap (λ c. activated_row domain m.put.cuid (some_of passes c all) row) (sym equal)
          ∙ ap (λ b. cond (((row.domain == domain) && b) && waits row.acl.activation) on row) same
          ∙ sym (ap (λ b. cond (((row.domain == domain) && ((goes m && b) || false)) && waits row.acl.activation) on row) back
          ∙ ap (λ b. cond (((row.domain == domain) && ((b && true) || false)) && waits row.acl.activation) on row) here)
      | inr other ↦
          let back : bytes_eq m.put.cuid row.cuid ≡ false = turned_bytes m.put.cuid row.cuid ∙ other in
          ap (λ b. cond (((row.domain == domain) && b) && waits row.acl.activation) (acl_switched (some_of passes m.put.cuid all) row) row) other
          ∙ never (row.domain == domain) (waits row.acl.activation) (acl_switched (some_of passes m.put.cuid all) row) row
          ∙ sym (ap (λ b. cond (((row.domain == domain) && ((goes m && b) || false)) && waits row.acl.activation) on row) back
          ∙ none (row.domain == domain) (goes m) (waits row.acl.activation) on row)
    ]
  where
    never : (d w : Bool) (x y : AclRow) → cond ((d && false) && w) x y ≡ y
    never true w x y = refl
    never false w x y = refl

    none : (d s w : Bool) (x y : AclRow) → cond ((d && ((s && false) || false)) && w) x y ≡ y
    none true true w x y = refl
    none true false w x y = refl
    none false s w x y = refl

pub settle_one : (domain : ℕ) (goes passes : Mitigation → Bool) (all : List Mitigation) (m : Mitigation) (cuid : List ℕ) (active : Bool) (filters new : FiltersValue)
    → goes m ≡ true → cuid ≡ m.put.cuid → active ≡ some_of passes cuid all
    → new ≡ with_rows filters filters.scrubs (map (activated_row domain cuid active) filters.acls) → new ≡ settled domain goes passes all (m ∷ []) filters
settle_one domain goes passes all m cuid active filters new here cuid_is active_is is =
    is
    ∙ ap (λ b. with_rows filters filters.scrubs (map (activated_row domain cuid b) filters.acls)) active_is
    ∙ ap (λ c. with_rows filters filters.scrubs (map (activated_row domain c (some_of passes c all)) filters.acls)) cuid_is
    ∙ ap
    (λ rows. with_rows filters filters.scrubs rows)
    (map_by
    (activated_row domain m.put.cuid (some_of passes m.put.cuid all))
    (settled_row domain goes passes all (m ∷ []))
    (λ row. one_settled domain goes passes all m row here)
    filters.acls)

-- ---- lists of a client

abbrev pub dropped : ℕ → List ℕ → List Acl → FiltersValue → FiltersValue
dropped domain cuid acls filters = with_rows filters filters.scrubs (acls_without_all domain cuid acls filters.acls)

pub drop_none : (domain : ℕ) (cuid : List ℕ) (filters : FiltersValue) → dropped domain cuid [] filters ≡ filters
drop_none domain cuid filters = ap (λ rows. with_rows filters filters.scrubs rows) (filter_all (λ row. true) (λ row. refl) filters.acls)

pub drop_more_of : (domain : ℕ) (cuid : List ℕ) (acl : Acl) (acls : List Acl) (filters new : FiltersValue)
    → new ≡ with_rows filters filters.scrubs (acls_without domain cuid acl.name filters.acls) → dropped domain cuid acls new ≡ dropped domain cuid (acl ∷ acls) filters
drop_more_of domain cuid acl acls filters new is =
    ap (dropped domain cuid acls) is
    ∙ ap
    (λ rows. with_rows filters filters.scrubs rows)
    (filter_twice
    (λ row. not (list_any (λ (a : Acl). is_named_row domain cuid a.name row) acls))
    (λ row. not (is_named_row domain cuid acl.name row))
    filters.acls
    ∙ filter_by
    (λ row. not (is_named_row domain cuid acl.name row) && not (list_any (λ (a : Acl). is_named_row domain cuid a.name row) acls))
    (λ row. not (list_any (λ (a : Acl). is_named_row domain cuid a.name row) (acl ∷ acls)))
    (λ row. neither (is_named_row domain cuid acl.name row) (list_any (λ (a : Acl). is_named_row domain cuid a.name row) acls))
    filters.acls)
  where
    neither : (a b : Bool) → (not a && not b) ≡ not (a || b)
    neither true b = refl
    neither false b = refl

pub drop_step : (domain : ℕ) (cuid : List ℕ) (i : ℕ) (acls : List Acl) (acl : Acl) (before new goal : FiltersValue) → i < length acls → acl ≡ get_or acls i acl
    → new ≡ with_rows before before.scrubs (acls_without domain cuid acl.name before.acls) → dropped domain cuid (drop i acls) before ≡ goal
    → dropped domain cuid (drop (i + 1) acls) new ≡ goal
drop_step domain cuid i acls acl before new goal less at is rest =
    drop_more_of domain cuid acl (drop (i + 1) acls) before new is
    ∙ ap (λ x. dropped domain cuid (x ∷ drop (i + 1) acls) before) at
    ∙ ap (λ xs. dropped domain cuid xs before) (sym (drop_more acls i acl less))
    ∙ rest

pub drop_end : (domain : ℕ) (cuid : List ℕ) (i : ℕ) (acls : List Acl) (new goal : FiltersValue) → length acls ≤ i → dropped domain cuid (drop i acls) new ≡ goal → new ≡ goal
drop_end domain cuid i acls new goal past is =
    sym (drop_none domain cuid new) ∙ ap (λ xs. dropped domain cuid xs new) (sym (drop_all i acls past)) ∙ is
