-- What the calls of a filter table make of the rows, where each new one has a place behind all others.
use Rattle.std.proofs.Common.{◌≡◌, ℕ, ◌+◌, ◌<◌, ◌≤◌, Bool, true, false, cond, not, ◌&&◌, List, [], ◌∷◌, ◌++◌, map, length, filter, refl, sym, ap, ◌∙◌, subst, ◌*◌, le_trans, mul_comm, mul-le-mul_right, arith, append_assoc, append-nil}
use Rattle.std.specs.Prelude.{nat_le}
use Rattle.std.specs.List.{insert, prefix_len, AllByRecursion}
use Rattle.std.proofs.lemmas.Bool.{cond_both, le-leb}
use Rattle.std.proofs.lemmas.List.{map-append, length-append, length-map}
use Rattle.std.proofs.lemmas.List.Edits.{insert_end}
use Rattle.acl_lists.specs.declared.rows.ScrubRow.{ScrubRow}
use Rattle.acl_lists.specs.declared.rows.AclRow.{AclRow}
use Rattle.filter_table.specs.declared.placed.PlacedAcl.{PlacedAcl}
use Rattle.filter_table.specs.TableRows.{PlacedScrub, AreInstalled, without_mitigation, woken, scrub_set, row_set, row_woken, with_acl, without_acl, activated, renumbered, renumbered_from, number_after, place_of_scrub, scrub_at_place, place_of_acl, acl_at_place, is_of, is_named, is_of_client, waits, acl_set, row_is_of}
use Rattle.filter_table.specs.Table.{TableValue}
use Rattle.filter_table.proofs.Places.{length-renumbered}
use Rattle.filter_table.proofs.Orders.{activated_place}
use Rattle.dots_settings.specs.declared.limits.Limits.{Limits}
use Rattle.installed_filters.specs.HistoryRows.{Represents, HasRoom, scrub_room_of, acl_room_of}
use Rattle.installed_filters.specs.Filters.{FiltersValue, IsPlaced, filters_of, scrubs_in, acls_in, with_rows, scrubs_without_one, is_named_row, acls_without, activated_row, acl_switched}

-- ---- numbered anew

same_from : {A B : Type 0} (row : A → B) (place : A → ℕ) (at : ℕ → A → A) → ((n : ℕ) (x : A) → row (at n x) ≡ row x) → (last number : ℕ) (xs : List A)
    → map row (renumbered_from place at last number xs) ≡ map row xs
same_from row place at same last number [] = refl
same_from row place at same last number (x ∷ xs) =
    ap (λ r. r ∷ map row (renumbered_from place at (place x) (number_after last number (place x)) xs)) (same (number_after last number (place x)) x)
    ∙ ap (λ rows. row x ∷ rows) (same_from row place at same (place x) (number_after last number (place x)) xs)

same_rows : {A B : Type 0} (row : A → B) (place : A → ℕ) (at : ℕ → A → A) → ((n : ℕ) (x : A) → row (at n x) ≡ row x) → (xs : List A)
    → map row (renumbered place at xs) ≡ map row xs
same_rows row place at same [] = refl
same_rows row place at same (x ∷ xs) = same_from row place at same (place x) 0 (x ∷ xs)

abbrev anew : TableValue → TableValue
anew table = record {
  scrub_room = table.scrub_room;
  acl_room = table.acl_room;
  scrubs = renumbered place_of_scrub scrub_at_place table.scrubs;
  acls = renumbered place_of_acl acl_at_place table.acls;
}

pub anew_rows : (table new : TableValue) → new ≡ anew table → filters_of new ≡ filters_of table
anew_rows table new is =
    ap filters_of is
    ∙ ap
    (λ rows. record { scrub_room = table.scrub_room; acl_room = table.acl_room; scrubs = rows; acls = acls_in (anew table) })
    (same_rows (λ (s : PlacedScrub). s.row) place_of_scrub scrub_at_place (λ n x. refl) table.scrubs)
    ∙ ap
    (λ rows. record { scrub_room = table.scrub_room; acl_room = table.acl_room; scrubs = scrubs_in table; acls = rows })
    (same_rows (λ (l : PlacedAcl). l.row) place_of_acl acl_at_place (λ n x. refl) table.acls)

pub anew_placed : (next place : ℕ) (table new : TableValue) → new ≡ anew table → IsPlaced next table
    → AllByRecursion (λ (s : PlacedScrub). s.place < place) new.scrubs → AllByRecursion (λ (l : PlacedAcl). l.place < place) new.acls → IsPlaced place new
anew_placed next place table new is placed scrubs acls = record {
  scrubs = scrubs;
  acls = acls;
  scrub_room = subst (λ (n : ℕ). n < 4294967296) (sym (ap (λ (t : TableValue). t.scrub_room) is)) placed.scrub_room;
  acl_room = subst (λ (n : ℕ). n < 4294967296) (sym (ap (λ (t : TableValue). t.acl_room) is)) placed.acl_room;
  few_scrubs = subst
      (λ (t : TableValue). length t.scrubs ≤ t.scrub_room)
      (sym is)
      (subst (λ n. n ≤ table.scrub_room) (sym (length-renumbered place_of_scrub scrub_at_place table.scrubs)) placed.few_scrubs);
  few_acls = subst
      (λ (t : TableValue). length t.acls ≤ t.acl_room)
      (sym is)
      (subst (λ n. n ≤ table.acl_room) (sym (length-renumbered place_of_acl acl_at_place table.acls)) placed.few_acls);
}

pub anew_low : (next place : ℕ) (table : TableValue) → IsPlaced next table → place ≤ length table.scrubs + length table.acls → place < 9223372036854775808
anew_low next place table placed most = omega (arith, most, placed.few_scrubs, placed.few_acls, placed.scrub_room, placed.acl_room)

-- ---- rows by rows

map_filter : {A B : Type 0} (f : A → B) (p : B → Bool) (xs : List A) → map f (filter (λ x. p (f x)) xs) ≡ filter p (map f xs)
map_filter f p [] = refl
map_filter f p (x ∷ xs) = by_test (p (f x)) (map_filter f p xs)
  where
    by_test : (b : Bool) → map f (filter (λ y. p (f y)) xs) ≡ filter p (map f xs) → map f (cond b (x ∷ filter (λ y. p (f y)) xs) (filter (λ y. p (f y)) xs)) ≡ cond b (f x ∷ filter p (map f xs)) (filter p (map f xs))
    by_test true rest = ap (λ ys. f x ∷ ys) rest
    by_test false rest = rest

each_filter : {A : Type 0} (P : A → Type 0) (p : A → Bool) (xs : List A) → AllByRecursion P xs → AllByRecursion P (filter p xs)
each_filter P p [] all = all
each_filter P p (x ∷ xs) all =
    cond_both
    (p x)
    (x ∷ filter p xs)
    (filter p xs)
    (λ ys. AllByRecursion P ys)
    (λ is. (all.0, each_filter P p xs all.1))
    (λ out. each_filter P p xs all.1)

each_push : {A : Type 0} (P : A → Type 0) (xs : List A) (x : A) → AllByRecursion P xs → P x → AllByRecursion P (xs ++ x ∷ [])
each_push P [] x all one = (one, tt)
each_push P (y ∷ xs) x all one = (all.0, each_push P xs x all.1 one)

each_higher : {A : Type 0} (place : A → ℕ) (p : ℕ) (xs : List A) → AllByRecursion (λ x. place x < p) xs → AllByRecursion (λ x. place x < p + 1) xs
each_higher place p [] all = all
each_higher place p (x ∷ xs) all = let here = all.0 in (omega (arith, here), each_higher place p xs all.1)

length_filter_most : {A : Type 0} (p : A → Bool) (xs : List A) → length (filter p xs) ≤ length xs
length_filter_most p [] = omega arith
length_filter_most p (x ∷ xs) =
    let rest = length_filter_most p xs in
    cond_both
    (p x)
    (x ∷ filter p xs)
    (filter p xs)
    (λ ys. length ys ≤ length (x ∷ xs))
    (λ is. omega (arith, rest))
    (λ out. omega (arith, rest))

-- what is put in behind all others
all_first : {A : Type 0} (place : A → ℕ) (p : ℕ) (xs : List A) → AllByRecursion (λ x. place x < p) xs → prefix_len (λ x. nat_le (place x) p) xs ≡ length xs
all_first place p [] all = refl
all_first place p (x ∷ xs) all =
    let here = all.0 in
    let less : place x ≤ p = omega (arith, here) in
    let rest = all_first place p xs all.1 in
    subst
    (λ b. cond b (1 + prefix_len (λ y. nat_le (place y) p) xs) 0 ≡ length (x ∷ xs))
    (sym (le-leb (place x) p less))
    (omega (arith, rest))

behind : {A : Type 0} (place : A → ℕ) (x : A) (xs : List A) → AllByRecursion (λ y. place y < place x) xs
    → insert xs (prefix_len (λ y. nat_le (place y) (place x)) xs) x ≡ xs ++ x ∷ []
behind place x xs all = ap (λ n. insert xs n x) (all_first place (place x) xs all) ∙ insert_end xs x

-- ---- the calls

abbrev table_with : TableValue → List PlacedScrub → List PlacedAcl → TableValue
table_with table scrubs acls = record { scrub_room = table.scrub_room; acl_room = table.acl_room; scrubs = scrubs; acls = acls }

each_within : {A : Type 0} (place : A → ℕ) (p q : ℕ) (xs : List A) → p ≤ q → AllByRecursion (λ x. place x < p) xs → AllByRecursion (λ x. place x < q) xs
each_within place p q [] most all = all
each_within place p q (x ∷ xs) most all = let here = all.0 in (omega (arith, here, most), each_within place p q xs most all.1)

-- rows that come behind all others
record StandBehind (place : ℕ) (own : List ScrubRow) (placed later : List PlacedScrub) : Type 0 where
  pub rows : map (λ (s : PlacedScrub). s.row) later ≡ map (λ (s : PlacedScrub). s.row) placed ++ own
  pub places : AllByRecursion (λ (s : PlacedScrub). s.place < place + length own) later
  pub number : length later ≡ length placed + length own

stand_behind : (room place : ℕ) (own : List ScrubRow) (placed later : List PlacedScrub) → AllByRecursion (λ (s : PlacedScrub). s.place < place) placed → AreInstalled room place own placed later
    → StandBehind place own placed later
stand_behind room place [] placed later below is = record {
  rows = ap (map (λ (s : PlacedScrub). s.row)) is ∙ sym (append-nil (map (λ (s : PlacedScrub). s.row) placed));
  places = subst (AllByRecursion (λ (s : PlacedScrub). s.place < place + length {A = ScrubRow} [])) (sym is) (each_within place_of_scrub place (place + length {A = ScrubRow} []) placed (omega arith) below);
  number = omega (arith, ap length is);
}
stand_behind room place (row ∷ own) placed later below is =
    let first : PlacedScrub = record { slot = is.0; place = place; row = row } in
    let more : AreInstalled room (place + 1) own (placed ++ first ∷ []) later =
    subst (λ xs. AreInstalled room (place + 1) own xs later) (behind place_of_scrub first placed below) is.3 in
    let rest = stand_behind room (place + 1) own (placed ++ first ∷ []) later
    (each_push (λ (s : PlacedScrub). s.place < place + 1) placed first (each_higher place_of_scrub place placed below) (omega arith)) more in
    record {
      rows = rest.rows ∙ ap (λ rows. rows ++ own) (map-append (λ (s : PlacedScrub). s.row) placed (first ∷ [])) ∙ append_assoc (map (λ (s : PlacedScrub). s.row) placed) (row ∷ []) own;
      places = each_within place_of_scrub (place + 1 + length own) (place + length (row ∷ own)) later (omega arith) rest.places;
      number = omega (arith, rest.number, length-append placed (first ∷ []));
    }

pub installed_rows : (place : ℕ) (own : List ScrubRow) (first table new : TableValue) (old : FiltersValue) → filters_of first ≡ old → filters_of table ≡ filters_of first
    → IsPlaced place table → AreInstalled table.scrub_room place own table.scrubs new.scrubs → new ≡ table_with table new.scrubs table.acls
    → filters_of new ≡ with_rows old (old.scrubs ++ own) old.acls
installed_rows place own first table new old same_first kept placed is others =
    let same : filters_of table ≡ old = kept ∙ same_first in
    ap filters_of others
    ∙ ap (λ rows. with_rows (filters_of table) rows (acls_in table)) (stand_behind table.scrub_room place own table.scrubs new.scrubs placed.scrubs is).rows
    ∙ ap (λ (f : FiltersValue). with_rows f (f.scrubs ++ own) f.acls) same

pub installed_placed : (place next : ℕ) (own : List ScrubRow) (table new : TableValue) → IsPlaced place table → AreInstalled table.scrub_room place own table.scrubs new.scrubs
    → new ≡ table_with table new.scrubs table.acls → length table.scrubs + length own ≤ table.scrub_room → next ≡ place + length own → IsPlaced next new
installed_placed place next own table new placed is others fits next_is =
    let all = stand_behind table.scrub_room place own table.scrubs new.scrubs placed.scrubs is in
    subst
    (λ (n : ℕ). IsPlaced n new)
    (sym next_is)
    (subst
    (IsPlaced (place + length own))
    (sym others)
    (record {
      scrubs = all.places;
      acls = each_within place_of_acl place (place + length own) table.acls (omega arith) placed.acls;
      scrub_room = placed.scrub_room;
      acl_room = placed.acl_room;
      few_scrubs = let number = all.number in omega (arith, number, fits);
      few_acls = placed.few_acls;
    }))

pub room_left : (own : List ScrubRow) (table between : TableValue) (old : FiltersValue) → filters_of table ≡ old → filters_of between ≡ filters_of table
    → length old.scrubs + length own ≤ old.scrub_room → length between.scrubs + length own ≤ between.scrub_room
room_left own table between old same kept fits =
    let here : length (scrubs_in between) + length own ≤ between.scrub_room =
    subst (λ (f : FiltersValue). length f.scrubs + length own ≤ f.scrub_room) (sym (kept ∙ same)) fits in
    let long = length-map between.scrubs (λ (s : PlacedScrub). s.row) in
    omega (arith, here, long)

pub removed_rows : (domain : ℕ) (cuid : List ℕ) (mid : ℕ) (table new : TableValue) (old : FiltersValue)
    → new ≡ table_with table (without_mitigation domain cuid mid table.scrubs) table.acls → filters_of table ≡ old
    → filters_of new ≡ with_rows old (scrubs_without_one domain cuid mid old.scrubs) old.acls
removed_rows domain cuid mid table new old is same =
    ap filters_of is
    ∙ ap
    (λ rows. with_rows (filters_of table) rows (acls_in table))
    (map_filter (λ (s : PlacedScrub). s.row) (λ row. not (row_is_of domain cuid mid row)) table.scrubs)
    ∙ ap (λ (f : FiltersValue). with_rows f (scrubs_without_one domain cuid mid f.scrubs) f.acls) same

pub removed_placed : (domain : ℕ) (cuid : List ℕ) (mid next : ℕ) (table new : TableValue)
    → new ≡ table_with table (without_mitigation domain cuid mid table.scrubs) table.acls → IsPlaced next table → IsPlaced next new
removed_placed domain cuid mid next table new is placed =
    subst
    (IsPlaced next)
    (sym is)
    (record {
      scrubs = each_filter (λ (s : PlacedScrub). s.place < next) (λ s. not (is_of domain cuid mid s)) table.scrubs placed.scrubs;
      acls = placed.acls;
      scrub_room = placed.scrub_room;
      acl_room = placed.acl_room;
      few_scrubs = let few = length_filter_most (λ s. not (is_of domain cuid mid s)) table.scrubs in let most = placed.few_scrubs in omega (arith, few, most);
      few_acls = placed.few_acls;
    })

woken_one : (domain : ℕ) (cuid : List ℕ) (mid : ℕ) (active : Bool) (s : PlacedScrub) → (woken domain cuid mid active s).row ≡ row_woken domain cuid mid active s.row
woken_one domain cuid mid active s = by_test (row_is_of domain cuid mid s.row)
  where
    by_test : (b : Bool) → (cond b (scrub_set active s) s).row ≡ cond b (row_set active s.row) s.row
    by_test true = refl
    by_test false = refl

woken_all : (domain : ℕ) (cuid : List ℕ) (mid : ℕ) (active : Bool) (held : List PlacedScrub)
    → map (λ (s : PlacedScrub). s.row) (map (woken domain cuid mid active) held) ≡ map (row_woken domain cuid mid active) (map (λ (s : PlacedScrub). s.row) held)
woken_all domain cuid mid active [] = refl
woken_all domain cuid mid active (s ∷ held) =
    ap (λ r. r ∷ map (λ (x : PlacedScrub). x.row) (map (woken domain cuid mid active) held)) (woken_one domain cuid mid active s)
    ∙ ap (λ rows. row_woken domain cuid mid active s.row ∷ rows) (woken_all domain cuid mid active held)

pub woken_rows : (domain : ℕ) (cuid : List ℕ) (mid : ℕ) (active : Bool) (table new : TableValue) (old : FiltersValue)
    → new ≡ table_with table (map (woken domain cuid mid active) table.scrubs) table.acls → filters_of table ≡ old
    → filters_of new ≡ with_rows old (map (row_woken domain cuid mid active) old.scrubs) old.acls
woken_rows domain cuid mid active table new old is same =
    ap filters_of is
    ∙ ap (λ rows. with_rows (filters_of table) rows (acls_in table)) (woken_all domain cuid mid active table.scrubs)
    ∙ ap (λ (f : FiltersValue). with_rows f (map (row_woken domain cuid mid active) f.scrubs) f.acls) same

woken_at_place : (domain : ℕ) (cuid : List ℕ) (mid : ℕ) (active : Bool) (s : PlacedScrub) → (woken domain cuid mid active s).place ≡ s.place
woken_at_place domain cuid mid active s = by_test (row_is_of domain cuid mid s.row)
  where
    by_test : (b : Bool) → (cond b (scrub_set active s) s).place ≡ s.place
    by_test true = refl
    by_test false = refl

woken_below : (domain : ℕ) (cuid : List ℕ) (mid : ℕ) (active : Bool) (next : ℕ) (held : List PlacedScrub) → AllByRecursion (λ (s : PlacedScrub). s.place < next) held
    → AllByRecursion (λ (s : PlacedScrub). s.place < next) (map (woken domain cuid mid active) held)
woken_below domain cuid mid active next [] all = all
woken_below domain cuid mid active next (s ∷ held) all =
    (subst (λ n. n < next) (sym (woken_at_place domain cuid mid active s)) all.0, woken_below domain cuid mid active next held all.1)

pub woken_placed : (domain : ℕ) (cuid : List ℕ) (mid : ℕ) (active : Bool) (next : ℕ) (table new : TableValue)
    → new ≡ table_with table (map (woken domain cuid mid active) table.scrubs) table.acls → IsPlaced next table → IsPlaced next new
woken_placed domain cuid mid active next table new is placed =
    subst
    (IsPlaced next)
    (sym is)
    (record {
      scrubs = woken_below domain cuid mid active next table.scrubs placed.scrubs;
      acls = placed.acls;
      scrub_room = placed.scrub_room;
      acl_room = placed.acl_room;
      few_scrubs = let long = length-map table.scrubs (woken domain cuid mid active) in let most = placed.few_scrubs in omega (arith, long, most);
      few_acls = placed.few_acls;
    })

abbrev list_of : ℕ → AclRow → PlacedAcl
list_of place row = record { place = place; row = row }

others_rows : (domain : ℕ) (cuid name : List ℕ) (held : List PlacedAcl)
    → map (λ (l : PlacedAcl). l.row) (without_acl domain cuid name held) ≡ acls_without domain cuid name (map (λ (l : PlacedAcl). l.row) held)
others_rows domain cuid name held = map_filter (λ (l : PlacedAcl). l.row) (λ row. not (is_named_row domain cuid name row)) held

set_last : (place : ℕ) (row : AclRow) (table new : TableValue) → IsPlaced place table
    → new ≡ table_with table table.scrubs (with_acl (list_of place row) (without_acl row.domain row.cuid row.acl.name table.acls))
    → new ≡ table_with table table.scrubs (without_acl row.domain row.cuid row.acl.name table.acls ++ list_of place row ∷ [])
set_last place row table new placed is =
    is
    ∙ ap
    (λ xs. table_with table table.scrubs xs)
    (behind
    place_of_acl
    (list_of place row)
    (without_acl row.domain row.cuid row.acl.name table.acls)
    (each_filter (λ (l : PlacedAcl). l.place < place) (λ l. not (is_named row.domain row.cuid row.acl.name l)) table.acls placed.acls))

pub set_rows : (place : ℕ) (row : AclRow) (first table new : TableValue) (old : FiltersValue) → filters_of first ≡ old → filters_of table ≡ filters_of first
    → IsPlaced place table
    → new ≡ table_with table table.scrubs (with_acl (list_of place row) (without_acl row.domain row.cuid row.acl.name table.acls))
    → filters_of new ≡ with_rows old old.scrubs (acls_without row.domain row.cuid row.acl.name old.acls ++ row ∷ [])
set_rows place row first table new old same_first kept placed is =
    let same : filters_of table ≡ old = kept ∙ same_first in
    ap filters_of (set_last place row table new placed is)
    ∙ ap
    (λ rows. with_rows (filters_of table) (scrubs_in table) rows)
    (map-append (λ (l : PlacedAcl). l.row) (without_acl row.domain row.cuid row.acl.name table.acls) (list_of place row ∷ [])
    ∙ ap (λ rows. rows ++ row ∷ []) (others_rows row.domain row.cuid row.acl.name table.acls))
    ∙ ap (λ (f : FiltersValue). with_rows f f.scrubs (acls_without row.domain row.cuid row.acl.name f.acls ++ row ∷ [])) same

pub set_placed : (place : ℕ) (row : AclRow) (table new : TableValue) → IsPlaced place table
    → new ≡ table_with table table.scrubs (with_acl (list_of place row) (without_acl row.domain row.cuid row.acl.name table.acls))
    → length (without_acl row.domain row.cuid row.acl.name table.acls) < table.acl_room → IsPlaced (place + 1) new
set_placed place row table new placed is less =
    subst
    (IsPlaced (place + 1))
    (sym (set_last place row table new placed is))
    (record {
      scrubs = each_higher place_of_scrub place table.scrubs placed.scrubs;
      acls = each_push
          (λ (l : PlacedAcl). l.place < place + 1)
          (without_acl row.domain row.cuid row.acl.name table.acls)
          (list_of place row)
          (each_filter
          (λ (l : PlacedAcl). l.place < place + 1)
          (λ l. not (is_named row.domain row.cuid row.acl.name l))
          table.acls
          (each_higher place_of_acl place table.acls placed.acls))
          (omega arith);
      scrub_room = placed.scrub_room;
      acl_room = placed.acl_room;
      few_scrubs = placed.few_scrubs;
      few_acls = let long = length-append (without_acl row.domain row.cuid row.acl.name table.acls) (list_of place row ∷ []) in omega (arith, long, less);
    })

pub list_room : (row : AclRow) (table between : TableValue) (old : FiltersValue) → filters_of table ≡ old → filters_of between ≡ filters_of table
    → length (acls_without row.domain row.cuid row.acl.name old.acls) < old.acl_room
    → length (without_acl row.domain row.cuid row.acl.name between.acls) < between.acl_room
list_room row table between old same kept less =
    let here : length (acls_without row.domain row.cuid row.acl.name (acls_in between)) < between.acl_room =
    subst (λ (f : FiltersValue). length (acls_without row.domain row.cuid row.acl.name f.acls) < f.acl_room) (sym (kept ∙ same)) less in
    let rows = ap length (others_rows row.domain row.cuid row.acl.name between.acls) in
    let long = length-map (without_acl row.domain row.cuid row.acl.name between.acls) (λ (l : PlacedAcl). l.row) in
    omega (arith, here, rows, long)

pub dropped_rows : (domain : ℕ) (cuid name : List ℕ) (table new : TableValue) (old : FiltersValue)
    → new ≡ table_with table table.scrubs (without_acl domain cuid name table.acls) → filters_of table ≡ old
    → filters_of new ≡ with_rows old old.scrubs (acls_without domain cuid name old.acls)
dropped_rows domain cuid name table new old is same =
    ap filters_of is
    ∙ ap (λ rows. with_rows (filters_of table) (scrubs_in table) rows) (others_rows domain cuid name table.acls)
    ∙ ap (λ (f : FiltersValue). with_rows f f.scrubs (acls_without domain cuid name f.acls)) same

pub dropped_placed : (domain : ℕ) (cuid name : List ℕ) (next : ℕ) (table new : TableValue)
    → new ≡ table_with table table.scrubs (without_acl domain cuid name table.acls) → IsPlaced next table → IsPlaced next new
dropped_placed domain cuid name next table new is placed =
    subst
    (IsPlaced next)
    (sym is)
    (record {
      scrubs = placed.scrubs;
      acls = each_filter (λ (l : PlacedAcl). l.place < next) (λ l. not (is_named domain cuid name l)) table.acls placed.acls;
      scrub_room = placed.scrub_room;
      acl_room = placed.acl_room;
      few_scrubs = placed.few_scrubs;
      few_acls = let few = length_filter_most (λ l. not (is_named domain cuid name l)) table.acls in let most = placed.few_acls in omega (arith, few, most);
    })

activated_one : (domain : ℕ) (cuid : List ℕ) (active : Bool) (l : PlacedAcl) → (activated domain cuid active l).row ≡ activated_row domain cuid active l.row
activated_one domain cuid active l = by_test (is_of_client domain cuid l.row.domain l.row.cuid && waits l.row.acl.activation)
  where
    by_test : (b : Bool) → (cond b (acl_set active l) l).row ≡ cond b (acl_switched active l.row) l.row
    by_test true = refl
    by_test false = refl

activated_all : (domain : ℕ) (cuid : List ℕ) (active : Bool) (held : List PlacedAcl)
    → map (λ (l : PlacedAcl). l.row) (map (activated domain cuid active) held) ≡ map (activated_row domain cuid active) (map (λ (l : PlacedAcl). l.row) held)
activated_all domain cuid active [] = refl
activated_all domain cuid active (l ∷ held) =
    ap (λ r. r ∷ map (λ (x : PlacedAcl). x.row) (map (activated domain cuid active) held)) (activated_one domain cuid active l)
    ∙ ap (λ rows. activated_row domain cuid active l.row ∷ rows) (activated_all domain cuid active held)

pub activated_rows : (domain : ℕ) (cuid : List ℕ) (active : Bool) (table new : TableValue) (old : FiltersValue)
    → new ≡ table_with table table.scrubs (map (activated domain cuid active) table.acls) → filters_of table ≡ old
    → filters_of new ≡ with_rows old old.scrubs (map (activated_row domain cuid active) old.acls)
activated_rows domain cuid active table new old is same =
    ap filters_of is
    ∙ ap (λ rows. with_rows (filters_of table) (scrubs_in table) rows) (activated_all domain cuid active table.acls)
    ∙ ap (λ (f : FiltersValue). with_rows f f.scrubs (map (activated_row domain cuid active) f.acls)) same

activated_below : (domain : ℕ) (cuid : List ℕ) (active : Bool) (next : ℕ) (held : List PlacedAcl) → AllByRecursion (λ (l : PlacedAcl). l.place < next) held
    → AllByRecursion (λ (l : PlacedAcl). l.place < next) (map (activated domain cuid active) held)
activated_below domain cuid active next [] all = all
activated_below domain cuid active next (l ∷ held) all =
    (subst (λ n. n < next) (sym (activated_place domain cuid active l)) all.0, activated_below domain cuid active next held all.1)

pub activated_placed : (domain : ℕ) (cuid : List ℕ) (active : Bool) (next : ℕ) (table new : TableValue)
    → new ≡ table_with table table.scrubs (map (activated domain cuid active) table.acls) → IsPlaced next table → IsPlaced next new
activated_placed domain cuid active next table new is placed =
    subst
    (IsPlaced next)
    (sym is)
    (record {
      scrubs = placed.scrubs;
      acls = activated_below domain cuid active next table.acls placed.acls;
      scrub_room = placed.scrub_room;
      acl_room = placed.acl_room;
      few_scrubs = placed.few_scrubs;
      few_acls = let long = length-map table.acls (activated domain cuid active) in let most = placed.few_acls in omega (arith, long, most);
    })

-- ---- the first

abbrev empty_table : ℕ → ℕ → TableValue
empty_table scrubs acls = record { scrub_room = scrubs; acl_room = acls; scrubs = []; acls = [] }

pub first_placed : (scrubs acls : ℕ) (table : TableValue) → table ≡ empty_table scrubs acls → scrubs ≤ 131072 → acls ≤ 131072 → IsPlaced 0 table
first_placed scrubs acls table is few_scrubs few_acls =
    subst
    (IsPlaced 0)
    (sym is)
    (record {
      scrubs = tt;
      acls = tt;
      scrub_room = omega (arith, few_scrubs);
      acl_room = omega (arith, few_acls);
      few_scrubs = omega arith;
      few_acls = omega arith;
    })

pub first_represents : (scrubs acls : ℕ) (table : TableValue) → table ≡ empty_table scrubs acls → (t : ℕ) → Represents (filters_of table) t []
first_represents scrubs acls table is t = subst (λ (x : TableValue). Represents (filters_of x) t []) (sym is) (record { scrubs = refl; acls = refl })

pub first_room : (domains : ℕ) (limits : Limits) (scrubs acls : ℕ) (table : TableValue) → table ≡ empty_table scrubs acls → scrubs ≡ scrub_room_of domains limits
    → acls ≡ acl_room_of domains limits → HasRoom domains limits (filters_of table)
first_room domains limits scrubs acls table is scrubs_are acls_are =
    subst (λ (x : TableValue). HasRoom domains limits (filters_of x)) (sym is) (record { scrubs = scrubs_are; acls = acls_are })

-- a product of numbers in these ranges
pub product_low : (a b most most_b : ℕ) → a ≤ most → b ≤ most_b → a * b ≤ most * most_b
product_low a b most most_b first second =
    le_trans (mul-le-mul_right b first) (subst (λ n. n ≤ most * most_b) (mul_comm b most) (subst (λ n. b * most ≤ n) (mul_comm most_b most) (mul-le-mul_right most second)))
