-- What the calls for a change of lists make of the rows.
use Rattle.std.proofs.Common.{◌≡◌, ℕ, ◌<◌, ◌≤◌, Bool, true, false, List, [], ◌∷◌, ◌++◌, length, Option, Some, None, refl, sym, ap, ◌∙◌, arith}
use Rattle.std.specs.Prelude.{option_map}
use Rattle.std.proofs.lemmas.Bool.{false≢true}
use Rattle.std.proofs.lemmas.List.{length-append}
use Rattle.std.proofs.lemmas.Option.{none-some, same_Some}
use Rattle.acl_lists.specs.declared.acl.Acl.{Acl}
use Rattle.acl_lists.specs.declared.rows.AclRow.{AclRow}
use Rattle.dots_history.specs.declared.entry.Entry.{Entry}
use Rattle.dots_history.specs.declared.change.Change.{Change}
use Rattle.dots_history.specs.declared.change.Change.TheVariants as change
use Rattle.dots_history.specs.Rows.{acl_of}
use Rattle.installed_filters.specs.Filters.{FiltersValue, with_rows, acls_without, acls_without_all, acl_switched, active_by, acl_row_with, list_put, acls_by, filters_written}

abbrev rows_set : Bool → AclRow → List AclRow → List AclRow
rows_set mitigating row rows = acls_without row.domain row.cuid row.acl.name rows ++ acl_switched (active_by mitigating row.acl.activation) row ∷ []

by_list : (mitigating : Bool) (acls : List Acl) (e : Entry) (c : Change) (row : AclRow) (rows : List AclRow) → option_map (acl_row_with false e) (acl_of c) ≡ Some row
    → acls_by mitigating acls e c rows ≡ rows_set mitigating row rows
by_list mitigating acls e (change.SetAcl acl) row rows is = ap (λ r. rows_set mitigating r rows) (same_Some (acl_row_with false e acl) row is)
by_list mitigating acls e (change.DropAcl name) row rows is = absurd (none-some row is)
by_list mitigating acls e change.Deregister row rows is = absurd (none-some row is)
by_list mitigating acls e _ row rows is = absurd (none-some row is)

pub written_list : (mitigating : Bool) (acls : List Acl) (e : Entry) (list : Option AclRow) (row : AclRow) (filters new : FiltersValue) → list ≡ list_put e → list ≡ Some row
    → new ≡ with_rows filters filters.scrubs (rows_set mitigating row filters.acls) → new ≡ filters_written mitigating acls e filters
written_list mitigating acls e list row filters new staged is made =
    made ∙ ap (λ rows. with_rows filters filters.scrubs rows) (sym (by_list mitigating acls e e.change row filters.acls (sym staged ∙ is)))

pub list_fits : (mitigating : Bool) (acls : List Acl) (e : Entry) (list : Option AclRow) (row : AclRow) (filters : FiltersValue) → list ≡ list_put e → list ≡ Some row
    → length (filters_written mitigating acls e filters).acls ≤ filters.acl_room
    → length (acls_without row.domain row.cuid row.acl.name filters.acls) < filters.acl_room
list_fits mitigating acls e list row filters staged is most =
    let are = ap length (by_list mitigating acls e e.change row filters.acls (sym staged ∙ is)) in
    let long = length-append
    (acls_without row.domain row.cuid row.acl.name filters.acls)
    (acl_switched (active_by mitigating row.acl.activation) row ∷ []) in
    omega (arith, most, are, long)

pub no_list : (e : Entry) (list : Option AclRow) → list ≡ list_put e → list ≡ None → acl_of e.change ≡ None
no_list e list staged is = by_option (acl_of e.change) (sym staged ∙ is)
  where
    by_option : (o : Option Acl) → option_map (acl_row_with false e) o ≡ None → o ≡ None
    by_option None none = refl
    by_option (Some acl) some = absurd (none-some (acl_row_with false e acl) (sym some))

-- ---- a change that writes no list

pub drops_list : (acls : List Acl) (e : Entry) (name : List ℕ) (filters new : FiltersValue) → e.change ≡ change.DropAcl name
    → new ≡ with_rows filters filters.scrubs (acls_without e.domain e.cuid name filters.acls) → (mitigating : Bool) → new ≡ filters_written mitigating acls e filters
drops_list acls e name filters new is made mitigating =
    made ∙ ap (λ c. with_rows filters filters.scrubs (acls_by mitigating acls e c filters.acls)) (sym is)

pub drops_all : (acls : List Acl) (e : Entry) (filters new : FiltersValue) → e.change ≡ change.Deregister
    → new ≡ with_rows filters filters.scrubs (acls_without_all e.domain e.cuid acls filters.acls) → (mitigating : Bool) → new ≡ filters_written mitigating acls e filters
drops_all acls e filters new is made mitigating =
    made ∙ ap (λ c. with_rows filters filters.scrubs (acls_by mitigating acls e c filters.acls)) (sym is)

abbrev pub spares_lists : Change → Bool
spares_lists (change.SetAcl acl) = false
spares_lists (change.DropAcl name) = false
spares_lists change.Deregister = false
spares_lists _ = true

left_lists : (mitigating : Bool) (acls : List Acl) (e : Entry) (c : Change) (rows : List AclRow) → spares_lists c ≡ true → rows ≡ acls_by mitigating acls e c rows
left_lists mitigating acls e (change.SetAcl acl) rows is = absurd (false≢true is)
left_lists mitigating acls e (change.DropAcl name) rows is = absurd (false≢true is)
left_lists mitigating acls e change.Deregister rows is = absurd (false≢true is)
left_lists mitigating acls e _ rows is = refl

pub lists_left : (acls : List Acl) (e : Entry) (c : Change) (filters : FiltersValue) → e.change ≡ c → spares_lists c ≡ true → (mitigating : Bool)
    → filters ≡ filters_written mitigating acls e filters
lists_left acls e c filters is leaves mitigating =
    ap (λ rows. with_rows filters filters.scrubs rows) (left_lists mitigating acls e e.change filters.acls (ap spares_lists is ∙ leaves))

pub never_set : (acls : List Acl) (e : Entry) (acl : Acl) (filters : FiltersValue) → e.change ≡ change.SetAcl acl → acl_of e.change ≡ None → (mitigating : Bool)
    → filters ≡ filters_written mitigating acls e filters
never_set acls e acl filters is none mitigating = absurd (none-some acl (sym none ∙ ap acl_of is))
