-- The rows of lists after an entry that writes or takes away some.
use Rattle.std.proofs.Common.{◌≡◌, ℕ, Bool, true, false, cond, not, ◌&&◌, ◌||◌, List, [], ◌∷◌, ◌++◌, filter, Option, Some, None, inl, inr, refl, sym, ap, ◌∙◌, append-nil, append_assoc}
use Rattle.std.specs.Prelude.{bytes_eq, ◌==◌, option_to_list, option_map}
use Rattle.std.specs.List.{list_any}
use Rattle.std.proofs.lemmas.Bool.{false≢true, both_ways, cond_both, cond-true, cond-false, cases_Bool, and_from, and_right}
use Rattle.std.proofs.lemmas.Option.{none-some, same_Some}
use Rattle.std.proofs.lemmas.Slice.Eq.{bytes_eq-Decides}
use Rattle.acl_lists.specs.declared.acl.Acl.{Acl}
use Rattle.acl_lists.specs.declared.rows.AclRow.{AclRow}
use Rattle.filter_table.specs.TableRows.{is_of_client}
use Rattle.dots_history.specs.declared.entry.Entry.{Entry}
use Rattle.dots_history.specs.declared.change.Change.{Change}
use Rattle.dots_history.specs.declared.change.Change.TheVariants as change
use Rattle.dots_history.specs.Entries.{same_client, is_held, undoes, undoes_of_client, undoes_of_peer, undoes_acl, undoes_loss, reconfigures, resumes, is_lost, is_loss}
use Rattle.dots_history.specs.Rows.{acl_of}
use Rattle.dots_history.specs.Tables.{Client, client_of, is_of}
use Rattle.dots_history.specs.Views.{held_with}
use Rattle.dots_history.proofs.Members.{In, any_of}
use Rattle.dots_history.proofs.Single.{of_itself}
use Rattle.dots_history.specs.Held.{acls_of, written}
use Rattle.dots_history.proofs.Written.{other_way}
use Rattle.installed_filters.specs.Filters.{acl_row_by, is_named_row, acls_by}
use Rattle.installed_filters.proofs.Sieving.{filter_all}
use Rattle.installed_filters.proofs.Waking.{acls_by_client}

-- ---- what a list is to a later entry

acl_undone : (c : Change) (a : Acl) (later : Change) → acl_of c ≡ Some a → undoes_of_client c later ≡ undoes_acl a.name later
unfolding undoes_of_client
acl_undone (change.SetAcl acl) a later is = ap (λ (x : Acl). undoes_acl x.name later) (same_Some acl a is)
acl_undone _ a later is = absurd (none-some a is)

acl_of_client : (c : Change) (a : Acl) (later : Change) → acl_of c ≡ Some a → (undoes_of_peer c later ≡ false) × (undoes_loss c later ≡ false)
unfolding undoes_of_peer undoes_loss is_lost
acl_of_client (change.SetAcl acl) a later is = (refl, refl)
acl_of_client _ a later is = absurd (none-some a is)

acl_held : (c : Change) (a : Acl) → acl_of c ≡ Some a → is_held c ≡ true
unfolding is_held
acl_held (change.SetAcl acl) a is = refl
acl_held _ a is = absurd (none-some a is)

-- the row is of the entry's client, and the change takes its list away
abbrev taken : Entry → Change → AclRow → Bool
taken e c row = is_of_client e.domain e.cuid row.domain row.cuid && undoes_acl row.acl.name c

client_is : (e x : Entry) → is_of (client_of x) e ≡ is_of_client e.domain e.cuid x.domain x.cuid
unfolding is_of
client_is e x = refl

client_same : (e x : Entry) → same_client x e ≡ is_of_client e.domain e.cuid x.domain x.cuid
client_same e x = of_itself x e ∙ client_is e x

undone_list : (e x : Entry) (a : Acl) (active : Bool) → acl_of x.change ≡ Some a → undoes x e ≡ taken e e.change (acl_row_by active x a)
unfolding undoes reconfigures resumes
undone_list e x a active is =
    let alone = acl_of_client x.change a e.change is in
    ap
    (λ b. (same_client x e && undoes_of_client x.change e.change) || (b || ((x.peer == e.peer) && ((x.domain == e.domain) && undoes_loss x.change e.change))))
    (and_right (x.peer == e.peer) (undoes_of_peer x.change e.change) alone.0)
    ∙ ap
    (λ b. (same_client x e && undoes_of_client x.change e.change) || (false || b))
    (and_right
    (x.peer == e.peer)
    ((x.domain == e.domain) && undoes_loss x.change e.change)
    (and_right (x.domain == e.domain) (undoes_loss x.change e.change) alone.1))
    ∙ or_none (same_client x e && undoes_of_client x.change e.change)
    ∙ ap (λ b. same_client x e && b) (acl_undone x.change a e.change is)
    ∙ ap (λ b. b && undoes_acl a.name e.change) (client_same e x)
  where
    or_none : (b : Bool) → (b || (false || false)) ≡ b
    or_none true = refl
    or_none false = refl

lists_left : (f : Entry → Bool) (e : Entry) (xs : List Entry)
    → acls_by_client f (filter (λ x. not (undoes x e)) xs) ≡ filter (λ row. not (taken e e.change row)) (acls_by_client f xs)
lists_left f e [] = refl
lists_left f e (x ∷ xs) = by_list (acl_of x.change) refl (lists_left f e xs)
  where
    by_list : (o : Option Acl) → acl_of x.change ≡ o
        → acls_by_client f (filter (λ x. not (undoes x e)) xs) ≡ filter (λ row. not (taken e e.change row)) (acls_by_client f xs)
        → acls_by_client f (cond (not (undoes x e)) (x ∷ filter (λ x. not (undoes x e)) xs) (filter (λ x. not (undoes x e)) xs))
        ≡ filter (λ row. not (taken e e.change row)) (option_to_list (option_map (acl_row_by (f x) x) (acl_of x.change)) ++ acls_by_client f xs)
    by_list None none go =
        cond_both
        (not (undoes x e))
        (x ∷ filter (λ x. not (undoes x e)) xs)
        (filter (λ x. not (undoes x e)) xs)
        (λ es. acls_by_client f es ≡ filter (λ row. not (taken e e.change row)) (acls_by_client f xs))
        (λ is.
        ap (λ o. option_to_list (option_map (acl_row_by (f x) x) o) ++ acls_by_client f (filter (λ x. not (undoes x e)) xs)) none ∙ go)
        (λ out. go)
        ∙ sym (ap (λ o. filter (λ row. not (taken e e.change row)) (option_to_list (option_map (acl_row_by (f x) x) o) ++ acls_by_client f xs)) none)
    by_list (Some a) some go =
        let row = acl_row_by (f x) x a in
        let same : not (undoes x e) ≡ not (taken e e.change row) = ap not (undone_list e x a (f x) some) in
        let rest = filter (λ r. not (taken e e.change r)) (acls_by_client f xs) in
        cond_both
        (not (undoes x e))
        (x ∷ filter (λ x. not (undoes x e)) xs)
        (filter (λ x. not (undoes x e)) xs)
        (λ es. acls_by_client f es ≡ cond (not (taken e e.change row)) (row ∷ rest) rest)
        (λ is.
        ap (λ o. option_to_list (option_map (acl_row_by (f x) x) o) ++ acls_by_client f (filter (λ x. not (undoes x e)) xs)) some
        ∙ ap (λ rows. row ∷ rows) go
        ∙ sym (cond-true (not (taken e e.change row)) (row ∷ rest) rest (sym same ∙ is)))
        (λ out. go ∙ sym (cond-false (not (taken e e.change row)) (row ∷ rest) rest (sym same ∙ out)))
        ∙ sym (ap (λ o. filter (λ r. not (taken e e.change r)) (option_to_list (option_map (acl_row_by (f x) x) o) ++ acls_by_client f xs)) some)

lists_append : (f : Entry → Bool) (xs ys : List Entry) → acls_by_client f (xs ++ ys) ≡ acls_by_client f xs ++ acls_by_client f ys
lists_append f [] ys = refl
lists_append f (x ∷ xs) ys =
    ap (λ rows. option_to_list (option_map (acl_row_by (f x) x) (acl_of x.change)) ++ rows) (lists_append f xs ys)
    ∙ sym (append_assoc (option_to_list (option_map (acl_row_by (f x) x) (acl_of x.change))) (acls_by_client f xs) (acls_by_client f ys))

list_last : (f : Entry → Bool) (e : Entry)
    → acls_by_client f (cond (is_held e.change) (e ∷ []) []) ≡ option_to_list (option_map (acl_row_by (f e) e) (acl_of e.change))
list_last f e =
    cond_both
    (is_held e.change)
    (e ∷ [])
    []
    (λ es. acls_by_client f es ≡ option_to_list (option_map (acl_row_by (f e) e) (acl_of e.change)))
    (λ is. append-nil (option_to_list (option_map (acl_row_by (f e) e) (acl_of e.change))))
    (λ out. by_list out (acl_of e.change) refl)
  where
    by_list : is_held e.change ≡ false → (o : Option Acl) → acl_of e.change ≡ o
        → [] ≡ option_to_list (option_map (acl_row_by (f e) e) (acl_of e.change))
    by_list out None none = sym (ap (λ o. option_to_list (option_map (acl_row_by (f e) e) o)) none)
    by_list out (Some a) some = absurd (both_ways (is_held e.change) out (acl_held e.change a some))

pub lists_with : (f : Entry → Bool) (e : Entry) (es : List Entry)
    → acls_by_client f (held_with e es)
    ≡ filter (λ row. not (taken e e.change row)) (acls_by_client f es) ++ option_to_list (option_map (acl_row_by (f e) e) (acl_of e.change))
lists_with f e es =
    lists_append f (filter (λ x. not (undoes x e)) es) (cond (is_held e.change) (e ∷ []) [])
    ∙ ap (λ rows. rows ++ acls_by_client f (cond (is_held e.change) (e ∷ []) [])) (lists_left f e es)
    ∙ ap (λ rows. filter (λ row. not (taken e e.change row)) (acls_by_client f es) ++ rows) (list_last f e)

-- ---- all lists of a client that leaves

in_written : (client : Client) (x : Entry) (a : Acl) (es : List Entry) → In x es → is_of client x ≡ true → acl_of x.change ≡ Some a
    → In a (written acl_of client es)
in_written client x a [] there own is = there
in_written client x a (y ∷ es) (inl same) own is =
    here (is_of client y) (acl_of y.change) (ap (is_of client) (sym same) ∙ own) (ap (λ (z : Entry). acl_of z.change) (sym same) ∙ is)
  where
    here : (b : Bool) (o : Option Acl) → b ≡ true → o ≡ Some a → In a (option_to_list (cond b o None) ++ written acl_of client es)
    here true None owned some = absurd (none-some a some)
    here true (Some acl) owned some = inl (sym (same_Some acl a some))
    here false o owned some = absurd (false≢true owned)
in_written client x a (y ∷ es) (inr more) own is = beyond (cond (is_of client y) (acl_of y.change) None) (in_written client x a es more own is)
  where
    beyond : (o : Option Acl) → In a (written acl_of client es) → In a (option_to_list o ++ written acl_of client es)
    beyond None rest = rest
    beyond (Some acl) rest = inr rest

none_of : (acls : List Acl) (domain : ℕ) (cuid : List ℕ) (row : AclRow) → is_of_client domain cuid row.domain row.cuid ≡ false
    → list_any (λ (acl : Acl). is_named_row domain cuid acl.name row) acls ≡ false
none_of [] domain cuid row out = refl
none_of (acl ∷ acls) domain cuid row out =
    ap (λ b. (b && bytes_eq row.acl.name acl.name) || list_any (λ (a : Acl). is_named_row domain cuid a.name row) acls) out ∙ none_of acls domain cuid row out

named_there : (e x : Entry) (a : Acl) (active : Bool) (es : List Entry) → In x es → acl_of x.change ≡ Some a
    → list_any (λ (acl : Acl). is_named_row e.domain e.cuid acl.name (acl_row_by active x a)) (acls_of (client_of e) es)
    ≡ is_of_client e.domain e.cuid x.domain x.cuid
named_there e x a active es there is =
    elim (cases_Bool (is_of_client e.domain e.cuid x.domain x.cuid)) [
      | inl own ↦
          let of_e : is_of (client_of e) x ≡ true = sym (of_itself e x) ∙ other_way e x ∙ of_itself x e ∙ client_is e x ∙ own in
          any_of
          (λ (acl : Acl). is_named_row e.domain e.cuid acl.name (acl_row_by active x a))
          a
          (acls_of (client_of e) es)
          (in_written (client_of e) x a es there of_e is)
          (and_from
          (is_of_client e.domain e.cuid x.domain x.cuid)
          (bytes_eq a.name a.name)
          own
          ((bytes_eq-Decides a.name a.name).1 refl))
          ∙ sym own
      | inr other ↦ none_of (acls_of (client_of e) es) e.domain e.cuid (acl_row_by active x a) other ∙ sym other
    ]

all_named : (f : Entry → Bool) (e : Entry) (es xs : List Entry) → ((x : Entry) → In x xs → In x es)
    → filter (λ row. not (list_any (λ (acl : Acl). is_named_row e.domain e.cuid acl.name row) (acls_of (client_of e) es))) (acls_by_client f xs)
    ≡ filter (λ row. not (is_of_client e.domain e.cuid row.domain row.cuid && true)) (acls_by_client f xs)
all_named f e es [] within = refl
all_named f e es (x ∷ xs) within = by_list (acl_of x.change) refl (all_named f e es xs (λ y there. within y (inr there)))
  where
    and_true : (b : Bool) → b ≡ (b && true)
    and_true true = refl
    and_true false = refl

    by_list : (o : Option Acl) → acl_of x.change ≡ o
        → filter (λ row. not (list_any (λ (acl : Acl). is_named_row e.domain e.cuid acl.name row) (acls_of (client_of e) es))) (acls_by_client f xs)
        ≡ filter (λ row. not (is_of_client e.domain e.cuid row.domain row.cuid && true)) (acls_by_client f xs)
        → filter
        (λ row. not (list_any (λ (acl : Acl). is_named_row e.domain e.cuid acl.name row) (acls_of (client_of e) es)))
        (option_to_list (option_map (acl_row_by (f x) x) o) ++ acls_by_client f xs)
        ≡ filter
        (λ row. not (is_of_client e.domain e.cuid row.domain row.cuid && true))
        (option_to_list (option_map (acl_row_by (f x) x) o) ++ acls_by_client f xs)
    by_list None none go = go
    by_list (Some a) some go =
        let row = acl_row_by (f x) x a in
        ap
        (λ b.
        cond
        (not b)
        (row ∷ filter (λ row. not (list_any (λ (acl : Acl). is_named_row e.domain e.cuid acl.name row) (acls_of (client_of e) es))) (acls_by_client f xs))
        (filter (λ row. not (list_any (λ (acl : Acl). is_named_row e.domain e.cuid acl.name row) (acls_of (client_of e) es))) (acls_by_client f xs)))
        (named_there e x a (f x) es (within x (inl refl)) some ∙ and_true (is_of_client e.domain e.cuid x.domain x.cuid))
        ∙ ap (λ rows. cond (not (is_of_client e.domain e.cuid x.domain x.cuid && true)) (row ∷ rows) rows) go

-- ---- by the change

not_taken : (e : Entry) (rows : List AclRow) → rows ≡ filter (λ row. not (is_of_client e.domain e.cuid row.domain row.cuid && false)) rows ++ []
not_taken e rows =
    sym (append-nil (filter (λ row. not (is_of_client e.domain e.cuid row.domain row.cuid && false)) rows)
    ∙ filter_all
    (λ row. not (is_of_client e.domain e.cuid row.domain row.cuid && false))
    (λ row. ap not (and_none (is_of_client e.domain e.cuid row.domain row.cuid)))
    rows)
  where
    and_none : (b : Bool) → (b && false) ≡ false
    and_none true = refl
    and_none false = refl

by_change : (f : Entry → Bool) (e : Entry) (es : List Entry) (c : Change)
    → acls_by (f e) (acls_of (client_of e) es) e c (acls_by_client f es)
    ≡ filter (λ row. not (taken e c row)) (acls_by_client f es) ++ option_to_list (option_map (acl_row_by (f e) e) (acl_of c))
unfolding undoes_acl
by_change f e es (change.SetAcl acl) = refl
by_change f e es (change.DropAcl name) = sym (append-nil (filter (λ row. not (taken e (change.DropAcl name) row)) (acls_by_client f es)))
by_change f e es change.Deregister =
    all_named f e es es (λ x there. there)
    ∙ sym (append-nil (filter (λ row. not (is_of_client e.domain e.cuid row.domain row.cuid && true)) (acls_by_client f es)))
by_change f e es _ = not_taken e (acls_by_client f es)

-- whether its client mitigates matters to an entry that writes a list alone
by_mitigating : (a b : Bool) (acls : List Acl) (e : Entry) (c : Change) (rows : List AclRow) → ((acl : Acl) → acl_of c ≡ Some acl → a ≡ b)
    → acls_by a acls e c rows ≡ acls_by b acls e c rows
by_mitigating a b acls e (change.SetAcl acl) rows same = ap (λ m. acls_by m acls e (change.SetAcl acl) rows) (same acl refl)
by_mitigating a b acls e _ rows same = refl

pub acls_written : (f : Entry → Bool) (mitigating : Bool) (acls : List Acl) (e : Entry) (es : List Entry)
    → ((acl : Acl) → acl_of e.change ≡ Some acl → mitigating ≡ f e) → acls ≡ acls_of (client_of e) es
    → acls_by mitigating acls e e.change (acls_by_client f es) ≡ acls_by_client f (held_with e es)
acls_written f mitigating acls e es same are =
    by_mitigating mitigating (f e) acls e e.change (acls_by_client f es) same
    ∙ ap (λ given. acls_by (f e) given e e.change (acls_by_client f es)) are
    ∙ by_change f e es e.change
    ∙ sym (lists_with f e es)

-- what says that a signal is lost or back says nothing of lists
loss_lists : (mitigating : Bool) (acls : List Acl) (e : Entry) (c : Change) (rows : List AclRow) → is_loss c ≡ true → acls_by mitigating acls e c rows ≡ rows
unfolding is_loss
loss_lists mitigating acls e change.Lost rows is = refl
loss_lists mitigating acls e change.Back rows is = refl
loss_lists mitigating acls e _ rows is = absurd (false≢true is)

loss_lists_none : (c : Change) → is_loss c ≡ true → acl_of c ≡ None
unfolding is_loss
loss_lists_none change.Lost is = refl
loss_lists_none change.Back is = refl
loss_lists_none _ is = absurd (false≢true is)

pub acls_lost : (f : Entry → Bool) (e : Entry) (es : List Entry) → is_loss e.change ≡ true → acls_by_client f (held_with e es) ≡ acls_by_client f es
acls_lost f e es is =
    sym (acls_written
    f
    false
    (acls_of (client_of e) es)
    e
    es
    (λ acl some. absurd (none-some acl (sym (loss_lists_none e.change is) ∙ some)))
    refl)
    ∙ loss_lists false (acls_of (client_of e) es) e e.change (acls_by_client f es) is
