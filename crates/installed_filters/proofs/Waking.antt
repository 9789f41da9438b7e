-- Which lists are active, as mitigations come and go.
use Rattle.std.proofs.Common.{◌≡◌, ℕ, Bool, true, false, cond, not, ◌&&◌, ◌||◌, List, [], ◌∷◌, ◌++◌, map, filter, Option, Some, None, inl, inr, refl, sym, ap, ◌∙◌}
use Rattle.std.specs.Prelude.{bytes_eq, ◌==◌, option_to_list, option_map}
use Rattle.std.specs.List.{list_any}
use Rattle.std.proofs.lemmas.Bool.{false≢true, both_ways, cases_Bool, and_parts, and_left, and_right, eqb-true, eq-eqb, false_from_ne_true}
use Rattle.std.proofs.lemmas.List.Folds.{list_any-append}
use Rattle.std.proofs.lemmas.Slice.Eq.{bytes_eq-Decides}
use Rattle.acl_lists.specs.declared.acl.Acl.{Acl}
use Rattle.acl_lists.specs.declared.acl.Activation.{Activation}
use Rattle.acl_lists.specs.declared.acl.Activation.TheVariants.{WhenMitigating, Immediate, Deactivate}
use Rattle.acl_lists.specs.declared.rows.AclRow.{AclRow}
use Rattle.filter_table.specs.TableRows.{is_of_client, waits}
use Rattle.dots_history.specs.declared.entry.Entry.{Entry}
use Rattle.dots_history.specs.Entries.{same_client, ends, option_any}
use Rattle.dots_history.specs.Histories.{Mitigation, mitigations, held}
use Rattle.dots_history.specs.declared.status.Status.TheVariants.{Open}
use Rattle.dots_history.specs.Rows.{acl_of, acl_row, acl_rows_of, acl_rows, works, is_active, is_mitigating}
use Rattle.dots_history.specs.Views.{mitigations_of}
use Rattle.dots_history.proofs.Members.{In}
use Rattle.held_resources.proofs.Holdings.{turned_eq, turned_bytes}
use Rattle.installed_filters.specs.Filters.{some_of, settled_row, acl_switched, activated_row, active_by, acl_row_by, lives_at_once, stays_beside}
use Rattle.installed_filters.proofs.Sieving.{any_by, any_filter, any_left, any_less, any_unless_in}
use Rattle.installed_filters.proofs.Keys.{keeps, goes_from}

-- a mitigation of the entry's client that filters is among these
abbrev pub mitigates : (Entry → Bool) → List Mitigation → Entry → Bool
mitigates working ms e = list_any (λ (m : Mitigation). same_client e m.put && working m.put) ms

-- the rows of the lists that entries wrote, by which clients mitigate
abbrev pub acls_by_client : (Entry → Bool) → List Entry → List AclRow
acls_by_client mitigating [] = []
acls_by_client mitigating (e ∷ es) = option_to_list (option_map (acl_row_by (mitigating e) e) (acl_of e.change)) ++ acls_by_client mitigating es

active_is : (t : ℕ) (entries : List Entry) (e : Entry) (a : Activation) → is_active t entries e a ≡ active_by (is_mitigating t entries e) a
active_is t entries e Immediate = refl
active_is t entries e WhenMitigating = refl
active_is t entries e Deactivate = refl

row_is : (t : ℕ) (entries : List Entry) (e : Entry) (acl : Acl) → acl_row t entries e (Some acl) ≡ Some (acl_row_by (is_mitigating t entries e) e acl)
row_is t entries e acl = ap (λ b. Some (record { domain = e.domain; cuid = e.cuid; acl = acl; active = b })) (active_is t entries e acl.activation)

abbrev lists : List Entry → List Entry
lists xs = filter (λ (x : Entry). option_any (λ (acl : Acl). true) (acl_of x.change)) xs

pub lists_by : (t : ℕ) (entries es : List Entry)
    → acl_rows_of t entries (lists es) ≡ acls_by_client (is_mitigating t entries) es
lists_by t entries [] = refl
lists_by t entries (e ∷ es) = by_list (acl_of e.change) refl (lists_by t entries es)
  where
    by_list : (o : Option Acl) → acl_of e.change ≡ o → acl_rows_of t entries (lists es) ≡ acls_by_client (is_mitigating t entries) es
        → acl_rows_of t entries (cond (option_any (λ (acl : Acl). true) (acl_of e.change)) (e ∷ lists es) (lists es))
        ≡ option_to_list (option_map (acl_row_by (is_mitigating t entries e) e) (acl_of e.change)) ++ acls_by_client (is_mitigating t entries) es
    by_list None none rest =
        ap (λ o. acl_rows_of t entries (cond (option_any (λ (acl : Acl). true) o) (e ∷ lists es) (lists es))) none
        ∙ rest
        ∙ sym (ap (λ o. option_to_list (option_map (acl_row_by (is_mitigating t entries e) e) o) ++ acls_by_client (is_mitigating t entries) es) none)
    by_list (Some acl) some rest =
        ap (λ o. acl_rows_of t entries (cond (option_any (λ (acl : Acl). true) o) (e ∷ lists es) (lists es))) some
        ∙ ap (λ o. option_to_list (acl_row t entries e o) ++ acl_rows_of t entries (lists es)) some
        ∙ ap (λ o. option_to_list o ++ acl_rows_of t entries (lists es)) (row_is t entries e acl)
        ∙ ap (λ rows. acl_row_by (is_mitigating t entries e) e acl ∷ rows) rest
        ∙ sym (ap (λ o. option_to_list (option_map (acl_row_by (is_mitigating t entries e) e) o) ++ acls_by_client (is_mitigating t entries) es) some)

pub lists_are : (t : ℕ) (entries : List Entry) → acl_rows t entries ≡ acls_by_client (mitigates (works (held entries)) (mitigations t entries)) (held entries)
lists_are t entries = lists_by t entries (held entries)

-- ---- changed one by one

pub clients_changed : (f g : Entry → Bool) (change : AclRow → AclRow)
    → ((e : Entry) (acl : Acl) → change (acl_row_by (f e) e acl) ≡ acl_row_by (g e) e acl) → (es : List Entry)
    → map change (acls_by_client f es) ≡ acls_by_client g es
clients_changed f g change same [] = refl
clients_changed f g change same (e ∷ es) = by_list (acl_of e.change) (clients_changed f g change same es)
  where
    by_list : (o : Option Acl) → map change (acls_by_client f es) ≡ acls_by_client g es
        → map change (option_to_list (option_map (acl_row_by (f e) e) o) ++ acls_by_client f es)
        ≡ option_to_list (option_map (acl_row_by (g e) e) o) ++ acls_by_client g es
    by_list None rest = rest
    by_list (Some acl) rest =
        ap (λ row. row ∷ map change (acls_by_client f es)) (same e acl)
        ∙ ap (λ rows. acl_row_by (g e) e acl ∷ rows) rest

pub same_clients : (f g : Entry → Bool) → ((e : Entry) → f e ≡ g e) → (es : List Entry) → acls_by_client f es ≡ acls_by_client g es
same_clients f g same [] = refl
same_clients f g same (e ∷ es) =
    ap (λ b. option_to_list (option_map (acl_row_by b e) (acl_of e.change)) ++ acls_by_client f es) (same e)
    ∙ ap (λ rows. option_to_list (option_map (acl_row_by (g e) e) (acl_of e.change)) ++ rows) (same_clients f g same es)

abbrev row_with : Entry → Acl → Bool → AclRow
row_with e acl active = record { domain = e.domain; cuid = e.cuid; acl = acl; active = active }

-- where a list is switched, by its activation
pub switched_by : (b v before after : Bool) (e : Entry) (acl : Acl) → after ≡ cond b v before
    → cond (b && waits acl.activation) (acl_switched v (acl_row_by before e acl)) (acl_row_by before e acl) ≡ acl_row_by after e acl
switched_by b v before after e acl is = by_activation acl.activation refl
  where
    waiting : (c : Bool) → cond (c && true) (row_with e acl v) (row_with e acl before) ≡ row_with e acl (cond c v before)
    waiting true = refl
    waiting false = refl

    never : (c active : Bool) → cond (c && false) (row_with e acl v) (row_with e acl active) ≡ row_with e acl active
    never true active = refl
    never false active = refl

    by_activation : (a : Activation) → acl.activation ≡ a
        → cond (b && waits a) (row_with e acl v) (row_with e acl (active_by before a)) ≡ row_with e acl (active_by after a)
    by_activation Immediate same = never b true
    by_activation WhenMitigating same = waiting b ∙ ap (row_with e acl) (sym is)
    by_activation Deactivate same = never b false

-- ---- who mitigates, as those of a domain go

own_domain : (e x : Entry) → same_client e x ≡ true → e.domain ≡ x.domain
unfolding same_client
own_domain e x is = eqb-true e.domain x.domain (and_parts (e.domain == x.domain) (bytes_eq e.cuid x.cuid) is).0

-- in the domain of e a mitigation is of its client where it has its name
of_name : (domain : ℕ) (e : Entry) (m : Mitigation) → e.domain ≡ domain → ((m.put.domain == domain) && bytes_eq m.put.cuid e.cuid) ≡ same_client e m.put
unfolding same_client
of_name domain e m own =
    ap (λ d. (m.put.domain == d) && bytes_eq m.put.cuid e.cuid) (sym own)
    ∙ ap (λ b. b && bytes_eq m.put.cuid e.cuid) (turned_eq m.put.domain e.domain)
    ∙ ap (λ b. (e.domain == m.put.domain) && b) (turned_bytes m.put.cuid e.cuid)

between : (a b c : Bool) → (a && (b && c)) ≡ (b && (a && c))
between true true c = refl
between true false c = refl
between false true c = refl
between false false c = refl

pub some_of_domain : (domain : ℕ) (e : Entry) (passes : Mitigation → Bool) (ms : List Mitigation) → e.domain ≡ domain
    → some_of passes e.cuid (mitigations_of domain ms) ≡ list_any (λ m. passes m && same_client e m.put) ms
some_of_domain domain e passes ms own =
    any_filter (λ m. passes m && bytes_eq m.put.cuid e.cuid) (λ (m : Mitigation). m.put.domain == domain) ms
    ∙ any_by
    (λ m. (m.put.domain == domain) && (passes m && bytes_eq m.put.cuid e.cuid))
    (λ m. passes m && same_client e m.put)
    (λ m.
    between (m.put.domain == domain) (passes m) (bytes_eq m.put.cuid e.cuid)
    ∙ ap (λ b. passes m && b) (of_name domain e m own))
    ms

-- those of a client in the domain that pass, where it is asked first whether they are of the client
and_turned : (a b : Bool) → (a && b) ≡ (b && a)
and_turned true true = refl
and_turned true false = refl
and_turned false true = refl
and_turned false false = refl

and_nested : (a b c : Bool) → ((a && b) && c) ≡ (a && (c && b))
and_nested true b c = and_turned b c
and_nested false b c = refl

pub some_working : (domain : ℕ) (e : Entry) (working : Entry → Bool) (ms : List Mitigation) → e.domain ≡ domain
    → some_of (λ m. working m.put) e.cuid (mitigations_of domain ms) ≡ mitigates working ms e
some_working domain e working ms own =
    some_of_domain domain e (λ m. working m.put) ms own
    ∙ any_by
    (λ m. working m.put && same_client e m.put)
    (λ (m : Mitigation). same_client e m.put && working m.put)
    (λ m. and_turned (working m.put) (same_client e m.put))
    ms

some_that_stay : (domain : ℕ) (e : Entry) (working : Entry → Bool) (stays : Mitigation → Bool) (ms : List Mitigation) → e.domain ≡ domain
    → some_of (λ m. stays m && working m.put) e.cuid (mitigations_of domain ms) ≡ list_any (λ m. stays m && (same_client e m.put && working m.put)) ms
some_that_stay domain e working stays ms own =
    some_of_domain domain e (λ m. stays m && working m.put) ms own
    ∙ any_by
    (λ m. (stays m && working m.put) && same_client e m.put)
    (λ m. stays m && (same_client e m.put && working m.put))
    (λ m. and_nested (stays m) (working m.put) (same_client e m.put))
    ms

-- those that a test of one client keeps
keeps_same : (domain : ℕ) (stays : Mitigation → Bool) (e : Entry) (m : Mitigation) (passes : Bool) → e.domain ≡ domain
    → (keeps domain stays m && (same_client e m.put && passes)) ≡ (stays m && (same_client e m.put && passes))
keeps_same domain stays e m passes own =
    elim (cases_Bool (same_client e m.put)) [
      | inl is ↦
          ap (λ b. not (b && not (stays m)) && (same_client e m.put && passes)) (eq-eqb m.put.domain domain (sym (own_domain e m.put is) ∙ own))
          ∙ ap (λ b. b && (same_client e m.put && passes)) (twice (stays m))
      | inr out ↦
          ap (λ b. keeps domain stays m && (b && passes)) out
          ∙ none (keeps domain stays m) (stays m)
          ∙ sym (ap (λ b. stays m && (b && passes)) out)
    ]
  where
    twice : (b : Bool) → not (true && not b) ≡ b
    twice true = refl
    twice false = refl

    none : (a b : Bool) → (a && false) ≡ (b && false)
    none true true = refl
    none true false = refl
    none false true = refl
    none false false = refl

keeps_other : (domain : ℕ) (stays : Mitigation → Bool) (e : Entry) (m : Mitigation) (passes : Bool) → (e.domain == domain) ≡ false
    → (keeps domain stays m && (same_client e m.put && passes)) ≡ (same_client e m.put && passes)
keeps_other domain stays e m passes other =
    elim (cases_Bool (same_client e m.put)) [
      | inl is ↦
          ap (λ d. not ((d == domain) && not (stays m)) && (same_client e m.put && passes)) (sym (own_domain e m.put is))
          ∙ ap (λ b. not (b && not (stays m)) && (same_client e m.put && passes)) other
      | inr out ↦
          ap (λ b. keeps domain stays m && (b && passes)) out ∙ none (keeps domain stays m) ∙ sym (ap (λ b. b && passes) out)
    ]
  where
    none : (a : Bool) → (a && false) ≡ false
    none true = refl
    none false = refl

-- by whether one of the client's goes, and else as before
abbrev settled_by : ℕ → (Mitigation → Bool) → (Mitigation → Bool) → List Mitigation → Entry → Bool → Bool
settled_by domain goes passes ms e before =
    cond ((e.domain == domain) && some_of goes e.cuid (mitigations_of domain ms)) (some_of passes e.cuid (mitigations_of domain ms)) before

settled_there : (domain : ℕ) (goes passes : Mitigation → Bool) (ms : List Mitigation) (e : Entry) (before : Bool) → (e.domain == domain) ≡ true
    → some_of goes e.cuid (mitigations_of domain ms) ≡ true → settled_by domain goes passes ms e before ≡ some_of passes e.cuid (mitigations_of domain ms)
settled_there domain goes passes ms e before is some =
    ap (λ b. cond (b && some_of goes e.cuid (mitigations_of domain ms)) (some_of passes e.cuid (mitigations_of domain ms)) before) is
    ∙ ap (λ b. cond b (some_of passes e.cuid (mitigations_of domain ms)) before) some

settled_not : (domain : ℕ) (goes passes : Mitigation → Bool) (ms : List Mitigation) (e : Entry) (before : Bool)
    → some_of goes e.cuid (mitigations_of domain ms) ≡ false → settled_by domain goes passes ms e before ≡ before
settled_not domain goes passes ms e before none =
    ap (λ b. cond ((e.domain == domain) && b) (some_of passes e.cuid (mitigations_of domain ms)) before) none
    ∙ never (e.domain == domain) (some_of passes e.cuid (mitigations_of domain ms)) before
  where
    never : (b x y : Bool) → cond (b && false) x y ≡ y
    never true x y = refl
    never false x y = refl

settled_far : (domain : ℕ) (goes passes : Mitigation → Bool) (ms : List Mitigation) (e : Entry) (before : Bool) → (e.domain == domain) ≡ false
    → settled_by domain goes passes ms e before ≡ before
settled_far domain goes passes ms e before other =
    ap (λ b. cond (b && some_of goes e.cuid (mitigations_of domain ms)) (some_of passes e.cuid (mitigations_of domain ms)) before) other

pub still_mitigates : (working : Entry → Bool) (domain : ℕ) (stays : Mitigation → Bool) (ms : List Mitigation) (e : Entry)
    → mitigates working (filter (keeps domain stays) ms) e
    ≡ settled_by domain (λ m. not (stays m)) (λ m. stays m && working m.put) ms e (mitigates working ms e)
still_mitigates working domain stays ms e =
    any_filter (λ (m : Mitigation). same_client e m.put && working m.put) (keeps domain stays) ms
    ∙ elim (cases_Bool (e.domain == domain)) [
      | inl is ↦
          let own : e.domain ≡ domain = eqb-true e.domain domain is in
          let go : some_of (λ m. not (stays m)) e.cuid (mitigations_of domain ms) ≡ list_any (λ m. not (stays m) && same_client e m.put) ms =
          some_of_domain domain e (λ m. not (stays m)) ms own in
          any_by
          (λ m. keeps domain stays m && (same_client e m.put && working m.put))
          (λ m. stays m && (same_client e m.put && working m.put))
          (λ m. keeps_same domain stays e m (working m.put) own)
          ms
          ∙ elim (cases_Bool (some_of (λ m. not (stays m)) e.cuid (mitigations_of domain ms))) [
            | inl some ↦
                sym (some_that_stay domain e working stays ms own)
                ∙ sym (settled_there domain (λ m. not (stays m)) (λ m. stays m && working m.put) ms e (mitigates working ms e) is some)
            | inr none ↦
                any_left
                stays
                (λ m. same_client e m.put && working m.put)
                ms
                (any_less
                (λ m. not (stays m) && (same_client e m.put && working m.put))
                (λ m. not (stays m) && same_client e m.put)
                (λ m. less (not (stays m)) (same_client e m.put) (working m.put))
                ms
                (sym go ∙ none))
                ∙ sym (settled_not domain (λ m. not (stays m)) (λ m. stays m && working m.put) ms e (mitigates working ms e) none)
          ]
      | inr other ↦
          any_by
          (λ m. keeps domain stays m && (same_client e m.put && working m.put))
          (λ m. same_client e m.put && working m.put)
          (λ m. keeps_other domain stays e m (working m.put) other)
          ms
          ∙ sym (settled_far domain (λ m. not (stays m)) (λ m. stays m && working m.put) ms e (mitigates working ms e) other)
    ]
  where
    less : (a b c : Bool) → (a && (b && c)) ≡ true → (a && b) ≡ true
    less true true c is = refl
    less true false c is = absurd (false≢true is)
    less false b c is = absurd (false≢true is)

-- lists are settled as those of a domain go that don't stay
pub acls_settled : (working : Entry → Bool) (domain : ℕ) (stays : Mitigation → Bool) (ms : List Mitigation) (es : List Entry)
    → map
    (settled_row domain (λ m. not (stays m)) (λ m. stays m && working m.put) (mitigations_of domain ms) (mitigations_of domain ms))
    (acls_by_client (mitigates working ms) es)
    ≡ acls_by_client (mitigates working (filter (keeps domain stays) ms)) es
acls_settled working domain stays ms es =
    clients_changed
    (mitigates working ms)
    (mitigates working (filter (keeps domain stays) ms))
    (settled_row domain (λ m. not (stays m)) (λ m. stays m && working m.put) (mitigations_of domain ms) (mitigations_of domain ms))
    (λ e acl.
    switched_by
    ((e.domain == domain) && some_of (λ m. not (stays m)) e.cuid (mitigations_of domain ms))
    (some_of (λ m. stays m && working m.put) e.cuid (mitigations_of domain ms))
    (mitigates working ms e)
    (mitigates working (filter (keeps domain stays) ms) e)
    e
    acl
    (still_mitigates working domain stays ms e))
    es

-- ---- who mitigates, as some of a domain filter that didn't, or no longer

-- those that filter after differ from those before in some of the domain that go, at most
pub now_mitigates : (domain : ℕ) (goes : Mitigation → Bool) (before after : Entry → Bool) (ms : List Mitigation)
    → ((m : Mitigation) → In m ms → goes_from domain goes m ≡ false → after m.put ≡ before m.put) → (e : Entry)
    → mitigates after ms e ≡ settled_by domain goes (λ m. after m.put) ms e (mitigates before ms e)
now_mitigates domain goes before after ms same e =
    elim (cases_Bool (e.domain == domain)) [
      | inl is ↦
          let own : e.domain ≡ domain = eqb-true e.domain domain is in
          elim (cases_Bool (some_of goes e.cuid (mitigations_of domain ms))) [
            | inl some ↦ sym (some_working domain e after ms own) ∙ sym (settled_there domain goes (λ m. after m.put) ms e (mitigates before ms e) is some)
            | inr none ↦
                any_unless_in
                (λ (m : Mitigation). same_client e m.put && after m.put)
                (λ (m : Mitigation). same_client e m.put && before m.put)
                (λ m. goes m && same_client e m.put)
                ms
                (λ m there out. of_others m (same m there) out)
                (sym (some_of_domain domain e goes ms own) ∙ none)
                ∙ sym (settled_not domain goes (λ m. after m.put) ms e (mitigates before ms e) none)
          ]
      | inr other ↦
          any_unless_in
          (λ (m : Mitigation). same_client e m.put && after m.put)
          (λ (m : Mitigation). same_client e m.put && before m.put)
          (λ m. false)
          ms
          (λ m there out. of_far m (same m there) other)
          (never ms)
          ∙ sym (settled_far domain goes (λ m. after m.put) ms e (mitigates before ms e) other)
    ]
  where
    never : (xs : List Mitigation) → list_any (λ m. false) xs ≡ false
    never [] = refl
    never (x ∷ xs) = never xs

    of_others : (m : Mitigation) → (goes_from domain goes m ≡ false → after m.put ≡ before m.put) → (goes m && same_client e m.put) ≡ false
        → (same_client e m.put && after m.put) ≡ (same_client e m.put && before m.put)
    of_others m here out =
        elim (cases_Bool (same_client e m.put)) [
          | inl of_client ↦
              ap
              (λ b. same_client e m.put && b)
              (here (and_right (m.put.domain == domain) (goes m) (sym (and_one (goes m)) ∙ ap (λ b. goes m && b) (sym of_client) ∙ out)))
          | inr not_of ↦ ap (λ b. b && after m.put) not_of ∙ sym (ap (λ b. b && before m.put) not_of)
        ]
      where
        and_one : (b : Bool) → (b && true) ≡ b
        and_one true = refl
        and_one false = refl

    of_far : (m : Mitigation) → (goes_from domain goes m ≡ false → after m.put ≡ before m.put) → (e.domain == domain) ≡ false
        → (same_client e m.put && after m.put) ≡ (same_client e m.put && before m.put)
    of_far m here other =
        elim (cases_Bool (same_client e m.put)) [
          | inl of_client ↦
              ap
              (λ b. same_client e m.put && b)
              (here (and_left (m.put.domain == domain) (goes m) (ap (λ d. d == domain) (sym (own_domain e m.put of_client)) ∙ other)))
          | inr not_of ↦ ap (λ b. b && after m.put) not_of ∙ sym (ap (λ b. b && before m.put) not_of)
        ]

pub acls_woken : (domain : ℕ) (goes : Mitigation → Bool) (before after : Entry → Bool) (ms : List Mitigation) (es : List Entry)
    → ((m : Mitigation) → In m ms → goes_from domain goes m ≡ false → after m.put ≡ before m.put)
    → map
    (settled_row domain goes (λ m. after m.put) (mitigations_of domain ms) (mitigations_of domain ms))
    (acls_by_client (mitigates before ms) es)
    ≡ acls_by_client (mitigates after ms) es
acls_woken domain goes before after ms es same =
    clients_changed
    (mitigates before ms)
    (mitigates after ms)
    (settled_row domain goes (λ m. after m.put) (mitigations_of domain ms) (mitigations_of domain ms))
    (λ e acl.
    switched_by
    ((e.domain == domain) && some_of goes e.cuid (mitigations_of domain ms))
    (some_of (λ m. after m.put) e.cuid (mitigations_of domain ms))
    (mitigates before ms e)
    (mitigates after ms e)
    e
    acl
    (now_mitigates domain goes before after ms same e))
    es

-- ---- who mitigates after a mitigation is put

pub is_client : (e x : Entry) → is_of_client e.domain e.cuid x.domain x.cuid ≡ same_client x e
unfolding same_client
is_client e x = refl

client_back : (e x : Entry) → same_client x e ≡ true → same_client x ≡ same_client e
unfolding same_client
client_back e x is =
    let parts = and_parts (x.domain == e.domain) (bytes_eq x.cuid e.cuid) is in
    ap (λ d. λ (y : Entry). (d == y.domain) && bytes_eq x.cuid y.cuid) (eqb-true x.domain e.domain parts.0)
    ∙ ap (λ c. λ (y : Entry). (e.domain == y.domain) && bytes_eq c y.cuid) ((bytes_eq-Decides x.cuid e.cuid).0 parts.1)

ends_own : (m e : Entry) → ends m e ≡ true → same_client m e ≡ true
unfolding ends
ends_own m e is = (and_parts (same_client m e) _ is).0

-- the own mitigation, where it is live
abbrev pub own_of : Entry → List Mitigation
own_of e = cond (lives_at_once e) (record { put = e; status = Open } ∷ []) []

-- a client after the entry: its own by those that stay of it, and another's as before
abbrev mitigates_after : (Entry → Bool) → Entry → List Mitigation → Entry → Bool
mitigates_after working e ms x =
    cond
    (same_client x e)
    ((lives_at_once e && working e) || some_of (λ m. stays_beside e m && working m.put) e.cuid (mitigations_of e.domain ms))
    (mitigates working ms x)

pub put_mitigates : (working : Entry → Bool) (e : Entry) (ms : List Mitigation) (x : Entry)
    → mitigates working (filter (stays_beside e) ms ++ own_of e) x ≡ mitigates_after working e ms x
put_mitigates working e ms x =
    let left = some_of (λ m. stays_beside e m && working m.put) e.cuid (mitigations_of e.domain ms) in
    list_any-append (λ (m : Mitigation). same_client x m.put && working m.put) (filter (stays_beside e) ms) (own_of e)
    ∙ ap
    (λ b. b || list_any (λ (m : Mitigation). same_client x m.put && working m.put) (own_of e))
    (any_filter (λ (m : Mitigation). same_client x m.put && working m.put) (stays_beside e) ms)
    ∙ ap (λ b. list_any (λ m. stays_beside e m && (same_client x m.put && working m.put)) ms || b) (own_is (lives_at_once e))
    ∙ elim (cases_Bool (same_client x e)) [
      | inl is ↦
          ap
          (λ (f : Entry → Bool). list_any (λ m. stays_beside e m && (f m.put && working m.put)) ms || (lives_at_once e && (same_client x e && working e)))
          (client_back e x is)
          ∙ ap (λ b. b || (lives_at_once e && (same_client x e && working e))) (sym (some_that_stay e.domain e working (stays_beside e) ms refl))
          ∙ ap (λ b. left || (lives_at_once e && (b && working e))) is
          ∙ turned left (lives_at_once e && working e)
          ∙ sym (ap (λ b. cond b ((lives_at_once e && working e) || left) (mitigates working ms x)) is)
      | inr out ↦
          ap (λ b. list_any (λ m. stays_beside e m && (same_client x m.put && working m.put)) ms || (lives_at_once e && (b && working e))) out
          ∙ nothing (list_any (λ m. stays_beside e m && (same_client x m.put && working m.put)) ms) (lives_at_once e)
          ∙ any_by
          (λ m. stays_beside e m && (same_client x m.put && working m.put))
          (λ m. same_client x m.put && working m.put)
          (λ m. others m out)
          ms
          ∙ sym (ap (λ b. cond b ((lives_at_once e && working e) || left) (mitigates working ms x)) out)
    ]
  where
    own_is : (b : Bool) → list_any (λ (m : Mitigation). same_client x m.put && working m.put) (cond b (record { put = e; status = Open } ∷ []) [])
        ≡ (b && (same_client x e && working e))
    own_is true = or_false (same_client x e && working e)
      where
        or_false : (c : Bool) → (c || false) ≡ c
        or_false true = refl
        or_false false = refl
    own_is false = refl

    turned : (a b : Bool) → (a || b) ≡ (b || a)
    turned true true = refl
    turned true false = refl
    turned false true = refl
    turned false false = refl

    nothing : (a b : Bool) → (a || (b && false)) ≡ a
    nothing true b = refl
    nothing false true = refl
    nothing false false = refl

    others : (m : Mitigation) → same_client x e ≡ false → (stays_beside e m && (same_client x m.put && working m.put)) ≡ (same_client x m.put && working m.put)
    others m out =
        elim (cases_Bool (ends m.put e)) [
          | inl ended ↦
              let own_client = ends_own m.put e ended in
              let none : same_client x m.put ≡ false =
              false_from_ne_true (same_client x m.put) (λ is. both_ways (same_client x e) out (ap (λ (f : Entry → Bool). f e) (client_back m.put x is) ∙ own_client)) in
              ap (λ b. not b && (same_client x m.put && working m.put)) ended ∙ sym (ap (λ b. b && working m.put) none)
          | inr stays ↦ ap (λ b. not b && (same_client x m.put && working m.put)) stays
        ]

pub acls_put : (working : Entry → Bool) (e : Entry) (ms : List Mitigation) (es : List Entry)
    → map
    (activated_row
    e.domain
    e.cuid
    ((lives_at_once e && working e) || some_of (λ m. stays_beside e m && working m.put) e.cuid (mitigations_of e.domain ms)))
    (acls_by_client (mitigates working ms) es)
    ≡ acls_by_client (mitigates working (filter (stays_beside e) ms ++ own_of e)) es
acls_put working e ms es =
    let after = (lives_at_once e && working e) || some_of (λ m. stays_beside e m && working m.put) e.cuid (mitigations_of e.domain ms) in
    clients_changed
    (mitigates working ms)
    (mitigates working (filter (stays_beside e) ms ++ own_of e))
    (activated_row e.domain e.cuid after)
    (λ x acl.
    switched_by
    (is_of_client e.domain e.cuid x.domain x.cuid)
    after
    (mitigates working ms x)
    (mitigates working (filter (stays_beside e) ms ++ own_of e) x)
    x
    acl
    (put_mitigates working e ms x ∙ ap (λ b. cond b after (mitigates working ms x)) (sym (is_client e x))))
    es
