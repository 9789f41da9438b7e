-- What one more entry makes of what a client wrote: it is the entries of the client alone that matter.
use Rattle.std.proofs.Common.{◌≡◌, Bool, true, false, cond, not, ◌&&◌, ◌||◌, List, [], ◌∷◌, ◌++◌, filter, length, Option, Some, None, inl, inr, refl, sym, ap, ◌∙◌, append-nil, append_assoc, length-append, arith}
use Rattle.std.specs.Prelude.{option_to_list, ◌==◌}
use Rattle.std.specs.List.{list_any, list_all}
use Rattle.std.proofs.lemmas.Bool.{false≢true, both_ways, cond_both, cond-true, cond-false, cases_Bool, and_parts, and_left, and_right, or_from, false_from_ne_true}
use Rattle.std.proofs.lemmas.List.Elements.{filter_agree}
use Rattle.std.proofs.lemmas.Option.{none-some, same_Some}
use Rattle.acl_lists.specs.declared.alias.Alias.{Alias}
use Rattle.acl_lists.specs.declared.acl.Acl.{Acl}
use Rattle.dots_history.specs.declared.entry.Entry.{Entry}
use Rattle.dots_history.specs.declared.change.Change.{Change}
use Rattle.dots_history.specs.declared.change.Change.TheVariants as change
use Rattle.dots_history.specs.Entries.{same_client, is_held, undoes, undoes_of_client, undoes_of_peer, is_deregister, undoes_alias, undoes_acl, undoes_loss, reconfigures, resumes, is_lost, is_loss}
use Rattle.dots_history.specs.Histories.{tally, stays, held}
use Rattle.dots_history.specs.Rows.{acl_of}
use Rattle.dots_history.specs.Capacities.{is_registration, is_alias, is_list, has_client}
use Rattle.dots_history.specs.Tables.{Client, client_of, is_of}
use Rattle.dots_history.specs.Views.{held_with}
use Rattle.dots_history.proofs.Single.{of_itself, is_of_client, client_is_of}
use Rattle.dots_history.specs.Held.{alias_of, written, aliases_of, acls_of, is_registered, of_client}

-- ---- clients
turned : (a b : Entry) → same_client a b ≡ true → same_client b a ≡ true
turned a b is = of_itself b a ∙ ap (λ c. is_of c a) (is_of_client (client_of a) b (sym (of_itself a b) ∙ is)) ∙ client_is_of a

pub other_way : (a b : Entry) → same_client a b ≡ same_client b a
other_way a b =
    elim (cases_Bool (same_client a b)) [
      | inl is ↦ is ∙ sym (turned a b is)
      | inr out ↦ out ∙ sym (false_from_ne_true (same_client b a) (λ is. both_ways (same_client a b) out (turned b a is)))
    ]

pub like_client : (client : Client) (x e : Entry) → is_of client x ≡ true → same_client x e ≡ is_of client e
like_client client x e of = of_itself x e ∙ ap (λ c. is_of c e) (is_of_client client x of)

-- ---- small steps
pub or_no : (b c : Bool) → c ≡ false → (b || c) ≡ b
or_no true c none = refl
or_no false c none = none

pub some_of_both : {A : Type 0} (b : Bool) (o : Option A) (a : A) → cond b o None ≡ Some a → (b ≡ true) × (o ≡ Some a)
some_of_both true o a is = (refl, is)
some_of_both false o a is = absurd (none-some a is)

pub all_pass : {A : Type 0} (xs : List A) → filter (λ x. true) xs ≡ xs
all_pass [] = refl
all_pass (x ∷ xs) = ap (λ ys. x ∷ ys) (all_pass xs)

-- a loss undoes nothing but a loss
pub not_resumed : (x e : Entry) → is_lost x.change ≡ false → resumes x e ≡ false
unfolding resumes undoes_loss
not_resumed x e out =
    and_right
    (x.peer == e.peer)
    ((x.domain == e.domain) && (is_lost x.change && is_loss e.change))
    (and_right (x.domain == e.domain) (is_lost x.change && is_loss e.change) (and_left (is_lost x.change) (is_loss e.change) out))

module _ {A : Type 0} (pick : Change → Option A) (undone : A → Change → Bool)
    (agrees : (c : Change) (a : A) (later : Change) → pick c ≡ Some a
    → (undoes_of_client c later ≡ undone a later) × (undoes_of_peer c later ≡ false) × (is_lost c ≡ false))
    (holds : (c : Change) (a : A) → pick c ≡ Some a → is_held c ≡ true) where
  abbrev one : Client → Entry → Option A
  one client e = cond (is_of client e) (pick e.change) None

  pub undone_is : (client : Client) (x e : Entry) (a : A) → is_of client x ≡ true → pick x.change ≡ Some a
      → undoes x e ≡ (is_of client e && undone a e.change)
  unfolding undoes reconfigures
  undone_is client x e a of picked =
      let parts = agrees x.change a e.change picked in
      or_no
      (same_client x e && undoes_of_client x.change e.change)
      (((x.peer == e.peer) && undoes_of_peer x.change e.change) || resumes x e)
      (or_from
      ((x.peer == e.peer) && undoes_of_peer x.change e.change)
      (resumes x e)
      (and_right (x.peer == e.peer) (undoes_of_peer x.change e.change) parts.1)
      (not_resumed x e parts.2))
      ∙ ap (λ b. b && undoes_of_client x.change e.change) (like_client client x e of)
      ∙ ap (λ b. is_of client e && b) parts.0

  pub written-append : (client : Client) (xs ys : List Entry) → written pick client (xs ++ ys) ≡ written pick client xs ++ written pick client ys
  written-append client [] ys = refl
  written-append client (x ∷ xs) ys =
      ap (λ rest. option_to_list (one client x) ++ rest) (written-append client xs ys)
      ∙ sym (append_assoc (option_to_list (one client x)) (written pick client xs) (written pick client ys))

  abbrev passes : Client → Entry → A → Bool
  passes client e a = not (is_of client e && undone a e.change)

  -- what of it is left
  written_without : (client : Client) (e : Entry) (xs : List Entry)
      → written pick client (filter (λ x. not (undoes x e)) xs) ≡ filter (λ a. not (is_of client e && undone a e.change)) (written pick client xs)
  written_without client e [] = refl
  written_without client e (x ∷ xs) = by_one (one client x) refl (written_without client e xs)
    where
      by_one : (o : Option A) → one client x ≡ o
          → written pick client (filter (λ x. not (undoes x e)) xs) ≡ filter (passes client e) (written pick client xs)
          → written pick client (cond (not (undoes x e)) (x ∷ filter (λ x. not (undoes x e)) xs) (filter (λ x. not (undoes x e)) xs))
          ≡ filter (passes client e) (option_to_list o ++ written pick client xs)
      by_one None none go =
          cond_both
          (not (undoes x e))
          (x ∷ filter (λ x. not (undoes x e)) xs)
          (filter (λ x. not (undoes x e)) xs)
          (λ es. written pick client es ≡ filter (passes client e) (written pick client xs))
          (λ is. ap (λ o. option_to_list o ++ written pick client (filter (λ x. not (undoes x e)) xs)) none ∙ go)
          (λ out. go)
      by_one (Some a) some go =
          let parts = some_of_both (is_of client x) (pick x.change) a some in
          let same : not (undoes x e) ≡ passes client e a = ap not (undone_is client x e a parts.0 parts.1) in
          cond_both
          (not (undoes x e))
          (x ∷ filter (λ x. not (undoes x e)) xs)
          (filter (λ x. not (undoes x e)) xs)
          (λ es. written pick client es ≡ cond (passes client e a) (a ∷ filter (passes client e) (written pick client xs)) (filter (passes client e) (written pick client xs)))
          (λ is.
          ap (λ o. option_to_list o ++ written pick client (filter (λ x. not (undoes x e)) xs)) some
          ∙ ap (λ given. a ∷ given) go
          ∙ sym (cond-true (passes client e a) (a ∷ filter (passes client e) (written pick client xs)) (filter (passes client e) (written pick client xs)) (sym same ∙ is)))
          (λ out.
          go
          ∙ sym (cond-false (passes client e a) (a ∷ filter (passes client e) (written pick client xs)) (filter (passes client e) (written pick client xs)) (sym same ∙ out)))

  -- what the entry itself writes
  tail_is : (client : Client) (e : Entry) → written pick client (cond (is_held e.change) (e ∷ []) []) ≡ option_to_list (one client e)
  tail_is client e =
      cond_both
      (is_held e.change)
      (e ∷ [])
      []
      (λ es. written pick client es ≡ option_to_list (one client e))
      (λ is. append-nil (option_to_list (one client e)))
      (λ out. by_one out (one client e) refl)
    where
      by_one : is_held e.change ≡ false → (o : Option A) → one client e ≡ o → [] ≡ option_to_list o
      by_one out None none = refl
      by_one out (Some a) some =
          absurd (both_ways (is_held e.change) out (holds e.change a (some_of_both (is_of client e) (pick e.change) a some).1))

  with_any : (client : Client) (e : Entry) (es : List Entry)
      → written pick client (held_with e es) ≡ filter (λ a. not (is_of client e && undone a e.change)) (written pick client es) ++ option_to_list (one client e)
  with_any client e es =
      written-append client (filter (λ x. not (undoes x e)) es) (cond (is_held e.change) (e ∷ []) [])
      ∙ ap (λ given. given ++ written pick client (cond (is_held e.change) (e ∷ []) [])) (written_without client e es)
      ∙ ap (λ given. filter (λ a. not (is_of client e && undone a e.change)) (written pick client es) ++ given) (tail_is client e)

  pub with_own : (client : Client) (e : Entry) (es : List Entry) → is_of client e ≡ true
      → written pick client (held_with e es) ≡ filter (λ a. not (undone a e.change)) (written pick client es) ++ option_to_list (pick e.change)
  with_own client e es own =
      with_any client e es
      ∙ ap
      (λ given. given ++ option_to_list (one client e))
      (filter_agree
      (λ a. not (is_of client e && undone a e.change))
      (λ a. not (undone a e.change))
      (λ a. ap (λ b. not (b && undone a e.change)) own)
      (written pick client es))
      ∙ ap (λ b. filter (λ a. not (undone a e.change)) (written pick client es) ++ option_to_list (cond b (pick e.change) None)) own

  pub with_other : (client : Client) (e : Entry) (es : List Entry) → is_of client e ≡ false → written pick client (held_with e es) ≡ written pick client es
  with_other client e es other =
      with_any client e es
      ∙ ap
      (λ given. given ++ option_to_list (one client e))
      (filter_agree
      (λ a. not (is_of client e && undone a e.change))
      (λ a. true)
      (λ a. ap (λ b. not (b && undone a e.change)) other)
      (written pick client es)
      ∙ all_pass (written pick client es))
      ∙ ap (λ b. written pick client es ++ option_to_list (cond b (pick e.change) None)) other
      ∙ append-nil (written pick client es)

  -- how much it is
  pub length_written : (kind : Change → Bool) (leads : (c : Change) → length (option_to_list (pick c)) ≡ cond (kind c) 1 0) (client : Client) (xs : List Entry)
      → length (written pick client xs) ≡ tally (λ (x : Entry). kind x.change && is_of client x) xs
  length_written kind leads client [] = refl
  length_written kind leads client (x ∷ xs) =
      let rest = length_written kind leads client xs in
      let here : length (option_to_list (one client x)) ≡ cond (kind x.change && is_of client x) 1 0 = by_both (is_of client x) (kind x.change) (pick x.change) (leads x.change) in
      let sum = length-append (option_to_list (one client x)) (written pick client xs) in
      omega (arith, rest, here, sum)
    where
      by_both : (b k : Bool) (o : Option A) → length (option_to_list o) ≡ cond k 1 0 → length (option_to_list (cond b o None)) ≡ cond (k && b) 1 0
      by_both true true o is = is
      by_both true false o is = is
      by_both false true o is = refl
      by_both false false o is = refl

  -- none of a client that isn't registered
  pub none_written : (owned : (c : Change) (a : A) → pick c ≡ Some a → is_alias c || is_list c ≡ true) (client : Client) (es xs : List Entry)
      → list_all (has_client es) xs ≡ true → is_registered client es ≡ false → written pick client xs ≡ []
  none_written owned client es [] all out = refl
  none_written owned client es (x ∷ xs) all out =
      let parts = and_parts (has_client es x) (list_all (has_client es) xs) all in
      by_one (one client x) refl parts.0 (none_written owned client es xs parts.1 out)
    where
      registered_too : (b : Bool) (rest : Bool) → b ≡ true → (not b || rest) ≡ true → rest ≡ true
      registered_too true rest is has = has
      registered_too false rest is has = absurd (false≢true is)

      by_client : (rs : List Entry) → is_of client x ≡ true → list_any (λ r. is_registration r.change && same_client r x) rs ≡ is_registered client rs
      by_client [] of = refl
      by_client (r ∷ rs) of =
          ap (λ b. (is_registration r.change && b) || list_any (λ r. is_registration r.change && same_client r x) rs) (other_way r x ∙ like_client client x r of)
          ∙ ap (λ b. (is_registration r.change && is_of client r) || b) (by_client rs of)

      by_one : (o : Option A) → one client x ≡ o → has_client es x ≡ true → written pick client xs ≡ [] → option_to_list o ++ written pick client xs ≡ []
      by_one None none has rest = rest
      by_one (Some a) some has rest =
          let both = some_of_both (is_of client x) (pick x.change) a some in
          absurd (both_ways
          (is_registered client es)
          out
          (sym (by_client es both.0)
          ∙ registered_too
          (is_alias x.change || is_list x.change)
          (list_any (λ r. is_registration r.change && same_client r x) es)
          (owned x.change a both.1)
          has))

  -- by its own entries alone
  same_undone : (client : Client) (x : Entry) (a : A) (later : List Entry) → is_of client x ≡ true → pick x.change ≡ Some a
      → list_any (undoes x) (of_client client later) ≡ list_any (undoes x) later
  same_undone client x a [] of picked = refl
  same_undone client x a (y ∷ later) of picked =
      let go = same_undone client x a later of picked in
      cond_both
      (is_of client y)
      (y ∷ of_client client later)
      (of_client client later)
      (λ es. list_any (undoes x) es ≡ list_any (undoes x) (y ∷ later))
      (λ is. ap (λ b. undoes x y || b) go)
      (λ out.
      go
      ∙ sym (ap
      (λ b. b || list_any (undoes x) later)
      (undone_is client x y a of picked ∙ and_left (is_of client y) (undone a y.change) out)))

  pub written_alone : (client : Client) (entries : List Entry) → written pick client (held (of_client client entries)) ≡ written pick client (held entries)
  written_alone client [] = refl
  written_alone client (x ∷ later) =
      let go = written_alone client later in
      cond_both
      (is_of client x)
      (x ∷ of_client client later)
      (of_client client later)
      (λ es. written pick client (held es) ≡ written pick client (held (x ∷ later)))
      (λ is.
      first (stays x (of_client client later)) (held (of_client client later))
      ∙ by_pick is (pick x.change) refl
      ∙ ap (λ given. written pick client (option_to_list (cond (stays x later) (Some x) None)) ++ given) go
      ∙ sym (first (stays x later) (held later)))
      (λ out.
      go
      ∙ sym (first (stays x later) (held later)
      ∙ ap (λ given. given ++ written pick client (held later)) (nothing (stays x later) (ap (λ b. cond b (pick x.change) None) out))))
    where
      first : (s : Bool) (rest : List Entry)
          → written pick client (option_to_list (cond s (Some x) None) ++ rest)
          ≡ written pick client (option_to_list (cond s (Some x) None)) ++ written pick client rest
      first s rest = written-append client (option_to_list (cond s (Some x) None)) rest

      nothing : (s : Bool) → one client x ≡ None → written pick client (option_to_list (cond s (Some x) None)) ≡ []
      nothing true none = ap (λ o. option_to_list o ++ []) none
      nothing false none = refl

      by_pick : is_of client x ≡ true → (o : Option A) → pick x.change ≡ o
          → written pick client (option_to_list (cond (stays x (of_client client later)) (Some x) None)) ++ written pick client (held (of_client client later))
          ≡ written pick client (option_to_list (cond (stays x later) (Some x) None)) ++ written pick client (held (of_client client later))
      by_pick is None none =
          let gone : one client x ≡ None = ap (λ b. cond b (pick x.change) None) is ∙ none in
          ap
          (λ given. given ++ written pick client (held (of_client client later)))
          (nothing (stays x (of_client client later)) gone ∙ sym (nothing (stays x later) gone))
      by_pick is (Some a) some =
          ap
          (λ b.
          written pick client (option_to_list (cond (is_held x.change && not b) (Some x) None)) ++ written pick client (held (of_client client later)))
          (same_undone client x a later is some)

-- ---- aliases and access lists
alias_agrees : (c : Change) (a : Alias) (later : Change) → alias_of c ≡ Some a
    → (undoes_of_client c later ≡ undoes_alias a.name later) × (undoes_of_peer c later ≡ false) × (is_lost c ≡ false)
unfolding undoes_of_client undoes_of_peer is_lost
alias_agrees (change.SetAlias alias) a later is = (ap (λ (x : Alias). undoes_alias x.name later) (same_Some alias a is), refl, refl)
alias_agrees _ a later is = absurd (none-some a is)

acl_agrees : (c : Change) (a : Acl) (later : Change) → acl_of c ≡ Some a
    → (undoes_of_client c later ≡ undoes_acl a.name later) × (undoes_of_peer c later ≡ false) × (is_lost c ≡ false)
unfolding undoes_of_client undoes_of_peer is_lost
acl_agrees (change.SetAcl acl) a later is = (ap (λ (x : Acl). undoes_acl x.name later) (same_Some acl a is), refl, refl)
acl_agrees _ a later is = absurd (none-some a is)

alias_held : (c : Change) (a : Alias) → alias_of c ≡ Some a → is_held c ≡ true
unfolding is_held
alias_held (change.SetAlias alias) a is = refl
alias_held _ a is = absurd (none-some a is)

acl_held : (c : Change) (a : Acl) → acl_of c ≡ Some a → is_held c ≡ true
unfolding is_held
acl_held (change.SetAcl acl) a is = refl
acl_held _ a is = absurd (none-some a is)

alias_owned : (c : Change) (a : Alias) → alias_of c ≡ Some a → is_alias c || is_list c ≡ true
unfolding is_alias is_list
alias_owned (change.SetAlias alias) a is = refl
alias_owned _ a is = absurd (none-some a is)

acl_owned : (c : Change) (a : Acl) → acl_of c ≡ Some a → is_alias c || is_list c ≡ true
unfolding is_alias is_list
acl_owned (change.SetAcl acl) a is = refl
acl_owned _ a is = absurd (none-some a is)

alias_kind : (c : Change) → length (option_to_list (alias_of c)) ≡ cond (is_alias c) 1 0
unfolding is_alias
alias_kind (change.SetAlias alias) = refl
alias_kind _ = refl

acl_kind : (c : Change) → length (option_to_list (acl_of c)) ≡ cond (is_list c) 1 0
unfolding is_list
acl_kind (change.SetAcl acl) = refl
acl_kind _ = refl

abbrev alias_undone : Alias → Change → Bool
alias_undone a later = undoes_alias a.name later

abbrev acl_undone : Acl → Change → Bool
acl_undone a later = undoes_acl a.name later

pub own_aliases : (client : Client) (e : Entry) (es : List Entry) → is_of client e ≡ true
    → aliases_of client (held_with e es) ≡ filter (λ (a : Alias). not (undoes_alias a.name e.change)) (aliases_of client es) ++ option_to_list (alias_of e.change)
own_aliases client e es own = with_own alias_of alias_undone alias_agrees alias_held client e es own

pub other_aliases : (client : Client) (e : Entry) (es : List Entry) → is_of client e ≡ false → aliases_of client (held_with e es) ≡ aliases_of client es
other_aliases client e es other = with_other alias_of alias_undone alias_agrees alias_held client e es other

pub own_acls : (client : Client) (e : Entry) (es : List Entry) → is_of client e ≡ true
    → acls_of client (held_with e es) ≡ filter (λ (a : Acl). not (undoes_acl a.name e.change)) (acls_of client es) ++ option_to_list (acl_of e.change)
own_acls client e es own = with_own acl_of acl_undone acl_agrees acl_held client e es own

pub other_acls : (client : Client) (e : Entry) (es : List Entry) → is_of client e ≡ false → acls_of client (held_with e es) ≡ acls_of client es
other_acls client e es other = with_other acl_of acl_undone acl_agrees acl_held client e es other

pub number_of_aliases : (client : Client) (es : List Entry) → length (aliases_of client es) ≡ tally (λ (x : Entry). is_alias x.change && is_of client x) es
number_of_aliases client es = length_written alias_of alias_undone alias_agrees alias_held is_alias alias_kind client es

pub number_of_acls : (client : Client) (es : List Entry) → length (acls_of client es) ≡ tally (λ (x : Entry). is_list x.change && is_of client x) es
number_of_acls client es = length_written acl_of acl_undone acl_agrees acl_held is_list acl_kind client es

pub no_aliases : (client : Client) (es : List Entry) → list_all (has_client es) es ≡ true → is_registered client es ≡ false → aliases_of client es ≡ []
no_aliases client es all out = none_written alias_of alias_undone alias_agrees alias_held alias_owned client es es all out

pub no_acls : (client : Client) (es : List Entry) → list_all (has_client es) es ≡ true → is_registered client es ≡ false → acls_of client es ≡ []
no_acls client es all out = none_written acl_of acl_undone acl_agrees acl_held acl_owned client es es all out

pub aliases_alone : (client : Client) (entries : List Entry) → aliases_of client (held (of_client client entries)) ≡ aliases_of client (held entries)
aliases_alone client entries = written_alone alias_of alias_undone alias_agrees alias_held client entries

pub acls_alone : (client : Client) (entries : List Entry) → acls_of client (held (of_client client entries)) ≡ acls_of client (held entries)
acls_alone client entries = written_alone acl_of acl_undone acl_agrees acl_held client entries

-- ---- registrations
reg_parts : (c later : Change) → is_registration c ≡ true → (undoes_of_client c later ≡ is_deregister later) × (undoes_of_peer c later ≡ false) × (is_lost c ≡ false)
unfolding is_registration undoes_of_client undoes_of_peer is_lost
reg_parts change.Register later is = (refl, refl, refl)
reg_parts _ later is = absurd (false≢true is)

turned_and : (b c : Bool) → (b && c) ≡ (c && b)
turned_and true true = refl
turned_and true false = refl
turned_and false true = refl
turned_and false false = refl

pub reg_undone : (x e : Entry) → is_registration x.change ≡ true → undoes x e ≡ (is_deregister e.change && is_of (client_of x) e)
unfolding undoes reconfigures
reg_undone x e is =
    let parts = reg_parts x.change e.change is in
    or_no
    (same_client x e && undoes_of_client x.change e.change)
    (((x.peer == e.peer) && undoes_of_peer x.change e.change) || resumes x e)
    (or_from
    ((x.peer == e.peer) && undoes_of_peer x.change e.change)
    (resumes x e)
    (and_right (x.peer == e.peer) (undoes_of_peer x.change e.change) parts.1)
    (not_resumed x e parts.2))
    ∙ ap (λ b. b && undoes_of_client x.change e.change) (of_itself x e)
    ∙ ap (λ b. is_of (client_of x) e && b) parts.0
    ∙ turned_and (is_of (client_of x) e) (is_deregister e.change)
