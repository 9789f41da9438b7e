-- What an entry of no mitigation leaves of the capacities.
use Rattle.std.proofs.Common.{◌≡◌, ℕ, ◌+◌, ◌<◌, ◌≤◌, Bool, true, false, cond, not, ◌&&◌, ◌||◌, List, [], ◌∷◌, ◌++◌, filter, length, Some, None, ◌⊎◌, inl, inr, refl, sym, ap, ap₂, ◌∙◌, subst, le_trans, length-append, arith}
use Rattle.std.specs.Prelude.{◌==◌, bytes_eq, nat_le, nat_lt, is_some, option_to_list}
use Rattle.std.specs.List.{find}
use Rattle.std.proofs.lemmas.Bool.{false≢true, cond_both, cases_Bool, and_parts, and_from, leb-true, le-leb, ltb-true}
use Rattle.std.proofs.lemmas.Slice.Eq.{bytes_eq-Decides}
use Rattle.acl_lists.specs.declared.acl.Acl.{Acl}
use Rattle.acl_lists.specs.declared.alias.Alias.{Alias}
use Rattle.dots_settings.specs.declared.limits.Limits.{Limits}
use Rattle.dots_history.specs.declared.entry.Entry.{Entry}
use Rattle.dots_history.specs.declared.change.Change.TheVariants as change
use Rattle.dots_history.specs.declared.status.Status.TheVariants.{Open}
use Rattle.dots_history.specs.Entries.{same_client, put_of, is_held, undoes, undoes_alias, undoes_acl}
use Rattle.dots_history.specs.Histories.{Mitigation, tally, live, step, mitigations, held}
use Rattle.dots_history.specs.Keeping.{moved}
use Rattle.dots_history.specs.Rows.{acl_of}
use Rattle.dots_history.specs.Capacities.{is_registration, is_alias, is_list}
use Rattle.dots_history.specs.Fits.{keeps_room}
use Rattle.dots_history.specs.Fits as fits
use Rattle.dots_history.specs.Held.{aliases_of, acls_of, alias_named, acl_named}
use Rattle.dots_history.specs.Held as holds
use Rattle.dots_history.specs.Tables.{client_of, is_of}
use Rattle.dots_history.specs.Views.{mitigations_with, held_with}
use Rattle.dots_history.proofs.Adding.{adding}
use Rattle.dots_history.proofs.GoingOn.{held_push}
use Rattle.dots_history.proofs.Joining.{tally_held, tally_same}
use Rattle.dots_history.proofs.Single.{of_itself, client_is_of}
use Rattle.dots_history.proofs.Touching.{never_live}
use Rattle.dots_history.proofs.Written.{other_way, own_aliases, own_acls, number_of_aliases, number_of_acls}

-- ---- live mitigations

none_more : (q : Entry → Bool) (e : Entry) (ms : List Mitigation) → live e.time e Open ≡ false
    → tally (λ (m : Mitigation). q m.put) (mitigations_with e ms) ≤ tally (λ (m : Mitigation). q m.put) ms
none_more q e [] dead =
    subst (λ b. tally (λ (m : Mitigation). q m.put) (cond b (record { put = e; status = Open } ∷ []) []) ≤ 0) (sym dead) (omega arith)
none_more q e (m ∷ ms) dead =
    let go = none_more q e ms dead in
    cond_both
    (live e.time m.put (step m.put m.status e))
    (moved e m ∷ mitigations_with e ms)
    (mitigations_with e ms)
    (λ ys. tally (λ (x : Mitigation). q x.put) ys ≤ cond (q m.put) 1 0 + tally (λ (x : Mitigation). q x.put) ms)
    (λ is. omega (arith, go))
    (λ over. omega (arith, go))

live_most : (q : Entry → Bool) (most : ℕ) (entries : List Entry) (e : Entry) → put_of e.change ≡ None
    → tally (λ (m : Mitigation). q m.put) (mitigations e.time entries) ≤ most
    → tally (λ (m : Mitigation). q m.put) (mitigations e.time (entries ++ e ∷ [])) ≤ most
live_most q most entries e none few =
    le_trans
    (subst
    (λ ms. tally (λ (m : Mitigation). q m.put) ms ≤ tally (λ (m : Mitigation). q m.put) (mitigations e.time entries))
    (sym (adding e.time e entries (omega arith)))
    (none_more q e (mitigations e.time entries) (never_live e.time e Open none)))
    few

-- ---- what is held

-- what the entry isn't, there is no more of
pub held_most : (q : Entry → Bool) (most : ℕ) (entries : List Entry) (e : Entry) → q e ≡ false → tally q (held entries) ≤ most
    → tally q (held (entries ++ e ∷ [])) ≤ most
held_most q most entries e out few =
    le_trans (subst (λ es. tally q es ≤ tally q (held entries)) (sym (held_push e entries)) (tally_held q e (held entries) out)) few

abbrev end : Entry → List Entry
end e = cond (is_held e.change) (e ∷ []) []

abbrev left : Entry → List Entry → List Entry
left e es = filter (λ (x : Entry). not (undoes x e)) es

at_most_one : (b : Bool) → cond b 1 0 + 0 ≤ 1
at_most_one true = omega arith
at_most_one false = omega arith

one_more : (q : Entry → Bool) (e : Entry) (es : List Entry) → tally q (held_with e es) ≤ tally q es + 1
one_more q e [] = cond_both (is_held e.change) (e ∷ []) [] (λ ys. tally q ys ≤ 1) (λ is. at_most_one (q e)) (λ no. omega arith)
one_more q e (x ∷ es) =
    let go = one_more q e es in
    cond_both
    (not (undoes x e))
    (x ∷ left e es)
    (left e es)
    (λ ys. tally q (ys ++ end e) ≤ (cond (q x) 1 0 + tally q es) + 1)
    (λ is. omega (arith, go))
    (λ no. omega (arith, go))

below : (n m : ℕ) → not (nat_lt n m) ≡ false → n < m
below n m is = ltb-true n m (by_test (nat_lt n m) is)
  where
    by_test : (b : Bool) → not b ≡ false → b ≡ true
    by_test true is = refl
    by_test false is = sym is

-- of what there is room for, one more may be held
pub held_room : (q : Entry → Bool) (most : ℕ) (entries : List Entry) (e : Entry) → not (nat_lt (tally q (held entries)) most) ≡ false
    → tally q (held (entries ++ e ∷ [])) ≤ most
held_room q most entries e room =
    let few = below (tally q (held entries)) most room in
    let more = one_more q e (held entries) in
    subst (λ es. tally q es ≤ most) (sym (held_push e entries)) (omega (arith, few, more))

-- ---- aliases and access lists, the one of a name in place of the one before

fewer_pass : {A : Type 0} (keep : A → Bool) (xs : List A) → length (filter keep xs) ≤ length xs
fewer_pass keep [] = omega arith
fewer_pass keep (x ∷ xs) =
    let go = fewer_pass keep xs in
    cond_both (keep x) (x ∷ filter keep xs) (filter keep xs) (λ ys. length ys ≤ length (x ∷ xs)) (λ is. omega (arith, go)) (λ out. omega (arith, go))

replaced : {A : Type 0} (keep p : A → Bool) (xs : List A) → ((x : A) → p x ≡ true → keep x ≡ false) → is_some (find p xs) ≡ true
    → length (filter keep xs) + 1 ≤ length xs
replaced keep p [] out found = absurd (false≢true found)
replaced keep p (x ∷ xs) out found =
    let fewer = fewer_pass keep xs in
    elim (cases_Bool (p x)) [
      | inl is ↦
          subst (λ b. length (cond b (x ∷ filter keep xs) (filter keep xs)) + 1 ≤ length (x ∷ xs)) (sym (out x is)) (omega (arith, fewer))
      | inr other ↦
          let go = replaced keep p xs out (sym (ap (λ b. is_some (cond b (Some x) (find p xs))) other) ∙ found) in
          cond_both
          (keep x)
          (x ∷ filter keep xs)
          (filter keep xs)
          (λ ys. length ys + 1 ≤ length (x ∷ xs))
          (λ is. omega (arith, go))
          (λ gone. omega (arith, go))
    ]

other_name : (name other : List ℕ) → bytes_eq name other ≡ true → not (bytes_eq other name) ≡ false
other_name name other is = ap not ((bytes_eq-Decides other name).1 (sym ((bytes_eq-Decides name other).0 is)))

abbrev keeps_alias : Alias → Alias → Bool
keeps_alias new alias = not (undoes_alias alias.name (change.SetAlias new))

abbrev keeps_list : Acl → Acl → Bool
keeps_list new acl = not (undoes_acl acl.name (change.SetAcl new))

alias_gone : (new alias : Alias) → bytes_eq new.name alias.name ≡ true → keeps_alias new alias ≡ false
unfolding undoes_alias
alias_gone new alias is = other_name new.name alias.name is

list_gone : (new acl : Acl) → bytes_eq new.name acl.name ≡ true → keeps_list new acl ≡ false
unfolding undoes_acl
list_gone new acl is = other_name new.name acl.name is

aliases_are : (e : Entry) (es : List Entry) → tally (λ (x : Entry). is_alias x.change && same_client e x) es ≡ length (aliases_of (client_of e) es)
aliases_are e es =
    tally_same
    (λ (x : Entry). is_alias x.change && same_client e x)
    (λ (x : Entry). is_alias x.change && is_of (client_of e) x)
    (λ x. ap (λ b. is_alias x.change && b) (of_itself e x))
    es
    ∙ sym (number_of_aliases (client_of e) es)

lists_are : (e : Entry) (es : List Entry) → tally (λ (x : Entry). is_list x.change && same_client e x) es ≡ length (acls_of (client_of e) es)
lists_are e es =
    tally_same
    (λ (x : Entry). is_list x.change && same_client e x)
    (λ (x : Entry). is_list x.change && is_of (client_of e) x)
    (λ x. ap (λ b. is_list x.change && b) (of_itself e x))
    es
    ∙ sym (number_of_acls (client_of e) es)

-- one more alias, or in place of one that is there
pub alias_placed : (most : ℕ) (entries : List Entry) (e : Entry) (new : Alias) → e.change ≡ change.SetAlias new
    → tally (λ (x : Entry). is_alias x.change && same_client e x) (held entries) ≤ most
    → (is_some (alias_named new.name (aliases_of (client_of e) (held entries))) ≡ true)
    ⊎ (not (nat_lt (tally (λ (x : Entry). is_alias x.change && is_of (client_of e) x) (held entries)) most) ≡ false)
    → tally (λ (x : Entry). is_alias x.change && same_client e x) (held (entries ++ e ∷ [])) ≤ most
alias_placed most entries e new writes few place =
    let before = aliases_of (client_of e) (held entries) in
    let counted = aliases_are e (held entries) in
    let numbered = number_of_aliases (client_of e) (held entries) in
    let after : aliases_of (client_of e) (held_with e (held entries)) ≡ filter (keeps_alias new) before ++ new ∷ [] =
    own_aliases (client_of e) e (held entries) (client_is_of e)
    ∙ ap (λ c. filter (λ (a : Alias). not (undoes_alias a.name c)) before ++ option_to_list (holds.alias_of c)) writes in
    let long = ap length after in
    let split = length-append (filter (keeps_alias new) before) (new ∷ []) in
    let fewer = fewer_pass (keeps_alias new) before in
    let least : length (aliases_of (client_of e) (held_with e (held entries))) ≤ most =
    elim place [
      | inl there ↦
          let one_fewer = replaced (keeps_alias new) (λ (alias : Alias). bytes_eq new.name alias.name) before (alias_gone new) there in
          omega (arith, long, split, one_fewer, counted, few)
      | inr room ↦
          let less = below (tally (λ (x : Entry). is_alias x.change && is_of (client_of e) x) (held entries)) most room in
          omega (arith, long, split, fewer, numbered, less)
    ] in
    subst
    (λ es. tally (λ (x : Entry). is_alias x.change && same_client e x) es ≤ most)
    (sym (held_push e entries))
    (subst (λ n. n ≤ most) (sym (aliases_are e (held_with e (held entries)))) least)

-- the same of an access list
pub list_placed : (most : ℕ) (entries : List Entry) (e : Entry) (new : Acl) → e.change ≡ change.SetAcl new
    → tally (λ (x : Entry). is_list x.change && same_client e x) (held entries) ≤ most
    → (is_some (acl_named new.name (acls_of (client_of e) (held entries))) ≡ true)
    ⊎ (not (nat_lt (tally (λ (x : Entry). is_list x.change && is_of (client_of e) x) (held entries)) most) ≡ false)
    → tally (λ (x : Entry). is_list x.change && same_client e x) (held (entries ++ e ∷ [])) ≤ most
list_placed most entries e new writes few place =
    let before = acls_of (client_of e) (held entries) in
    let counted = lists_are e (held entries) in
    let numbered = number_of_acls (client_of e) (held entries) in
    let after : acls_of (client_of e) (held_with e (held entries)) ≡ filter (keeps_list new) before ++ new ∷ [] =
    own_acls (client_of e) e (held entries) (client_is_of e)
    ∙ ap (λ c. filter (λ (a : Acl). not (undoes_acl a.name c)) before ++ option_to_list (acl_of c)) writes in
    let long = ap length after in
    let split = length-append (filter (keeps_list new) before) (new ∷ []) in
    let fewer = fewer_pass (keeps_list new) before in
    let least : length (acls_of (client_of e) (held_with e (held entries))) ≤ most =
    elim place [
      | inl there ↦
          let one_fewer = replaced (keeps_list new) (λ (acl : Acl). bytes_eq new.name acl.name) before (list_gone new) there in
          omega (arith, long, split, one_fewer, counted, few)
      | inr room ↦
          let less = below (tally (λ (x : Entry). is_list x.change && is_of (client_of e) x) (held entries)) most room in
          omega (arith, long, split, fewer, numbered, less)
    ] in
    subst
    (λ es. tally (λ (x : Entry). is_list x.change && same_client e x) es ≤ most)
    (sym (held_push e entries))
    (subst (λ n. n ≤ most) (sym (lists_are e (held_with e (held entries)))) least)

-- ---- the capacities, one by one

-- In these live mitigations and what is held the entry's domain and client have no more than so much.
pub record HasRoom (limits : Limits) (e : Entry) (ms : List Mitigation) (standing : List Entry) : Type 0 where
  pub of_domain : tally (λ (m : Mitigation). m.put.domain == e.domain) ms ≤ limits.domain_mitigations
  pub of_client : tally (λ (m : Mitigation). same_client e m.put) ms ≤ limits.client_mitigations
  pub registered : tally (λ (x : Entry). is_registration x.change && (x.domain == e.domain)) standing ≤ limits.clients
  pub aliased : tally (λ (x : Entry). is_alias x.change && same_client e x) standing ≤ limits.aliases
  pub listed : tally (λ (x : Entry). is_list x.change && same_client e x) standing ≤ limits.acls

pub room_parts : (limits : Limits) (e : Entry) (ms : List Mitigation) (standing : List Entry) → keeps_room limits e ms standing ≡ true → HasRoom limits e ms standing
room_parts limits e ms standing is =
    let a = tally (λ (m : Mitigation). m.put.domain == e.domain) ms in
    let b = tally (λ (m : Mitigation). same_client e m.put) ms in
    let c = tally (λ (x : Entry). is_registration x.change && (x.domain == e.domain)) standing in
    let d = tally (λ (x : Entry). is_alias x.change && same_client e x) standing in
    let f = tally (λ (x : Entry). is_list x.change && same_client e x) standing in
    let halves = and_parts
    (nat_le a limits.domain_mitigations && nat_le b limits.client_mitigations)
    (nat_le c limits.clients && (nat_le d limits.aliases && nat_le f limits.acls))
    is in
    let lives = and_parts (nat_le a limits.domain_mitigations) (nat_le b limits.client_mitigations) halves.0 in
    let things = and_parts (nat_le c limits.clients) (nat_le d limits.aliases && nat_le f limits.acls) halves.1 in
    let lists = and_parts (nat_le d limits.aliases) (nat_le f limits.acls) things.1 in
    record {
      of_domain = leb-true a limits.domain_mitigations lives.0;
      of_client = leb-true b limits.client_mitigations lives.1;
      registered = leb-true c limits.clients things.0;
      aliased = leb-true d limits.aliases lists.0;
      listed = leb-true f limits.acls lists.1;
    }

-- what an entry of no mitigation leaves: the mitigations as few as before
pub room_after : (limits : Limits) (entries : List Entry) (e : Entry) → put_of e.change ≡ None → HasRoom limits e (mitigations e.time entries) (held entries)
    → tally (λ (x : Entry). is_registration x.change && (x.domain == e.domain)) (held (entries ++ e ∷ [])) ≤ limits.clients
    → tally (λ (x : Entry). is_alias x.change && same_client e x) (held (entries ++ e ∷ [])) ≤ limits.aliases
    → tally (λ (x : Entry). is_list x.change && same_client e x) (held (entries ++ e ∷ [])) ≤ limits.acls
    → keeps_room limits e (mitigations e.time (entries ++ e ∷ [])) (held (entries ++ e ∷ [])) ≡ true
room_after limits entries e none before registered aliased listed =
    let ms = mitigations e.time (entries ++ e ∷ []) in
    let standing = held (entries ++ e ∷ []) in
    let a = tally (λ (m : Mitigation). m.put.domain == e.domain) ms in
    let b = tally (λ (m : Mitigation). same_client e m.put) ms in
    let c = tally (λ (x : Entry). is_registration x.change && (x.domain == e.domain)) standing in
    let d = tally (λ (x : Entry). is_alias x.change && same_client e x) standing in
    let f = tally (λ (x : Entry). is_list x.change && same_client e x) standing in
    and_from
    (nat_le a limits.domain_mitigations && nat_le b limits.client_mitigations)
    (nat_le c limits.clients && (nat_le d limits.aliases && nat_le f limits.acls))
    (and_from
    (nat_le a limits.domain_mitigations)
    (nat_le b limits.client_mitigations)
    (le-leb a limits.domain_mitigations (live_most (λ (x : Entry). x.domain == e.domain) limits.domain_mitigations entries e none before.of_domain))
    (le-leb b limits.client_mitigations (live_most (same_client e) limits.client_mitigations entries e none before.of_client)))
    (and_from
    (nat_le c limits.clients)
    (nat_le d limits.aliases && nat_le f limits.acls)
    (le-leb c limits.clients registered)
    (and_from (nat_le d limits.aliases) (nat_le f limits.acls) (le-leb d limits.aliases aliased) (le-leb f limits.acls listed)))

-- ---- who is registered

pub registered_same : (standing : List Entry) (e : Entry) → fits.is_registered standing e ≡ holds.is_registered (client_of e) standing
registered_same [] e = refl
registered_same (r ∷ standing) e =
    ap₂
    (λ b rest. (is_registration r.change && b) || rest)
    (other_way r e ∙ of_itself e r)
    (registered_same standing e)
