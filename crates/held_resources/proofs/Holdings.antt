-- What one more entry makes of the clients of a domain.
use Rattle.std.proofs.Common.{◌≡◌, ℕ, ◌+◌, Bool, true, false, cond, not, ◌&&◌, ◌||◌, List, [], ◌∷◌, ◌++◌, map, filter, length, Option, Some, None, inl, inr, refl, sym, ap, ◌∙◌, append-nil, arith}
use Rattle.std.specs.Prelude.{option_map, is_some, bytes_eq, ◌==◌}
use Rattle.std.specs.List.{list_any, find}
use Rattle.std.proofs.lemmas.Bool.{false≢true, both_ways, cond_both, cond-true, cond-false, cases_Bool, and_parts, and_left, and_right, and_from, or_left, or_parts, eqb-true, eq-eqb, false_from_ne_true}
use Rattle.std.proofs.lemmas.Slice.Eq.{bytes_eq-Decides}
use Rattle.acl_lists.specs.declared.alias.Alias.{Alias}
use Rattle.acl_lists.specs.declared.acl.Acl.{Acl}
use Rattle.dots_history.specs.declared.entry.Entry.{Entry}
use Rattle.dots_history.specs.declared.change.Change.{Change}
use Rattle.dots_history.specs.declared.change.Change.TheVariants as change
use Rattle.dots_history.specs.Entries.{is_held, undoes, is_deregister}
use Rattle.dots_history.specs.Histories.{tally}
use Rattle.dots_history.specs.Capacities.{is_registration}
use Rattle.dots_history.specs.Tables.{Client, client_of, is_of}
use Rattle.dots_history.specs.Views.{held_with}
use Rattle.dots_history.proofs.Single.{is_of_client, client_is_of}
use Rattle.held_resources.specs.declared.rooms.Rooms.{Rooms}
use Rattle.dots_history.specs.Held.{aliases_of, acls_of, registers, is_registered}
use Rattle.held_resources.specs.Tables.{Holding, no_holding, holding_of, holding_with, aliases_with, holdings, has_cuid, changed, list_with}
use Rattle.dots_history.proofs.Written.{own_aliases, other_aliases, own_acls, other_acls, reg_undone}

-- ---- tests
pub turned_eq : (a b : ℕ) → (a == b) ≡ (b == a)
turned_eq a b =
    elim (cases_Bool (a == b)) [
      | inl is ↦ is ∙ sym (eq-eqb b a (sym (eqb-true a b is)))
      | inr out ↦ out ∙ sym (false_from_ne_true (b == a) (λ is. both_ways (a == b) out (eq-eqb a b (sym (eqb-true b a is)))))
    ]

pub turned_bytes : (a b : List ℕ) → bytes_eq a b ≡ bytes_eq b a
turned_bytes a b =
    elim (cases_Bool (bytes_eq a b)) [
      | inl is ↦ is ∙ sym ((bytes_eq-Decides b a).1 (sym ((bytes_eq-Decides a b).0 is)))
      | inr out ↦
          out
          ∙ sym (false_from_ne_true (bytes_eq b a) (λ is. both_ways (bytes_eq a b) out ((bytes_eq-Decides a b).1 (sym ((bytes_eq-Decides b a).0 is)))))
    ]

-- of one domain, the cuid decides
pub by_cuid : (domain : ℕ) (x e : Entry) → (x.domain == domain) ≡ true → (e.domain == domain) ≡ true → is_of (client_of x) e ≡ bytes_eq e.cuid x.cuid
unfolding is_of
by_cuid domain x e in_x in_e =
    ap (λ b. b && bytes_eq x.cuid e.cuid) (eq-eqb x.domain e.domain (eqb-true x.domain domain in_x ∙ sym (eqb-true e.domain domain in_e)))
    ∙ turned_bytes x.cuid e.cuid

pub by_domain : (domain : ℕ) (x e : Entry) → (x.domain == domain) ≡ true → (e.domain == domain) ≡ false → is_of (client_of x) e ≡ false
unfolding is_of
by_domain domain x e in_x out_e =
    and_left
    (x.domain == e.domain)
    (bytes_eq x.cuid e.cuid)
    (false_from_ne_true
    (x.domain == e.domain)
    (λ is. both_ways (e.domain == domain) out_e (eq-eqb e.domain domain (sym (eqb-true x.domain e.domain is) ∙ eqb-true x.domain domain in_x))))

-- ---- what a client holds
abbrev holding_by : Rooms → ℕ → List ℕ → List Alias → List Acl → Holding
holding_by rooms peer cuid aliases acls = record { rooms = rooms; peer = peer; cuid = cuid; aliases = aliases; acls = acls }

pub own_holding : (rooms : Rooms) (peer : ℕ) (client : Client) (e : Entry) (es : List Entry) → is_of client e ≡ true
    → holding_of rooms (held_with e es) peer client ≡ holding_with e.change (holding_of rooms es peer client)
own_holding rooms peer client e es own =
    ap (λ given. holding_by rooms peer client.cuid given (acls_of client (held_with e es))) (own_aliases client e es own)
    ∙ ap (λ ls. holding_by rooms peer client.cuid (aliases_with e.change (aliases_of client es)) ls) (own_acls client e es own)

pub other_holding : (rooms : Rooms) (peer : ℕ) (client : Client) (e : Entry) (es : List Entry) → is_of client e ≡ false
    → holding_of rooms (held_with e es) peer client ≡ holding_of rooms es peer client
other_holding rooms peer client e es other =
    ap (λ given. holding_by rooms peer client.cuid given (acls_of client (held_with e es))) (other_aliases client e es other)
    ∙ ap (λ ls. holding_by rooms peer client.cuid (aliases_of client es) ls) (other_acls client e es other)

pub changed_holding : (rooms : Rooms) (domain : ℕ) (x e : Entry) (es : List Entry) → (x.domain == domain) ≡ true → (e.domain == domain) ≡ true
    → holding_of rooms (held_with e es) x.peer (client_of x) ≡ changed e.cuid e.change (holding_of rooms es x.peer (client_of x))
changed_holding rooms domain x e es in_x in_e =
    elim (cases_Bool (bytes_eq e.cuid x.cuid)) [
      | inl is ↦
          own_holding rooms x.peer (client_of x) e es (by_cuid domain x e in_x in_e ∙ is)
          ∙ sym (cond-true (bytes_eq e.cuid x.cuid) (holding_with e.change (holding_of rooms es x.peer (client_of x))) (holding_of rooms es x.peer (client_of x)) is)
      | inr out ↦
          other_holding rooms x.peer (client_of x) e es (by_cuid domain x e in_x in_e ∙ out)
          ∙ sym (cond-false (bytes_eq e.cuid x.cuid) (holding_with e.change (holding_of rooms es x.peer (client_of x))) (holding_of rooms es x.peer (client_of x)) out)
    ]

-- ---- the clients of a domain
module _ (rooms : Rooms) (domain : ℕ) where
  abbrev counts : Entry → Bool
  counts x = is_registration x.change && (x.domain == domain)

  pub holdings-append : (es xs ys : List Entry) → holdings rooms domain es (xs ++ ys) ≡ holdings rooms domain es xs ++ holdings rooms domain es ys
  holdings-append es [] ys = refl
  holdings-append es (x ∷ xs) ys =
      let go = holdings-append es xs ys in
      let here = holding_of rooms es x.peer (client_of x) in
      cond_both
      (counts x)
      (here ∷ holdings rooms domain es xs)
      (holdings rooms domain es xs)
      (λ hs. cond (counts x) (here ∷ holdings rooms domain es (xs ++ ys)) (holdings rooms domain es (xs ++ ys)) ≡ hs ++ holdings rooms domain es ys)
      (λ is. cond-true (counts x) (here ∷ holdings rooms domain es (xs ++ ys)) (holdings rooms domain es (xs ++ ys)) is ∙ ap (λ hs. here ∷ hs) go)
      (λ out. cond-false (counts x) (here ∷ holdings rooms domain es (xs ++ ys)) (holdings rooms domain es (xs ++ ys)) out ∙ go)

  pub length_holdings : (es xs : List Entry) → length (holdings rooms domain es xs) ≡ tally (λ (x : Entry). is_registration x.change && (x.domain == domain)) xs
  length_holdings es [] = refl
  length_holdings es (x ∷ xs) =
      let go = length_holdings es xs in
      let here = holding_of rooms es x.peer (client_of x) in
      cond_both
      (counts x)
      (here ∷ holdings rooms domain es xs)
      (holdings rooms domain es xs)
      (λ hs. length hs ≡ cond (counts x) 1 0 + tally counts xs)
      (λ is. (let more : length (here ∷ holdings rooms domain es xs) ≡ 1 + tally counts xs = omega (arith, go) in more) ∙ ap (λ b. cond b 1 0 + tally counts xs) (sym is))
      (λ out. (let more : length (holdings rooms domain es xs) ≡ 0 + tally counts xs = omega (arith, go) in more) ∙ ap (λ b. cond b 1 0 + tally counts xs) (sym out))

  -- by which registrations are left
  left_all : (e : Entry) (es xs : List Entry) → ((x : Entry) → is_registration x.change ≡ true → (x.domain == domain) ≡ true → undoes x e ≡ false)
      → holdings rooms domain es (filter (λ x. not (undoes x e)) xs) ≡ holdings rooms domain es xs
  left_all e es [] stays = refl
  left_all e es (x ∷ xs) stays =
      let go = left_all e es xs stays in
      let left = filter (λ x. not (undoes x e)) xs in
      let here = holding_of rooms es x.peer (client_of x) in
      elim (cases_Bool (counts x)) [
        | inl is ↦
            let parts = and_parts (is_registration x.change) (x.domain == domain) is in
            ap (λ b. holdings rooms domain es (cond (not b) (x ∷ left) left)) (stays x parts.0 parts.1)
            ∙ ap (λ hs. cond (counts x) (here ∷ hs) hs) go
        | inr out ↦
            cond_both
            (not (undoes x e))
            (x ∷ left)
            left
            (λ ys. holdings rooms domain es ys ≡ cond (counts x) (here ∷ holdings rooms domain es xs) (holdings rooms domain es xs))
            (λ is. ap (λ hs. cond (counts x) (here ∷ hs) hs) go)
            (λ gone. go ∙ sym (cond-false (counts x) (here ∷ holdings rooms domain es xs) (holdings rooms domain es xs) out))
      ]

  left_others : (e : Entry) (es xs : List Entry) → (e.domain == domain) ≡ true → is_deregister e.change ≡ true
      → holdings rooms domain es (filter (λ x. not (undoes x e)) xs) ≡ filter (λ h. not (has_cuid e.cuid h)) (holdings rooms domain es xs)
  left_others e es [] own leaves = refl
  left_others e es (x ∷ xs) own leaves =
      let go = left_others e es xs own leaves in
      let left = filter (λ x. not (undoes x e)) xs in
      let rest = holdings rooms domain es xs in
      let here = holding_of rooms es x.peer (client_of x) in
      elim (cases_Bool (counts x)) [
        | inl is ↦
            let parts = and_parts (is_registration x.change) (x.domain == domain) is in
            let same : undoes x e ≡ bytes_eq e.cuid x.cuid = reg_undone x e parts.0 ∙ ap (λ b. b && is_of (client_of x) e) leaves ∙ by_cuid domain x e parts.1 own in
            ap (λ b. holdings rooms domain es (cond (not b) (x ∷ left) left)) same
            ∙ cond_both
            (not (bytes_eq e.cuid x.cuid))
            (x ∷ left)
            left
            (λ ys. holdings rooms domain es ys ≡ filter (λ h. not (has_cuid e.cuid h)) (here ∷ rest))
            (λ stays.
            cond-true (counts x) (here ∷ holdings rooms domain es left) (holdings rooms domain es left) is
            ∙ ap (λ hs. here ∷ hs) go
            ∙ sym (cond-true (not (bytes_eq e.cuid x.cuid)) (here ∷ filter (λ h. not (has_cuid e.cuid h)) rest) (filter (λ h. not (has_cuid e.cuid h)) rest) stays))
            (λ gone.
            go
            ∙ sym (cond-false (not (bytes_eq e.cuid x.cuid)) (here ∷ filter (λ h. not (has_cuid e.cuid h)) rest) (filter (λ h. not (has_cuid e.cuid h)) rest) gone))
            ∙ ap (filter (λ h. not (has_cuid e.cuid h))) (sym (cond-true (counts x) (here ∷ rest) rest is))
        | inr out ↦
            cond_both
            (not (undoes x e))
            (x ∷ left)
            left
            (λ ys. holdings rooms domain es ys ≡ filter (λ h. not (has_cuid e.cuid h)) rest)
            (λ is. cond-false (counts x) (here ∷ holdings rooms domain es left) (holdings rooms domain es left) out ∙ go)
            (λ gone. go)
            ∙ ap (filter (λ h. not (has_cuid e.cuid h))) (sym (cond-false (counts x) (here ∷ rest) rest out))
      ]

  -- by what is held after it
  each_changed : (e : Entry) (es xs : List Entry) → (e.domain == domain) ≡ true
      → holdings rooms domain (held_with e es) xs ≡ map (changed e.cuid e.change) (holdings rooms domain es xs)
  each_changed e es [] own = refl
  each_changed e es (x ∷ xs) own =
      let go = each_changed e es xs own in
      let rest = holdings rooms domain es xs in
      let after = holdings rooms domain (held_with e es) xs in
      let here = holding_of rooms es x.peer (client_of x) in
      cond_both
      (counts x)
      (here ∷ rest)
      rest
      (λ hs. cond (counts x) (holding_of rooms (held_with e es) x.peer (client_of x) ∷ after) after ≡ map (changed e.cuid e.change) hs)
      (λ is.
      let parts = and_parts (is_registration x.change) (x.domain == domain) is in
      cond-true (counts x) (holding_of rooms (held_with e es) x.peer (client_of x) ∷ after) after is
      ∙ ap (λ h. h ∷ after) (changed_holding rooms domain x e es parts.1 own)
      ∙ ap (λ hs. changed e.cuid e.change here ∷ hs) go)
      (λ out. cond-false (counts x) (holding_of rooms (held_with e es) x.peer (client_of x) ∷ after) after out ∙ go)

  none_changed : (e : Entry) (es xs : List Entry) → (e.domain == domain) ≡ false → holdings rooms domain (held_with e es) xs ≡ holdings rooms domain es xs
  none_changed e es [] other = refl
  none_changed e es (x ∷ xs) other =
      let go = none_changed e es xs other in
      let rest = holdings rooms domain es xs in
      let after = holdings rooms domain (held_with e es) xs in
      let here = holding_of rooms es x.peer (client_of x) in
      cond_both
      (counts x)
      (here ∷ rest)
      rest
      (λ hs. cond (counts x) (holding_of rooms (held_with e es) x.peer (client_of x) ∷ after) after ≡ hs)
      (λ is.
      let parts = and_parts (is_registration x.change) (x.domain == domain) is in
      cond-true (counts x) (holding_of rooms (held_with e es) x.peer (client_of x) ∷ after) after is
      ∙ ap (λ h. h ∷ after) (other_holding rooms x.peer (client_of x) e es (by_domain domain x e parts.1 other))
      ∙ ap (λ hs. here ∷ hs) go)
      (λ out. cond-false (counts x) (holding_of rooms (held_with e es) x.peer (client_of x) ∷ after) after out ∙ go)

  abbrev end : Entry → List Entry
  end e = cond (is_held e.change) (e ∷ []) []

  no_end : (e : Entry) (es : List Entry) → counts e ≡ false → holdings rooms domain es (end e) ≡ []
  no_end e es out =
      cond_both
      (is_held e.change)
      (e ∷ [])
      []
      (λ ys. holdings rooms domain es ys ≡ [])
      (λ is. cond-false (counts e) (holding_of rooms es e.peer (client_of e) ∷ []) [] out)
      (λ no. refl)

  -- an entry of another domain
  pub others_holdings : (e : Entry) (es : List Entry) → (e.domain == domain) ≡ false
      → holdings rooms domain (held_with e es) (held_with e es) ≡ holdings rooms domain es es
  others_holdings e es other =
      holdings-append (held_with e es) (filter (λ x. not (undoes x e)) es) (end e)
      ∙ ap
      (λ hs. holdings rooms domain (held_with e es) (filter (λ x. not (undoes x e)) es) ++ hs)
      (no_end e (held_with e es) (and_right (is_registration e.change) (e.domain == domain) other))
      ∙ append-nil (holdings rooms domain (held_with e es) (filter (λ x. not (undoes x e)) es))
      ∙ left_all
      e
      (held_with e es)
      es
      (λ x is in_x. reg_undone x e is ∙ and_right (is_deregister e.change) (is_of (client_of x) e) (by_domain domain x e in_x other))
      ∙ none_changed e es es other

  -- one that neither registers nor leaves
  quiet_holdings : (e : Entry) (es : List Entry) → (e.domain == domain) ≡ true → is_deregister e.change ≡ false → is_registration e.change ≡ false
      → holdings rooms domain (held_with e es) (held_with e es) ≡ map (changed e.cuid e.change) (holdings rooms domain es es)
  quiet_holdings e es own no_deregister no_registration =
      holdings-append (held_with e es) (filter (λ x. not (undoes x e)) es) (end e)
      ∙ ap
      (λ hs. holdings rooms domain (held_with e es) (filter (λ x. not (undoes x e)) es) ++ hs)
      (no_end e (held_with e es) (and_left (is_registration e.change) (e.domain == domain) no_registration))
      ∙ append-nil (holdings rooms domain (held_with e es) (filter (λ x. not (undoes x e)) es))
      ∙ left_all
      e
      (held_with e es)
      es
      (λ x is in_x. reg_undone x e is ∙ and_left (is_deregister e.change) (is_of (client_of x) e) no_deregister)
      ∙ each_changed e es es own

-- ---- lists of clients
pub unchanged : (cuid : List ℕ) (c : Change) (hs : List Holding) → list_any (has_cuid cuid) hs ≡ false → map (changed cuid c) hs ≡ hs
unchanged cuid c [] none = refl
unchanged cuid c (h ∷ hs) none =
    let parts = or_parts (has_cuid cuid h) (list_any (has_cuid cuid) hs) none in
    ap (λ x. x ∷ map (changed cuid c) hs) (cond-false (has_cuid cuid h) (holding_with c h) h parts.0)
    ∙ ap (λ xs. h ∷ xs) (unchanged cuid c hs parts.1)

-- leaving out those that were changed
without_changed : (cuid : List ℕ) (c : Change) (hs : List Holding)
    → filter (λ h. not (has_cuid cuid h)) (map (changed cuid c) hs) ≡ filter (λ h. not (has_cuid cuid h)) hs
without_changed cuid c [] = refl
without_changed cuid c (h ∷ hs) =
    let go = without_changed cuid c hs in
    let rest = filter (λ h. not (has_cuid cuid h)) (map (changed cuid c) hs) in
    elim (cases_Bool (has_cuid cuid h)) [
      | inl is ↦
          ap (λ x. cond (not (has_cuid cuid x)) (x ∷ rest) rest) (cond-true (has_cuid cuid h) (holding_with c h) h is)
          ∙ ap (λ b. cond (not b) (holding_with c h ∷ rest) rest) is
          ∙ go
          ∙ sym (ap (λ b. cond (not b) (h ∷ filter (λ h. not (has_cuid cuid h)) hs) (filter (λ h. not (has_cuid cuid h)) hs)) is)
      | inr out ↦
          ap (λ x. cond (not (has_cuid cuid x)) (x ∷ rest) rest) (cond-false (has_cuid cuid h) (holding_with c h) h out)
          ∙ ap (λ xs. cond (not (has_cuid cuid h)) (h ∷ xs) xs) go
    ]

-- a client that registers has nothing
pub record IsFresh (rooms : Rooms) (domain : ℕ) (e : Entry) (es : List Entry) : Type 0 where
  pub aliases : aliases_of (client_of e) es ≡ []
  pub acls : acls_of (client_of e) es ≡ []
  pub none : list_any (has_cuid e.cuid) (holdings rooms domain es es) ≡ false

registers_nothing : (c : Change) → is_deregister c ≡ true → is_registration c ≡ false
unfolding is_deregister is_registration
registers_nothing change.Deregister is = refl
registers_nothing _ is = absurd (false≢true is)

register_holds : (c : Change) → is_registration c ≡ true → (is_held c ≡ true) × (is_deregister c ≡ false)
unfolding is_deregister is_registration is_held
register_holds change.Register is = (refl, refl)
register_holds _ is = absurd (false≢true is)

leaving : (rooms : Rooms) (domain : ℕ) (e : Entry) (es : List Entry) → (e.domain == domain) ≡ true → is_deregister e.change ≡ true
    → holdings rooms domain (held_with e es) (held_with e es) ≡ filter (λ h. not (has_cuid e.cuid h)) (holdings rooms domain es es)
leaving rooms domain e es own leaves =
    holdings-append rooms domain (held_with e es) (filter (λ x. not (undoes x e)) es) (cond (is_held e.change) (e ∷ []) [])
    ∙ ap
    (λ hs. holdings rooms domain (held_with e es) (filter (λ x. not (undoes x e)) es) ++ hs)
    (no_end rooms domain e (held_with e es) (and_left (is_registration e.change) (e.domain == domain) (registers_nothing e.change leaves)))
    ∙ append-nil (holdings rooms domain (held_with e es) (filter (λ x. not (undoes x e)) es))
    ∙ left_others rooms domain e (held_with e es) es own leaves
    ∙ ap (filter (λ h. not (has_cuid e.cuid h))) (each_changed rooms domain e es es own)
    ∙ without_changed e.cuid e.change (holdings rooms domain es es)

nothing_with : (rooms : Rooms) (e : Entry) (es : List Entry) → e.change ≡ change.Register → aliases_of (client_of e) es ≡ [] → acls_of (client_of e) es ≡ []
    → holding_of rooms (held_with e es) e.peer (client_of e) ≡ no_holding rooms e.peer e.cuid
nothing_with rooms e es same no_aliases no_acls =
    own_holding rooms e.peer (client_of e) e es (client_is_of e)
    ∙ ap (λ c. holding_with c (holding_of rooms es e.peer (client_of e))) same
    ∙ ap (λ given. holding_with change.Register (holding_by rooms e.peer e.cuid given (acls_of (client_of e) es))) no_aliases
    ∙ ap (λ ls. holding_with change.Register (holding_by rooms e.peer e.cuid [] ls)) no_acls

registering : (rooms : Rooms) (domain : ℕ) (e : Entry) (es : List Entry) → (e.domain == domain) ≡ true → e.change ≡ change.Register
    → is_registration e.change ≡ true → IsFresh rooms domain e es
    → holdings rooms domain (held_with e es) (held_with e es) ≡ holdings rooms domain es es ++ no_holding rooms e.peer e.cuid ∷ []
registering rooms domain e es own same registers fresh =
    let kinds = register_holds e.change registers in
    holdings-append rooms domain (held_with e es) (filter (λ x. not (undoes x e)) es) (cond (is_held e.change) (e ∷ []) [])
    ∙ ap
    (λ hs. hs ++ holdings rooms domain (held_with e es) (cond (is_held e.change) (e ∷ []) []))
    (left_all
    rooms
    domain
    e
    (held_with e es)
    es
    (λ x is in_x. reg_undone x e is ∙ and_left (is_deregister e.change) (is_of (client_of x) e) kinds.1)
    ∙ each_changed rooms domain e es es own
    ∙ unchanged e.cuid e.change (holdings rooms domain es es) fresh.none)
    ∙ ap (λ b. holdings rooms domain es es ++ holdings rooms domain (held_with e es) (cond b (e ∷ []) [])) kinds.0
    ∙ ap
    (λ b. holdings rooms domain es es ++ cond b (holding_of rooms (held_with e es) e.peer (client_of e) ∷ []) [])
    (and_from (is_registration e.change) (e.domain == domain) registers own)
    ∙ ap (λ h. holdings rooms domain es es ++ h ∷ []) (nothing_with rooms e es same fresh.aliases fresh.acls)

by_change : (rooms : Rooms) (domain : ℕ) (e : Entry) (es : List Entry) → (e.domain == domain) ≡ true
    → (is_registration e.change ≡ true → IsFresh rooms domain e es) → (c : Change) → e.change ≡ c
    → holdings rooms domain (held_with e es) (held_with e es) ≡ list_with rooms e.peer e.cuid c (holdings rooms domain es es)
unfolding is_deregister is_registration
by_change rooms domain e es own fresh change.Register same =
    let registers = ap is_registration same in
    registering rooms domain e es own same registers (fresh registers)
by_change rooms domain e es own fresh change.Deregister same = leaving rooms domain e es own (ap is_deregister same)
by_change rooms domain e es own fresh c same =
    quiet_holdings rooms domain e es own (ap is_deregister same) (ap is_registration same)
    ∙ ap (λ c. map (changed e.cuid c) (holdings rooms domain es es)) same

-- an entry of the domain
pub own_holdings : (rooms : Rooms) (domain : ℕ) (e : Entry) (es : List Entry) → (e.domain == domain) ≡ true
    → (is_registration e.change ≡ true → IsFresh rooms domain e es)
    → holdings rooms domain (held_with e es) (held_with e es) ≡ list_with rooms e.peer e.cuid e.change (holdings rooms domain es es)
own_holdings rooms domain e es own fresh = by_change rooms domain e es own fresh e.change refl

-- ---- the client of a cuid
pub any_is : {A : Type 0} (test : A → Bool) (xs : List A) → is_some (find test xs) ≡ list_any test xs
any_is test [] = refl
any_is test (x ∷ xs) =
    cond_both
    (test x)
    (Some x)
    (find test xs)
    (λ o. is_some o ≡ (test x || list_any test xs))
    (λ is. sym (or_left (test x) (list_any test xs) is))
    (λ out. any_is test xs ∙ sym (ap (λ b. b || list_any test xs) out))

pub still_some : {A B : Type 0} (f : A → B) (o : Option A) → is_some (option_map f o) ≡ is_some o
still_some f None = refl
still_some f (Some a) = refl

abbrev pub if_registered : Rooms → Client → List Entry → List Entry → Option Holding
if_registered rooms client es xs = option_map (λ (x : Entry). holding_of rooms es x.peer client) (find (registers client) xs)

pub registered_cases : (rooms : Rooms) (client : Client) (es xs : List Entry) (P : Option Holding → Type 0)
    → ((x : Entry) → P (Some (holding_of rooms es x.peer client))) → (is_registered client xs ≡ false → P None) → P (if_registered rooms client es xs)
registered_cases rooms client es xs P is out = by (find (registers client) xs) refl
  where
    by : (o : Option Entry) → find (registers client) xs ≡ o → P (option_map (λ (x : Entry). holding_of rooms es x.peer client) o)
    by None none = out (sym (any_is (registers client) xs) ∙ ap is_some none)
    by (Some x) there = is x

pub not_registered : (rooms : Rooms) (client : Client) (es xs : List Entry) → is_registered client xs ≡ false → if_registered rooms client es xs ≡ None
not_registered rooms client es xs out = by (find (registers client) xs) refl
  where
    by : (o : Option Entry) → find (registers client) xs ≡ o → option_map (λ (x : Entry). holding_of rooms es x.peer client) o ≡ None
    by None none = refl
    by (Some x) there = absurd (false≢true (sym out ∙ sym (any_is (registers client) xs) ∙ ap is_some there))

of_parts : (client : Client) (x : Entry) → is_of client x ≡ ((x.domain == client.domain) && bytes_eq client.cuid x.cuid)
unfolding is_of
of_parts client x = ap (λ b. b && bytes_eq client.cuid x.cuid) (turned_eq client.domain x.domain)

pub find_client : (rooms : Rooms) (client : Client) (es xs : List Entry)
    → find (has_cuid client.cuid) (holdings rooms client.domain es xs) ≡ if_registered rooms client es xs
find_client rooms client es [] = refl
find_client rooms client es (x ∷ xs) =
    let go = find_client rooms client es xs in
    let here = holding_of rooms es x.peer (client_of x) in
    let rest = holdings rooms client.domain es xs in
    let found : Option Entry = find (registers client) xs in
    let held : Option Entry → Option Holding = option_map (λ (y : Entry). holding_of rooms es y.peer client) in
    elim (cases_Bool (is_registration x.change && (x.domain == client.domain))) [
      | inl is ↦
          let parts = and_parts (is_registration x.change) (x.domain == client.domain) is in
          let same : (is_registration x.change && is_of client x) ≡ bytes_eq client.cuid x.cuid = ap (λ b. b && is_of client x) parts.0 ∙ of_parts client x ∙ ap (λ b. b && bytes_eq client.cuid x.cuid) parts.1 in
          ap (find (has_cuid client.cuid)) (cond-true (is_registration x.change && (x.domain == client.domain)) (here ∷ rest) rest is)
          ∙ elim (cases_Bool (bytes_eq client.cuid x.cuid)) [
            | inl own ↦
                let client_is : client_of x ≡ client = is_of_client client x (of_parts client x ∙ and_from (x.domain == client.domain) (bytes_eq client.cuid x.cuid) parts.1 own) in
                cond-true (bytes_eq client.cuid x.cuid) (Some here) (find (has_cuid client.cuid) rest) own
                ∙ ap (λ c. Some (holding_of rooms es x.peer c)) client_is
                ∙ sym (ap held (cond-true (registers client x) (Some x) found (same ∙ own)))
            | inr out ↦
                cond-false (bytes_eq client.cuid x.cuid) (Some here) (find (has_cuid client.cuid) rest) out
                ∙ go
                ∙ sym (ap held (cond-false (registers client x) (Some x) found (same ∙ out)))
          ]
      | inr out ↦
          ap (find (has_cuid client.cuid)) (cond-false (is_registration x.change && (x.domain == client.domain)) (here ∷ rest) rest out)
          ∙ go
          ∙ sym (ap
          held
          (cond-false
          (registers client x)
          (Some x)
          found
          (not_counted (is_registration x.change) (x.domain == client.domain) (bytes_eq client.cuid x.cuid) (is_of client x) (of_parts client x) out)))
    ]
  where
    not_counted : (a b c d : Bool) → d ≡ (b && c) → (a && b) ≡ false → (a && d) ≡ false
    not_counted false b c d same out = refl
    not_counted true b c d same out = same ∙ ap (λ x. x && c) out

pub any_client : (rooms : Rooms) (client : Client) (es xs : List Entry)
    → list_any (has_cuid client.cuid) (holdings rooms client.domain es xs) ≡ is_registered client xs
any_client rooms client es xs =
    sym (any_is (has_cuid client.cuid) (holdings rooms client.domain es xs))
    ∙ ap is_some (find_client rooms client es xs)
    ∙ still_some (λ (x : Entry). holding_of rooms es x.peer client) (find (registers client) xs)
    ∙ any_is (registers client) xs
