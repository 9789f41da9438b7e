-- What is held of a client, by the places of its entries.
use Rattle.std.proofs.Common.{◌≡◌, ℕ, zero, suc, ◌<◌, Bool, true, false, cond, ◌&&◌, List, [], ◌∷◌, ◌++◌, drop, Option, Some, None, inl, inr, refl, sym, ap, ◌∙◌, subst, arith}
use Rattle.std.specs.Prelude.{◌||◌, ◌==◌, ◌≢◌, slice_get, option_to_list, option_map, is_none, bytes_eq}
use Rattle.std.specs.List.{list_any, find, flat_map}
use Rattle.std.proofs.lemmas.Bool.{false≢true, both_ways, cond-true, cond-false, cases_Bool, cases_order, and_parts, and_from, or_left, or_right, or_cases, or_parts, or_from, eqb-true, eq-eqb, false_from_ne_true}
use Rattle.std.proofs.lemmas.Option.{none-some, same_Some}
use Rattle.std.proofs.lemmas.Slice.Eq.{bytes_eq-Decides}
use Rattle.acl_lists.specs.declared.alias.Alias.{Alias}
use Rattle.acl_lists.specs.declared.asked.Asked.{Asked}
use Rattle.dots_settings.specs.Settings.{SettingsValue}
use Rattle.dots_history.specs.declared.entry.Entry.{Entry}
use Rattle.dots_history.specs.declared.put.Target.{Target}
use Rattle.dots_history.specs.declared.change.Change.{Change}
use Rattle.dots_history.specs.declared.change.Change.TheVariants as change
use Rattle.dots_history.specs.Entries.{undoes, undoes_of_client, undoes_alias, reconfigures, same_client, resumes}
use Rattle.dots_history.specs.Histories.{stays, held}
use Rattle.dots_history.specs.Places.{IsHeld}
use Rattle.dots_history.proofs.HeldPlaces.{held_at_place, place_is_held}
use Rattle.dots_history.specs.Capacities.{is_registration}
use Rattle.dots_history.specs.Tables.{Client, is_of}
use Rattle.dots_history.proofs.Members.{In, any_of}
use Rattle.dots_history.specs.Held.{alias_of, written, aliases_of, registers}
use Rattle.conflict_rules.specs.Targets.{target_of, own_target, alias_named, is_unknown, alias_target, targets_of}
use Rattle.conflict_rules.specs.Judgements.{HoldsIn, HoldsAlias, HasUnknown, AliasTargets, AreTargets}
use Rattle.conflict_rules.proofs.LivePlaces.{in_found}

-- ---- clients
pub client_parts : (client : Client) (e : Entry) → is_of client e ≡ true → (e.domain ≡ client.domain) × (e.cuid ≡ client.cuid)
unfolding is_of
client_parts client e is =
    let parts = and_parts (client.domain == e.domain) (bytes_eq client.cuid e.cuid) is in
    (sym (eqb-true client.domain e.domain parts.0), sym ((bytes_eq-Decides client.cuid e.cuid).0 parts.1))

pub client_from : (client : Client) (e : Entry) → e.domain ≡ client.domain → e.cuid ≡ client.cuid → is_of client e ≡ true
unfolding is_of
client_from client e domain cuid =
    and_from
    (client.domain == e.domain)
    (bytes_eq client.cuid e.cuid)
    (eq-eqb client.domain e.domain (sym domain))
    ((bytes_eq-Decides client.cuid e.cuid).1 (sym cuid))

-- ---- what is held
pub record HeldAt (entries : List Entry) (i : ℕ) (e : Entry) : Type 0 where
  there : slice_get entries i ≡ Some e
  stay : stays e (drop (suc i) entries) ≡ true

further : (x : Entry) (later : List Entry) (i : ℕ) (e : Entry) → HeldAt later i e → HeldAt (x ∷ later) (suc i) e
further x later i e at = record { there = at.there; stay = at.stay }

nearer : (x : Entry) (later : List Entry) (i : ℕ) (e : Entry) → HeldAt (x ∷ later) (suc i) e → HeldAt later i e
nearer x later i e at = record { there = at.there; stay = at.stay }

there_by : (e x : Entry) (later : List Entry) (b : Bool) → stays e later ≡ b → (In x (held later) → (i : ℕ) × HeldAt later i x)
    → In x (option_to_list (cond b (Some e) None) ++ held later) → (i : ℕ) × HeldAt (e ∷ later) i x
there_by e x later true now go (inl same) =
    (0, record { there = ap Some (sym same); stay = ap (λ (y : Entry). stays y later) same ∙ now })
there_by e x later true now go (inr more) = let one = go more in (suc one.0, further e later one.0 x one.1)
there_by e x later false out go more = let one = go more in (suc one.0, further e later one.0 x one.1)

held_there : (entries : List Entry) (x : Entry) → In x (held entries) → (i : ℕ) × HeldAt entries i x
held_there [] x is = absurd is
held_there (e ∷ later) x is = there_by e x later (stays e later) refl (λ more. held_there later x more) is

there_held : (entries : List Entry) (i : ℕ) (x : Entry) → HeldAt entries i x → In x (held entries)
there_held [] i x at = absurd (none-some x at.there)
there_held (e ∷ later) zero x at =
    let same : e ≡ x = same_Some e x at.there in
    let now : stays e later ≡ true = ap (λ (y : Entry). stays y later) same ∙ at.stay in
    subst
    (λ o. In x (option_to_list o ++ held later))
    (sym (cond-true (stays e later) (Some e) None now))
    (inl (sym same))
there_held (e ∷ later) (suc i) x at = by_stay (stays e later) (there_held later i x (nearer e later i x at))
  where
    by_stay : (b : Bool) → In x (held later) → In x (option_to_list (cond b (Some e) None) ++ held later)
    by_stay true is = inr is
    by_stay false is = is

at_held : (entries : List Entry) (i : ℕ) (e : Entry) → IsHeld entries i e → HeldAt entries i e
at_held entries i e is = record { there = is.there; stay = place_is_held entries i e is }

held_at : (entries : List Entry) (i : ℕ) (e : Entry) → HeldAt entries i e → IsHeld entries i e
held_at entries i e at = held_at_place entries i e at.there at.stay

-- ---- the first that passes
pub record FirstAt (test : Entry → Bool) (entries : List Entry) (i : ℕ) (e : Entry) : Type 0 where
  at : HeldAt entries i e
  passes : test e ≡ true
  first : (j : ℕ) (x : Entry) → j < i → HeldAt entries j x → test x ≡ false

first_before : (test : Entry → Bool) (x : Entry) (later : List Entry) (i : ℕ) → (HeldAt (x ∷ later) 0 x → test x ≡ false)
    → ((j : ℕ) (y : Entry) → j < i → HeldAt later j y → test y ≡ false) → (j : ℕ) (y : Entry) → j < suc i → HeldAt (x ∷ later) j y → test y ≡ false
first_before test x later i out first zero y less at =
    let same : x ≡ y = same_Some x y at.there in
    ap test (sym same) ∙ out (record { there = refl; stay = ap (λ (z : Entry). stays z later) same ∙ at.stay })
first_before test x later i out first (suc j) y less at = first j y (omega (arith, less)) (nearer x later j y at)

first_beyond : (test : Entry → Bool) (x : Entry) (later : List Entry) (e : Entry) → (HeldAt (x ∷ later) 0 x → test x ≡ false)
    → (i : ℕ) × FirstAt test later i e → (i : ℕ) × FirstAt test (x ∷ later) i e
first_beyond test x later e out go = (
  suc go.0,
  record {
    at = further x later go.0 e go.1.at;
    passes = go.1.passes;
    first = first_before test x later go.0 out go.1.first;
  },
)

first_here : (test : Entry → Bool) (x : Entry) (later : List Entry) (e : Entry) → stays x later ≡ true → test x ≡ true → x ≡ e → (i : ℕ) × FirstAt test (x ∷ later) i e
first_here test x later e now is same = (
  0,
  record {
    at = record { there = ap Some same; stay = ap (λ (z : Entry). stays z later) (sym same) ∙ now };
    passes = ap test (sym same) ∙ is;
    first = λ j y less at. absurd (nothing_below j less);
  },
)
  where
    nothing_below : (j : ℕ) → j < 0 → ⊥
    nothing_below j less = omega (arith, less)

first_by : (test : Entry → Bool) (x : Entry) (later : List Entry) (e : Entry) (b : Bool) → stays x later ≡ b
    → (find test (held later) ≡ Some e → (i : ℕ) × FirstAt test later i e)
    → find test (option_to_list (cond b (Some x) None) ++ held later) ≡ Some e → (i : ℕ) × FirstAt test (x ∷ later) i e
first_by test x later e true now go found =
    elim (cases_Bool (test x)) [
      | inl is ↦ first_here test x later e now is (same_Some x e (sym (cond-true (test x) (Some x) (find test (held later)) is) ∙ found))
      | inr out ↦ first_beyond test x later e (λ at. out) (go (sym (cond-false (test x) (Some x) (find test (held later)) out) ∙ found))
    ]
first_by test x later e false out go found = first_beyond test x later e (λ at. absurd (both_ways (stays x later) out at.stay)) (go found)

first_found : (test : Entry → Bool) (entries : List Entry) (e : Entry) → find test (held entries) ≡ Some e → (i : ℕ) × FirstAt test entries i e
first_found test [] e is = absurd (none-some e is)
first_found test (x ∷ later) e is = first_by test x later e (stays x later) refl (λ found. first_found test later e found) is

found_behind : (test : Entry → Bool) (x : Entry) (later : List Entry) (e : Entry) (b : Bool) → (b ≡ true → test x ≡ false) → find test (held later) ≡ Some e
    → find test (option_to_list (cond b (Some x) None) ++ held later) ≡ Some e
found_behind test x later e true out go = cond-false (test x) (Some x) (find test (held later)) (out refl) ∙ go
found_behind test x later e false out go = go

found_first : (test : Entry → Bool) (entries : List Entry) (i : ℕ) (e : Entry) → FirstAt test entries i e → find test (held entries) ≡ Some e
found_first test [] i e one = absurd (none-some e one.at.there)
found_first test (x ∷ later) zero e one =
    let same : x ≡ e = same_Some x e one.at.there in
    let now : stays x later ≡ true = ap (λ (z : Entry). stays z later) same ∙ one.at.stay in
    ap (λ o. find test (option_to_list o ++ held later)) (cond-true (stays x later) (Some x) None now)
    ∙ cond-true (test x) (Some x) (find test (held later)) (ap test same ∙ one.passes)
    ∙ ap Some same
found_first test (x ∷ later) (suc i) e one =
    found_behind
    test
    x
    later
    e
    (stays x later)
    (λ now. one.first 0 x (omega arith) (record { there = refl; stay = now }))
    (found_first test later i e (record {
      at = nearer x later i e one.at;
      passes = one.passes;
      first = λ j y less at. one.first (suc j) y (omega (arith, less)) (further x later j y at);
    }))

-- ---- registrations
register_is : (c : Change) → is_registration c ≡ true → c ≡ change.Register
unfolding is_registration
register_is change.Register is = refl
register_is _ is = absurd (false≢true is)

is_register : (c : Change) → c ≡ change.Register → is_registration c ≡ true
unfolding is_registration
is_register c is = ap is_registration is

holds_in : (client : Client) (entries : List Entry) (i : ℕ) (e : Entry) → HeldAt entries i e → is_of client e ≡ true → HoldsIn client entries i e
holds_in client entries i e at of =
    let parts = client_parts client e of in
    record { held = held_at entries i e at; of_domain = parts.0; of_cuid = parts.1 }

-- the registration that is found is the first by the places
pub record Registered (client : Client) (entries : List Entry) (e : Entry) : Type 0 where
  pub place : ℕ
  pub holds : HoldsIn client entries place e
  pub registers : e.change ≡ change.Register
  pub first : (j : ℕ) (x : Entry) → j < place → HoldsIn client entries j x → x.change ≢ change.Register

pub registered_found : (client : Client) (entries : List Entry) (e : Entry) → find (registers client) (held entries) ≡ Some e → Registered client entries e
registered_found client entries e is =
    let one = first_found (registers client) entries e is in
    let parts = and_parts (is_registration e.change) (is_of client e) one.1.passes in
    record {
      place = one.0;
      holds = holds_in client entries one.0 e one.1.at parts.1;
      registers = register_is e.change parts.0;
      first = λ j x less holds is.
          both_ways
          (registers client x)
          (one.1.first j x less (at_held entries j x holds.held))
          (and_from (is_registration x.change) (is_of client x) (is_register x.change is) (client_from client x holds.of_domain holds.of_cuid));
    }

pub found_registered : (client : Client) (entries : List Entry) (e : Entry) → Registered client entries e → find (registers client) (held entries) ≡ Some e
found_registered client entries e one =
    found_first (registers client) entries one.place e (record {
      at = at_held entries one.place e one.holds.held;
      passes = and_from (is_registration e.change) (is_of client e) (is_register e.change one.registers) (client_from client e one.holds.of_domain one.holds.of_cuid);
      first = λ j x less at.
          false_from_ne_true
          (registers client x)
          (λ is.
          let parts = and_parts (is_registration x.change) (is_of client x) is in
          one.first j x less (holds_in client entries j x at parts.1) (register_is x.change parts.0));
    })

-- ---- aliases
-- what an entry of a client wrote
pub record Wrote {A : Type 0} (pick : Change → Option A) (client : Client) (es : List Entry) (a : A) : Type 0 where
  entry : Entry
  among : In entry es
  of_client : is_of client entry ≡ true
  picked : pick entry.change ≡ Some a

wrote_behind : {A : Type 0} (pick : Change → Option A) (client : Client) (e : Entry) (es : List Entry) (a : A) → Wrote pick client es a → Wrote pick client (e ∷ es) a
wrote_behind pick client e es a one = record { entry = one.entry; among = inr one.among; of_client = one.of_client; picked = one.picked }

wrote_by : {A : Type 0} (pick : Change → Option A) (client : Client) (e : Entry) (es : List Entry) (a : A) (b : Bool) (o : Option A) → is_of client e ≡ b → pick e.change ≡ o
    → (In a (written pick client es) → Wrote pick client es a) → In a (option_to_list (cond b o None) ++ written pick client es) → Wrote pick client (e ∷ es) a
wrote_by pick client e es a true (Some y) of picked go (inl same) =
    record { entry = e; among = inl refl; of_client = of; picked = picked ∙ ap Some (sym same) }
wrote_by pick client e es a true (Some y) of picked go (inr more) = wrote_behind pick client e es a (go more)
wrote_by pick client e es a true None of picked go more = wrote_behind pick client e es a (go more)
wrote_by pick client e es a false o of picked go more = wrote_behind pick client e es a (go more)

in_written : {A : Type 0} (pick : Change → Option A) (client : Client) (es : List Entry) (a : A) → In a (written pick client es) → Wrote pick client es a
in_written pick client [] a is = absurd is
in_written pick client (e ∷ es) a is =
    wrote_by pick client e es a (is_of client e) (pick e.change) refl refl (λ more. in_written pick client es a more) is

written_in : {A : Type 0} (pick : Change → Option A) (client : Client) (es : List Entry) (a : A) (e : Entry) → In e es → is_of client e ≡ true
    → pick e.change ≡ Some a → In a (written pick client es)
written_in pick client [] a e is of picked = absurd is
written_in pick client (x ∷ es) a e (inl same) of picked =
    let mine : is_of client x ≡ true = ap (is_of client) (sym same) ∙ of in
    let wrote : pick x.change ≡ Some a = ap (λ (y : Entry). pick y.change) (sym same) ∙ picked in
    subst
    (λ o. In a (option_to_list o ++ written pick client es))
    (sym (cond-true (is_of client x) (pick x.change) None mine ∙ wrote))
    (inl refl)
written_in {A} pick client (x ∷ es) a e (inr more) of picked =
    behind (cond (is_of client x) (pick x.change) None) (written_in pick client es a e more of picked)
  where
    behind : (o : Option A) → In a (written pick client es) → In a (option_to_list o ++ written pick client es)
    behind None is = is
    behind (Some y) is = inr is

alias_is : (c : Change) (alias : Alias) → alias_of c ≡ Some alias → c ≡ change.SetAlias alias
alias_is (change.SetAlias other) alias is = ap change.SetAlias (same_Some other alias is)
alias_is _ alias is = absurd (none-some alias is)

pub alias_there : (client : Client) (entries : List Entry) (alias : Alias) → In alias (aliases_of client (held entries)) → HoldsAlias entries client alias
alias_there client entries alias is =
    let wrote = in_written alias_of client (held entries) alias is in
    let at = held_there entries wrote.entry wrote.among in
    record {
      place = at.0;
      entry = wrote.entry;
      holds = holds_in client entries at.0 wrote.entry at.1 wrote.of_client;
      writes = alias_is wrote.entry.change alias wrote.picked;
    }

pub there_alias : (client : Client) (entries : List Entry) (alias : Alias) → HoldsAlias entries client alias → In alias (aliases_of client (held entries))
there_alias client entries alias holds =
    written_in
    alias_of
    client
    (held entries)
    alias
    holds.entry
    (there_held entries holds.place holds.entry (at_held entries holds.place holds.entry holds.holds.held))
    (client_from client holds.entry holds.holds.of_domain holds.holds.of_cuid)
    (ap alias_of holds.writes)

-- a later alias of the name takes the place of an earlier one
undone_by : (a b : Entry) (one other : Alias) → a.domain ≡ b.domain → a.cuid ≡ b.cuid → a.change ≡ change.SetAlias one → b.change ≡ change.SetAlias other
    → one.name ≡ other.name → undoes a b ≡ true
unfolding undoes same_client undoes_of_client undoes_alias
undone_by a b one other domain cuid writes rewrites name =
    or_left
    (((a.domain == b.domain) && bytes_eq a.cuid b.cuid) && undoes_of_client a.change b.change)
    (reconfigures a b || resumes a b)
    (and_from
    ((a.domain == b.domain) && bytes_eq a.cuid b.cuid)
    (undoes_of_client a.change b.change)
    (and_from (a.domain == b.domain) (bytes_eq a.cuid b.cuid) (eq-eqb a.domain b.domain domain) ((bytes_eq-Decides a.cuid b.cuid).1 cuid))
    (ap (λ c. undoes_of_client c b.change) writes
    ∙ ap (λ c. undoes_of_client (change.SetAlias one) c) rewrites
    ∙ (bytes_eq-Decides one.name other.name).1 name))

never_two : (client : Client) (entries : List Entry) (one other : Alias) (a : HoldsAlias entries client one) (b : HoldsAlias entries client other) → one.name ≡ other.name
    → a.place < b.place → ⊥
never_two client entries one other a b name less =
    both_ways
    (undoes a.entry b.entry)
    (a.holds.held.not_undone b.place b.entry less b.holds.held.there)
    (undone_by
    a.entry
    b.entry
    one
    other
    (a.holds.of_domain ∙ sym b.holds.of_domain)
    (a.holds.of_cuid ∙ sym b.holds.of_cuid)
    a.writes
    b.writes
    name)

one_alias : (client : Client) (entries : List Entry) (one other : Alias) → HoldsAlias entries client one → HoldsAlias entries client other → one.name ≡ other.name
    → one ≡ other
one_alias client entries one other a b name =
    elim (cases_order a.place b.place) [
      | inl same ↦
          let entry : a.entry ≡ b.entry =
          same_Some a.entry b.entry (sym a.holds.held.there ∙ ap (slice_get entries) same ∙ b.holds.held.there) in
          same_Some one other (ap alias_of (sym a.writes ∙ ap (λ (e : Entry). e.change) entry ∙ b.writes))
      | inr (inl less) ↦ absurd (never_two client entries one other a b name less)
      | inr (inr more) ↦ absurd (never_two client entries other one b a (sym name) more)
    ]

-- ---- by the name
none_any : {A : Type 0} (test : A → Bool) (xs : List A) → find test xs ≡ None → list_any test xs ≡ false
none_any test [] none = refl
none_any test (x ∷ xs) none =
    elim (cases_Bool (test x)) [
      | inl here ↦ absurd (none-some x (sym none ∙ cond-true (test x) (Some x) (find test xs) here))
      | inr out ↦ or_from (test x) (list_any test xs) out (none_any test xs (sym (cond-false (test x) (Some x) (find test xs) out) ∙ none))
    ]

unknown_none : (o : Option Alias) → is_none o ≡ true → o ≡ None
unknown_none None is = refl
unknown_none (Some x) is = absurd (false≢true is)

any_middle : {A : Type 0} (test : A → Bool) (before : List A) (x : A) (after : List A) → test x ≡ true → list_any test (before ++ x ∷ after) ≡ true
any_middle test [] x after is = or_left (test x) (list_any test after) is
any_middle test (y ∷ before) x after is = or_right (test y) (list_any test (before ++ x ∷ after)) (any_middle test before x after is)

module _ (entries : List Entry) (client : Client) where
  abbrev aliases : List Alias
  aliases = aliases_of client (held entries)

  named_there : (name : List ℕ) (alias : Alias) → alias_named name aliases ≡ Some alias → HoldsAlias entries client alias × (alias.name ≡ name)
  named_there name alias is =
      let found = in_found (λ (x : Alias). bytes_eq name x.name) aliases alias is in
      (alias_there client entries alias found.0, sym ((bytes_eq-Decides name alias.name).0 found.1))

  there_named : (name : List ℕ) (alias : Alias) → HoldsAlias entries client alias → alias.name ≡ name → alias_named name aliases ≡ Some alias
  there_named name alias holds is = by_found (alias_named name aliases) refl
    where
      any : list_any (λ (x : Alias). bytes_eq name x.name) aliases ≡ true
      any =
          any_of
          (λ (x : Alias). bytes_eq name x.name)
          alias
          aliases
          (there_alias client entries alias holds)
          ((bytes_eq-Decides name alias.name).1 (sym is))

      by_found : (o : Option Alias) → alias_named name aliases ≡ o → alias_named name aliases ≡ Some alias
      by_found None none = absurd (both_ways (list_any (λ (x : Alias). bytes_eq name x.name) aliases) (none_any (λ (x : Alias). bytes_eq name x.name) aliases none) any)
      by_found (Some x) found =
          let there = named_there name x found in
          found ∙ ap Some (one_alias client entries x alias there.0 holds (there.1 ∙ sym is))

  pub unknown_there : (names : List (List ℕ)) → list_any (is_unknown aliases) names ≡ true → HasUnknown entries client names
  unknown_there [] is = absurd (false≢true is)
  unknown_there (name ∷ names) is =
      elim (or_cases (is_unknown aliases name) (list_any (is_unknown aliases) names) is) [
        | inl here ↦ record {
          before = [];
          name = name;
          after = names;
          asked = refl;
          unknown = λ alias holds same. none-some alias (sym (unknown_none (alias_named name aliases) here) ∙ there_named name alias holds same);
        }
        | inr beyond ↦
            let go = unknown_there names beyond in
            record { before = name ∷ go.before; name = go.name; after = go.after; asked = ap (λ more. name ∷ more) go.asked; unknown = go.unknown }
      ]

  none_unless : (name : List ℕ) → ((alias : Alias) → HoldsAlias entries client alias → alias.name ≢ name) → is_unknown aliases name ≡ true
  none_unless name unknown = by_found (alias_named name aliases) refl
    where
      by_found : (o : Option Alias) → alias_named name aliases ≡ o → is_none (alias_named name aliases) ≡ true
      by_found None none = ap is_none none
      by_found (Some x) found = let there = named_there name x found in absurd (unknown x there.0 there.1)

  pub there_unknown : (names : List (List ℕ)) → HasUnknown entries client names → list_any (is_unknown aliases) names ≡ true
  there_unknown names has =
      ap (list_any (is_unknown aliases)) has.asked
      ∙ any_middle (is_unknown aliases) has.before has.name has.after (none_unless has.name has.unknown)

  -- ---- the targets
  pub targets_there : (settings : SettingsValue) (names : List (List ℕ)) → list_any (is_unknown aliases) names ≡ false
      → AliasTargets settings entries client names (flat_map (alias_target settings aliases) names)
  targets_there settings [] known = refl
  targets_there settings (name ∷ names) known =
      let parts = or_parts (is_unknown aliases name) (list_any (is_unknown aliases) names) known in
      by_found (alias_named name aliases) refl parts.0 (targets_there settings names parts.1)
    where
      by_found : (o : Option Alias) → alias_named name aliases ≡ o → is_none (alias_named name aliases) ≡ false
          → AliasTargets settings entries client names (flat_map (alias_target settings aliases) names)
          → AliasTargets settings entries client (name ∷ names) (option_to_list (option_map (λ (alias : Alias). target_of settings alias.asked) (alias_named name aliases)) ++ flat_map (alias_target settings aliases) names)
      by_found None none known rest = absurd (both_ways (is_none (alias_named name aliases)) known (ap is_none none))
      by_found (Some alias) found known rest =
          let there = named_there name alias found in (
            alias,
            flat_map (alias_target settings aliases) names,
            there.0,
            there.1,
            ap
                (λ o. option_to_list (option_map (λ (alias : Alias). target_of settings alias.asked) o) ++ flat_map (alias_target settings aliases) names)
                found,
            rest,
          )

  pub there_targets : (settings : SettingsValue) (names : List (List ℕ)) (targets : List Target) → AliasTargets settings entries client names targets
      → (list_any (is_unknown aliases) names ≡ false) × (targets ≡ flat_map (alias_target settings aliases) names)
  there_targets settings [] targets are = (refl, are)
  there_targets settings (name ∷ names) targets are =
      let alias = are.0 in
      let found = there_named name alias are.2 are.3 in
      let go = there_targets settings names are.1 are.5 in (
        or_from (is_unknown aliases name) (list_any (is_unknown aliases) names) (ap is_none found) go.0,
        are.4
            ∙ ap (λ more. target_of settings alias.asked ∷ more) go.1
            ∙ sym (ap
            (λ o. option_to_list (option_map (λ (alias : Alias). target_of settings alias.asked) o) ++ flat_map (alias_target settings aliases) names)
            found),
      )

  pub are_targets : (settings : SettingsValue) (asked : Asked) → list_any (is_unknown aliases) asked.aliases ≡ false
      → AreTargets settings entries client asked (targets_of settings aliases asked)
  are_targets settings asked known = (flat_map (alias_target settings aliases) asked.aliases, refl, targets_there settings asked.aliases known)

  pub targets_are : (settings : SettingsValue) (asked : Asked) (targets : List Target) → AreTargets settings entries client asked targets
      → (list_any (is_unknown aliases) asked.aliases ≡ false) × (targets ≡ targets_of settings aliases asked)
  targets_are settings asked targets are =
      let both = there_targets settings asked.aliases are.0 are.2 in
      (both.0, are.1 ∙ ap (λ rest. own_target settings asked ++ rest) both.1)
