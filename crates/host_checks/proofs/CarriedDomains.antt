-- An entry joins those of its domain under another number, where the new settings have it for their own.
use Rattle.std.proofs.Common.{◌≡◌, ℕ, ◌+◌, ◌≤◌, ◌<◌, Bool, true, false, cond, not, ◌&&◌, ◌||◌, List, [], ◌∷◌, ◌++◌, filter, map, Option, Some, None, inl, inr, refl, sym, ap, ◌∙◌, arith}
use Rattle.std.specs.Prelude.{◌==◌, nat_le, nat_lt, bytes_eq, ◌^◌}
use Rattle.std.specs.List.{list_any, list_all}
use Rattle.std.proofs.lemmas.Bool.{cond_both, cond-true, cond-false, and_parts, and_from, and_left, or_right, eq-eqb, eqb-true, le-leb, lt-ltb, leb-true, both_ways, not_from_false, cases_Bool, false_from_ne_true}
use Rattle.dots_settings.specs.declared.limits.Limits.{Limits}
use Rattle.dots_settings.specs.Settings.{SettingsValue}
use Rattle.dots_history.specs.declared.entry.Entry.{Entry}
use Rattle.dots_history.specs.Entries.{same_client, is_held, undoes}
use Rattle.dots_history.specs.Histories.{Mitigation, tally, mitigations, held, alone, Calm}
use Rattle.dots_history.specs.Views.{mitigations_of, held_with}
use Rattle.dots_history.specs.Calm.{is_of_settings, came_rightly}
use Rattle.dots_history.specs.Capacities.{is_registration, is_alias, is_list, has_client}
use Rattle.dots_history.specs.Fits.{last_time, is_registered, registers_rightly, keeps_room, fits, is_of_mitigations, has_one_peer, joins}
use Rattle.dots_history.proofs.Apart.{apart}
use Rattle.dots_history.proofs.Isolating.{held_alone}
use Rattle.dots_history.proofs.GoingOn.{held_push}
use Rattle.dots_history.proofs.Joining.{FitsSo, JoinsSo, joins_so}
use Rattle.host_checks.specs.Migrating.{AreNoLess}
use Rattle.host_checks.proofs.Carrying.{to_domain, put_to, IsIn, client_to, mitigations_to, held_to, held_with_to, alone_in}
use Rattle.host_checks.proofs.Counts.{same_tally, same_any, same_all}

abbrev pub of_domain : ℕ → Entry → Bool
of_domain domain e = e.domain == domain

abbrev pub put_of_domain : ℕ → Mitigation → Bool
put_of_domain domain m = m.put.domain == domain

-- these entries of a domain have another number there
abbrev pub AreAlike : ℕ → ℕ → List Entry → List Entry → Type 0
AreAlike domain number before there = alone number there ≡ map (to_domain number) (alone domain before)

filter_both : {A : Type 0} (test : A → Bool) (xs ys : List A) → filter test (xs ++ ys) ≡ filter test xs ++ filter test ys
filter_both test [] ys = refl
filter_both test (x ∷ xs) ys = by_test (test x) (filter test xs) (filter test ys) (filter test (xs ++ ys)) (filter_both test xs ys)
  where
    by_test : (b : Bool) (few more all : List _) → all ≡ few ++ more → cond b (x ∷ all) all ≡ cond b (x ∷ few) few ++ more
    by_test true few more all is = ap (λ zs. x ∷ zs) is
    by_test false few more all is = is

map_both : (number : ℕ) (xs ys : List Entry) → map (to_domain number) (xs ++ ys) ≡ map (to_domain number) xs ++ map (to_domain number) ys
map_both number [] ys = refl
map_both number (x ∷ xs) ys = ap (λ zs. to_domain number x ∷ zs) (map_both number xs ys)

pub alone_own : (domain : ℕ) (xs : List Entry) (e : Entry) → IsIn domain e → alone domain (xs ++ e ∷ []) ≡ alone domain xs ++ e ∷ []
alone_own domain xs e own =
    filter_both (of_domain domain) xs (e ∷ []) ∙ ap (λ zs. alone domain xs ++ zs) (cond-true (e.domain == domain) (e ∷ []) [] (eq-eqb e.domain domain own))

pub alone_other : (domain : ℕ) (xs : List Entry) (e : Entry) → (e.domain == domain) ≡ false → alone domain (xs ++ e ∷ []) ≡ alone domain xs
alone_other domain xs e other =
    filter_both (of_domain domain) xs (e ∷ []) ∙ ap (λ zs. alone domain xs ++ zs) (cond-false (e.domain == domain) (e ∷ []) [] other) ∙ append_none (alone domain xs)
  where
    append_none : (zs : List Entry) → zs ++ [] ≡ zs
    append_none [] = refl
    append_none (z ∷ zs) = ap (λ ys. z ∷ ys) (append_none zs)

pub alike_more : (domain number : ℕ) (before there : List Entry) (e : Entry) → IsIn domain e → AreAlike domain number before there
    → AreAlike domain number (before ++ e ∷ []) (there ++ to_domain number e ∷ [])
alike_more domain number before there e own alike =
    alone_own number there (to_domain number e) refl
    ∙ ap (λ zs. zs ++ to_domain number e ∷ []) alike
    ∙ sym (map_both number (alone domain before) (e ∷ []))
    ∙ ap (map (to_domain number)) (sym (alone_own domain before e own))

-- ---- what both come to
mitigations_alike : (domain number t : ℕ) (before there : List Entry) → AreAlike domain number before there
    → mitigations_of number (mitigations t there) ≡ map (put_to number) (mitigations_of domain (mitigations t before))
mitigations_alike domain number t before there alike =
    sym (apart number t there)
    ∙ ap (mitigations t) alike
    ∙ mitigations_to number domain t (alone domain before) (alone_in domain before)
    ∙ ap (map (put_to number)) (apart domain t before)

held_alike : (domain number : ℕ) (before there : List Entry) → AreAlike domain number before there → Calm before → Calm there
    → alone number (held there) ≡ map (to_domain number) (alone domain (held before))
held_alike domain number before there alike calm calm_there =
    sym (held_alone number there calm_there)
    ∙ ap held alike
    ∙ held_to number domain (alone domain before) (alone_in domain before)
    ∙ ap (map (to_domain number)) (held_alone domain before calm)

sieves : (one other : Entry → Bool) (xs : List Entry) → filter one (filter other xs) ≡ filter other (filter one xs)
sieves one other [] = refl
sieves one other (x ∷ xs) =
    elim (cases_Bool (one x)) [
      | inl is ↦ elim (cases_Bool (other x)) [
        | inl also ↦
            ap (filter one) (cond-true (other x) (x ∷ filter other xs) (filter other xs) also)
            ∙ cond-true (one x) (x ∷ filter one (filter other xs)) (filter one (filter other xs)) is
            ∙ ap (λ zs. x ∷ zs) (sieves one other xs)
            ∙ sym (cond-true (other x) (x ∷ filter other (filter one xs)) (filter other (filter one xs)) also)
            ∙ ap (filter other) (sym (cond-true (one x) (x ∷ filter one xs) (filter one xs) is))
        | inr out ↦
            ap (filter one) (cond-false (other x) (x ∷ filter other xs) (filter other xs) out)
            ∙ sieves one other xs
            ∙ sym (cond-false (other x) (x ∷ filter other (filter one xs)) (filter other (filter one xs)) out)
            ∙ ap (filter other) (sym (cond-true (one x) (x ∷ filter one xs) (filter one xs) is))
      ]
      | inr misses ↦ elim (cases_Bool (other x)) [
        | inl also ↦
            ap (filter one) (cond-true (other x) (x ∷ filter other xs) (filter other xs) also)
            ∙ cond-false (one x) (x ∷ filter one (filter other xs)) (filter one (filter other xs)) misses
            ∙ sieves one other xs
            ∙ ap (filter other) (sym (cond-false (one x) (x ∷ filter one xs) (filter one xs) misses))
        | inr out ↦
            ap (filter one) (cond-false (other x) (x ∷ filter other xs) (filter other xs) out)
            ∙ sieves one other xs
            ∙ ap (filter other) (sym (cond-false (one x) (x ∷ filter one xs) (filter one xs) misses))
      ]
    ]

ends_own : (domain : ℕ) (e : Entry) → IsIn domain e → alone domain (cond (is_held e.change) (e ∷ []) []) ≡ cond (is_held e.change) (e ∷ []) []
ends_own domain e own = by_test (is_held e.change)
  where
    by_test : (b : Bool) → alone domain (cond b (e ∷ []) []) ≡ cond b (e ∷ []) []
    by_test true = cond-true (e.domain == domain) (e ∷ []) [] (eq-eqb e.domain domain own)
    by_test false = refl

alone_held_with : (domain : ℕ) (e : Entry) (xs : List Entry) → IsIn domain e → alone domain (held_with e xs) ≡ held_with e (alone domain xs)
alone_held_with domain e xs own =
    filter_both (of_domain domain) (filter (λ x. not (undoes x e)) xs) (cond (is_held e.change) (e ∷ []) [])
    ∙ ap (λ zs. zs ++ alone domain (cond (is_held e.change) (e ∷ []) [])) (sieves (of_domain domain) (λ x. not (undoes x e)) xs)
    ∙ ap (λ zs. filter (λ x. not (undoes x e)) (alone domain xs) ++ zs) (ends_own domain e own)

held_more : (domain number : ℕ) (before there : List Entry) (e : Entry) → IsIn domain e → AreAlike domain number before there → Calm before → Calm there
    → alone number (held (there ++ to_domain number e ∷ [])) ≡ map (to_domain number) (alone domain (held (before ++ e ∷ [])))
held_more domain number before there e own alike calm calm_there =
    ap (alone number) (held_push (to_domain number e) there)
    ∙ alone_held_with number (to_domain number e) (held there) refl
    ∙ ap (held_with (to_domain number e)) (held_alike domain number before there alike calm calm_there)
    ∙ held_with_to number domain e (alone domain (held before)) own (alone_in domain (held before))
    ∙ ap (map (to_domain number)) (sym (alone_held_with domain e (held before) own) ∙ ap (alone domain) (sym (held_push e before)))

-- ---- whose client an entry is
client_front : (domain : ℕ) (a b : Entry) → IsIn domain b → same_client a b ≡ true → (a.domain == domain) ≡ true
unfolding same_client
client_front domain a b own is = eq-eqb a.domain domain (eqb-true a.domain b.domain (and_parts (a.domain == b.domain) (bytes_eq a.cuid b.cuid) is).0 ∙ own)

client_back : (domain : ℕ) (a b : Entry) → IsIn domain a → same_client a b ≡ true → (b.domain == domain) ≡ true
unfolding same_client
client_back domain a b own is = eq-eqb b.domain domain (sym (eqb-true a.domain b.domain (and_parts (a.domain == b.domain) (bytes_eq a.cuid b.cuid) is).0) ∙ own)

pub client_of_domain : (domain : ℕ) (a b : Entry) → IsIn domain a → same_client a b ≡ true → IsIn domain b
client_of_domain domain a b own is = eqb-true b.domain domain (client_back domain a b own is)

in_of : (domain : ℕ) (e : Entry) → (e.domain == domain) ≡ true → IsIn domain e
in_of domain e is = eqb-true e.domain domain is

less_room : (few many room more : ℕ) → many ≡ few → few ≤ room → room ≤ more → nat_le many more ≡ true
less_room few many room more same less also = le-leb many more (omega (arith, same, less, also))

-- ---- the tests of an entry
registered_alike : (domain number : ℕ) (before there : List Entry) (e : Entry) → IsIn domain e → AreAlike domain number before there → Calm before → Calm there
    → is_registered (held there) (to_domain number e) ≡ is_registered (held before) e
registered_alike domain number before there e own alike calm calm_there =
    same_any
    (to_domain number)
    (λ r. is_registration r.change && same_client r e)
    (λ r. is_registration r.change && same_client r (to_domain number e))
    (of_domain domain)
    (of_domain number)
    (held before)
    (held there)
    (held_alike domain number before there alike calm calm_there)
    (λ r is. client_front domain r e own (and_parts (is_registration r.change) (same_client r e) is).1)
    (λ r is. client_front number r (to_domain number e) refl (and_parts (is_registration r.change) (same_client r (to_domain number e)) is).1)
    (λ r is. ap (λ b. is_registration r.change && b) (client_to number domain r e (in_of domain r is) own))

of_kind : (domain number : ℕ) (kind : Entry → Bool) (before there : List Entry) (e : Entry) → ((x : Entry) → kind (to_domain number x) ≡ kind x) → IsIn domain e → AreAlike domain number before there
    → Calm before → Calm there
    → tally (λ (x : Entry). kind x && same_client (to_domain number e) x) (held (there ++ to_domain number e ∷ [])) ≡ tally (λ (x : Entry). kind x && same_client e x) (held (before ++ e ∷ []))
of_kind domain number kind before there e still own alike calm calm_there =
    same_tally
    (to_domain number)
    (λ (x : Entry). kind x && same_client e x)
    (λ (x : Entry). kind x && same_client (to_domain number e) x)
    (of_domain domain)
    (of_domain number)
    (held (before ++ e ∷ []))
    (held (there ++ to_domain number e ∷ []))
    (held_more domain number before there e own alike calm calm_there)
    (λ x is. client_back domain e x own (and_parts (kind x) (same_client e x) is).1)
    (λ x is. client_back number (to_domain number e) x refl (and_parts (kind x) (same_client (to_domain number e) x) is).1)
    (λ x is. ap (λ b. b && same_client (to_domain number e) (to_domain number x)) (still x) ∙ ap (λ b. kind x && b) (client_to number domain e x own (in_of domain x is)))

of_domain_alike : (domain number : ℕ) (before there : List Entry) (e : Entry) → IsIn domain e → AreAlike domain number before there → Calm before → Calm there
    → tally (λ (x : Entry). is_registration x.change && (x.domain == number)) (held (there ++ to_domain number e ∷ []))
    ≡ tally (λ (x : Entry). is_registration x.change && (x.domain == e.domain)) (held (before ++ e ∷ []))
of_domain_alike domain number before there e own alike calm calm_there =
    same_tally
    (to_domain number)
    (λ (x : Entry). is_registration x.change && (x.domain == e.domain))
    (λ (x : Entry). is_registration x.change && (x.domain == number))
    (of_domain domain)
    (of_domain number)
    (held (before ++ e ∷ []))
    (held (there ++ to_domain number e ∷ []))
    (held_more domain number before there e own alike calm calm_there)
    (λ x is. eq-eqb x.domain domain (eqb-true x.domain e.domain (and_parts (is_registration x.change) (x.domain == e.domain) is).1 ∙ own))
    (λ x is. (and_parts (is_registration x.change) (x.domain == number) is).1)
    (λ x is. ap (λ b. is_registration x.change && b) (eq-eqb number number refl ∙ sym (eq-eqb x.domain e.domain (in_of domain x is ∙ sym own))))

live_of_domain : (domain number t : ℕ) (before there : List Entry) (e : Entry) → IsIn domain e → AreAlike domain number before there
    → tally (λ (m : Mitigation). m.put.domain == number) (mitigations t there) ≡ tally (λ (m : Mitigation). m.put.domain == e.domain) (mitigations t before)
live_of_domain domain number t before there e own alike =
    same_tally
    (put_to number)
    (λ (m : Mitigation). m.put.domain == e.domain)
    (put_of_domain number)
    (put_of_domain domain)
    (put_of_domain number)
    (mitigations t before)
    (mitigations t there)
    (mitigations_alike domain number t before there alike)
    (λ m is. eq-eqb m.put.domain domain (eqb-true m.put.domain e.domain is ∙ own))
    (λ m is. is)
    (λ m is. eq-eqb number number refl ∙ sym (eq-eqb m.put.domain e.domain (in_of domain m.put is ∙ sym own)))

live_of_client : (domain number t : ℕ) (before there : List Entry) (e : Entry) → IsIn domain e → AreAlike domain number before there
    → tally (λ (m : Mitigation). same_client (to_domain number e) m.put) (mitigations t there) ≡ tally (λ (m : Mitigation). same_client e m.put) (mitigations t before)
live_of_client domain number t before there e own alike =
    same_tally
    (put_to number)
    (λ (m : Mitigation). same_client e m.put)
    (λ (m : Mitigation). same_client (to_domain number e) m.put)
    (put_of_domain domain)
    (put_of_domain number)
    (mitigations t before)
    (mitigations t there)
    (mitigations_alike domain number t before there alike)
    (λ m is. client_back domain e m.put own is)
    (λ m is. client_back number (to_domain number e) m.put refl is)
    (λ m is. client_to number domain e m.put own (in_of domain m.put is))

not_client : (domain : ℕ) (a b : Entry) → IsIn domain b → (a.domain == domain) ≡ false → same_client a b ≡ false
not_client domain a b own other = false_from_ne_true (same_client a b) (λ is. both_ways (a.domain == domain) other (client_front domain a b own is))

beyond : (domain : ℕ) (e : Entry) (m : Mitigation) → IsIn domain e → (m.put.domain == domain) ≡ false → (not (same_client m.put e) || (e.peer == m.put.peer)) ≡ true
beyond domain e m own other = ap (λ b. not b || (e.peer == m.put.peer)) (not_client domain m.put e own other)

one_peer_alike : (domain number t : ℕ) (before there : List Entry) (e : Entry) → IsIn domain e → AreAlike domain number before there
    → has_one_peer (to_domain number e) (mitigations t there) ≡ has_one_peer e (mitigations t before)
one_peer_alike domain number t before there e own alike =
    ap
    (λ b. not (is_of_mitigations e.change) || b)
    (same_all
    (put_to number)
    (λ (m : Mitigation). not (same_client m.put e) || (e.peer == m.put.peer))
    (λ (m : Mitigation). not (same_client m.put (to_domain number e)) || (e.peer == m.put.peer))
    (put_of_domain domain)
    (put_of_domain number)
    (mitigations t before)
    (mitigations t there)
    (mitigations_alike domain number t before there alike)
    (λ m out. beyond domain e m own out)
    (λ m out. beyond number (to_domain number e) m refl out)
    (λ m is. ap (λ b. not b || (e.peer == m.put.peer)) (client_to number domain m.put e (in_of domain m.put is) own)))

-- ---- it joins there too
pub joins_there : (old new : SettingsValue) (domain number : ℕ) (before there : List Entry) (e : Entry) → IsIn domain e → AreAlike domain number before there → Calm before → Calm there
    → last_time there ≤ last_time before → AreNoLess old.limits new.limits → is_of_settings new (to_domain number e) ≡ true → joins old before e ≡ true
    → joins new there (to_domain number e) ≡ true
joins_there old new domain number before there e own alike calm calm_there earlier limits settled joined =
    let so = joins_so old before e joined in
    let fit = so.fits in
    let later = fit.later in
    let x = to_domain number e in
    let ms = mitigations e.time (there ++ x ∷ []) in
    let standing = held (there ++ x ∷ []) in
    let both = alike_more domain number before there e own alike in
    let registered = registered_alike domain number before there e own alike calm calm_there in
    let timed = and_from (nat_le (last_time there) e.time) (nat_lt e.time (2 ^ 48)) (le-leb (last_time there) e.time (omega (arith, earlier, later))) (lt-ltb e.time (2 ^ 48) fit.bounded) in
    let front = and_from (nat_le (last_time there) e.time && nat_lt e.time (2 ^ 48)) (is_of_settings new x) timed settled in
    let registers : registers_rightly (held there) x ≡ true =
    ap (λ b. (not (is_registration e.change) || not b) && (not (is_alias e.change || is_list e.change) || b)) registered
    ∙ and_from (not (is_registration e.change) || not (is_registered (held before) e)) (has_client (held before) e) fit.registers fit.has_one in
    let live_rooms =
    and_from
    (nat_le (tally (λ (m : Mitigation). m.put.domain == number) ms) new.limits.domain_mitigations)
    (nat_le (tally (λ (m : Mitigation). same_client x m.put) ms) new.limits.client_mitigations)
    (less_room (tally (λ (m : Mitigation). m.put.domain == e.domain) (mitigations e.time (before ++ e ∷ []))) _ old.limits.domain_mitigations new.limits.domain_mitigations
    (live_of_domain domain number e.time (before ++ e ∷ []) (there ++ x ∷ []) e own both) fit.of_domain limits.domain_mitigations)
    (less_room (tally (λ (m : Mitigation). same_client e m.put) (mitigations e.time (before ++ e ∷ []))) _ old.limits.client_mitigations new.limits.client_mitigations
    (live_of_client domain number e.time (before ++ e ∷ []) (there ++ x ∷ []) e own both) fit.of_client limits.client_mitigations) in
    let own_rooms =
    and_from
    (nat_le (tally (λ (y : Entry). is_alias y.change && same_client x y) standing) new.limits.aliases)
    (nat_le (tally (λ (y : Entry). is_list y.change && same_client x y) standing) new.limits.acls)
    (less_room (tally (λ (y : Entry). is_alias y.change && same_client e y) (held (before ++ e ∷ []))) _ old.limits.aliases new.limits.aliases
    (of_kind domain number (λ y. is_alias y.change) before there e (λ y. refl) own alike calm calm_there) fit.aliased limits.aliases)
    (less_room (tally (λ (y : Entry). is_list y.change && same_client e y) (held (before ++ e ∷ []))) _ old.limits.acls new.limits.acls
    (of_kind domain number (λ y. is_list y.change) before there e (λ y. refl) own alike calm calm_there) fit.listed limits.acls) in
    let held_rooms =
    and_from
    (nat_le (tally (λ (y : Entry). is_registration y.change && (y.domain == number)) standing) new.limits.clients)
    (nat_le (tally (λ (y : Entry). is_alias y.change && same_client x y) standing) new.limits.aliases && nat_le (tally (λ (y : Entry). is_list y.change && same_client x y) standing) new.limits.acls)
    (less_room (tally (λ (y : Entry). is_registration y.change && (y.domain == e.domain)) (held (before ++ e ∷ []))) _ old.limits.clients new.limits.clients
    (of_domain_alike domain number before there e own alike calm calm_there) fit.registered limits.clients)
    own_rooms in
    let room : keeps_room new.limits x ms standing ≡ true = and_from _ _ live_rooms held_rooms in
    let fitting : fits new there x ≡ true =
    and_from
    ((nat_le (last_time there) e.time && nat_lt e.time (2 ^ 48)) && is_of_settings new x)
    (registers_rightly (held there) x && keeps_room new.limits x ms standing)
    front
    (and_from (registers_rightly (held there) x) (keeps_room new.limits x ms standing) registers room) in
    and_from
    (fits new there x)
    (came_rightly x && has_one_peer x (mitigations e.time there))
    fitting
    (and_from (came_rightly x) (has_one_peer x (mitigations e.time there)) so.came (one_peer_alike domain number e.time before there e own alike ∙ so.peers))
