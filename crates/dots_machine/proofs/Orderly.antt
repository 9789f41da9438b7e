-- What stands beside each other stays apart.
use Rattle.std.proofs.Common.{◌≡◌, ◌≢◌, ◌⊎◌, inl, inr, ℕ, zero, suc, ◌<◌, ◌≤◌, ◌==◌, true, false, List, [], ◌∷◌, ◌++◌, length, take, Some, Result, Ok, refl, sym, ap, ◌∙◌, subst, arith}
use Rattle.std.specs.Prelude.{slice_get, bytes_eq}
use Rattle.std.proofs.lemmas.Bool.{both_ways, cases_Bool, cases_order, or_cases, eqb-true, false_from_ne_true}
use Rattle.std.proofs.lemmas.Option.{none-some, same_Some}
use Rattle.std.proofs.lemmas.Slice.Eq.{bytes_eq-Decides}
use Rattle.ip_scope.specs.Prefix.{meets}
use Rattle.dots_history.specs.declared.entry.Entry.{Entry}
use Rattle.dots_history.specs.declared.put.Put.{Put}
use Rattle.dots_history.specs.declared.change.Change.TheVariants as change
use Rattle.dots_history.specs.Entries.{put_of, runs, ends, some_prefix, targets_meet}
use Rattle.dots_history.specs.Places.{Stands}
use Rattle.dots_settings.specs.Settings.{SettingsValue}
use Rattle.dots_history.specs.Tables.{Client}
use Rattle.dots_history.proofs.Lasting.{runs_no_more}
use Rattle.dots_history.proofs.Members.{In}
use Rattle.conflict_rules.specs.ByOverlap.{resolved, rivals}
use Rattle.conflict_rules.specs.Wanted.{wanted}
use Rattle.conflict_rules.specs.Lives.{put_or_nothing}
use Rattle.conflict_rules.specs.declared.fault.PutFault.{PutFault}
use Rattle.conflict_rules.specs.declared.judging.Judged.{Judged}
use Rattle.conflict_rules.specs.Requests.{Request}
use Rattle.conflict_rules.specs.Judging.{refreshed, begun}
use Rattle.conflict_rules.specs.Judgements.{StandsIn, Meets, Those, IsJudged, collision, refreshes, changes, unknown, too_many, higher, other, client_full, domain_full, begins}
use Rattle.conflict_rules.proofs.LivePlaces.{in_any}
use Rattle.dots_machine.specs.Orderly.{ShareNone, HigherStays}
use Rattle.dots_machine.proofs.Meeting.{some_resolved, meet_sym, meet_by, same_targets, apart_by_overlap, apart_by_rivals, rivals_sym, rivals_again, same_rivals, ends_so, unended_so}

-- ---- places
get_within : (xs : List Entry) (i : ℕ) (e : Entry) → slice_get xs i ≡ Some e → i < length xs
get_within [] i e is = absurd (none-some e is)
get_within (x ∷ xs) zero e is = omega arith
get_within (x ∷ xs) (suc i) e is = let less = get_within xs i e is in omega (arith, less)

get_front : (xs : List Entry) (e : Entry) (i : ℕ) → i < length xs → slice_get (xs ++ e ∷ []) i ≡ slice_get xs i
get_front [] e i within = absurd (omega (arith, within))
get_front (x ∷ xs) e zero within = refl
get_front (x ∷ xs) e (suc i) within = get_front xs e i (omega (arith, within))

get_last : (xs : List Entry) (e : Entry) → slice_get (xs ++ e ∷ []) (length xs) ≡ Some e
get_last [] e = refl
get_last (x ∷ xs) e = get_last xs e

-- in front, or at the end
pub where_is : (xs : List Entry) (e : Entry) (i : ℕ) (a : Entry) → slice_get (xs ++ e ∷ []) i ≡ Some a → ((i < length xs) × (slice_get xs i ≡ Some a)) ⊎ ((i ≡ length xs) × (e ≡ a))
where_is [] e zero a is = inr (refl, same_Some e a is)
where_is [] e (suc i) a is = absurd (none-some a is)
where_is (x ∷ xs) e zero a is = inl (omega arith, is)
where_is (x ∷ xs) e (suc i) a is = further (where_is xs e i a is)
  where
    further : ((i < length xs) × (slice_get xs i ≡ Some a)) ⊎ ((i ≡ length xs) × (e ≡ a)) → ((suc i < length (x ∷ xs)) × (slice_get xs i ≡ Some a)) ⊎ ((suc i ≡ length (x ∷ xs)) × (e ≡ a))
    further (inl (less, found)) = inl (omega (arith, less), found)
    further (inr (same, one)) = inr (omega (arith, same), one)

take_front : (xs : List Entry) (e : Entry) (j : ℕ) → j ≤ length xs → take j (xs ++ e ∷ []) ≡ take j xs
take_front [] e zero within = refl
take_front [] e (suc j) within = absurd (omega (arith, within))
take_front (x ∷ xs) e zero within = refl
take_front (x ∷ xs) e (suc j) within = ap (λ ys. x ∷ ys) (take_front xs e j (omega (arith, within)))

take_whole : (xs : List Entry) (e : Entry) → take (length xs) (xs ++ e ∷ []) ≡ xs
take_whole [] e = refl
take_whole (x ∷ xs) e = ap (λ ys. x ∷ ys) (take_whole xs e)

-- ---- what stands
-- it stood before the last entry came
stood_before : (entries : List Entry) (e : Entry) (i t : ℕ) (a : Entry) → i < length entries → Stands (entries ++ e ∷ []) i t a → Stands entries i t a
stood_before entries e i t a within st = record {
  there = sym (get_front entries e i within) ∙ st.there;
  not_ended = λ j x less found. st.not_ended j x less (get_front entries e j (get_within entries j x found) ∙ found);
  not_withdrawn = λ j x less found. st.not_withdrawn j x less (get_front entries e j (get_within entries j x found) ∙ found);
  granted = st.granted;
}

stood_in : (domain t : ℕ) (entries : List Entry) (e : Entry) (i : ℕ) (a : Entry) (one : Put) → i < length entries → StandsIn domain t (entries ++ e ∷ []) i a one → StandsIn domain t entries i a one
stood_in domain t entries e i a one within st = record { stands = stood_before entries e i t a within st.stands; of_domain = st.of_domain; puts = st.puts }

-- and at an earlier time
stood_earlier : (domain t u : ℕ) (entries : List Entry) (i : ℕ) (a : Entry) (one : Put) → t ≤ u → StandsIn domain u entries i a one → StandsIn domain t entries i a one
stood_earlier domain t u entries i a one less st = record {
  stands = record { there = st.stands.there; not_ended = st.stands.not_ended; not_withdrawn = st.stands.not_withdrawn; granted = runs_then };
  of_domain = st.of_domain;
  puts = st.puts;
}
  where
    runs_then : runs t a ≡ true
    runs_then = elim (cases_Bool (runs t a)) [
      | inl is ↦ is
      | inr out ↦ absurd (both_ways (runs u a) (runs_no_more t u a less out) st.stands.granted)
    ]

same_put : (a : Entry) (one put : Put) → a.change ≡ change.Put one → a.change ≡ change.Put put → one ≡ put
same_put a one put is also = ap (λ c. put_or_nothing (put_of c)) (sym is ∙ also)

-- as time goes on
pub share_later : (t u : ℕ) (entries : List Entry) → t ≤ u → ShareNone t entries → ShareNone u entries
share_later t u entries less share domain i j a b one put apart sa sb alike =
    share domain i j a b one put apart (stood_earlier domain t u entries i a one less sa) (stood_earlier domain t u entries j b put less sb) alike

-- ---- an entry that isn't a mitigation
module _ (t : ℕ) (entries : List Entry) (e : Entry) (none : (put : Put) → e.change ≡ change.Put put → ⊥) where
  front_by : (domain i : ℕ) (a : Entry) (one : Put) → StandsIn domain t (entries ++ e ∷ []) i a one → i < length entries
  front_by domain i a one st = by_place (where_is entries e i a st.stands.there)
    where
      by_place : ((i < length entries) × (slice_get entries i ≡ Some a)) ⊎ ((i ≡ length entries) × (e ≡ a)) → i < length entries
      by_place (inl (less, found)) = less
      by_place (inr (at, same)) = absurd (none one (ap (λ (x : Entry). x.change) same ∙ st.puts))

  pub share_without : ShareNone t entries → ShareNone t (entries ++ e ∷ [])
  share_without share domain i j a b one put apart sa sb alike =
      share domain i j a b one put apart (stood_in domain t entries e i a one (front_by domain i a one sa) sa) (stood_in domain t entries e j b put (front_by domain j b put sb) sb) alike

-- what holds of the last entry is all that is new
pub higher_more : (entries : List Entry) (e : Entry) → HigherStays entries
    → ((domain i : ℕ) (a : Entry) (one put : Put) → e.change ≡ change.Put put → StandsIn domain e.time entries i a one → ends a e ≡ true → one.mid ≤ put.mid)
    → HigherStays (entries ++ e ∷ [])
higher_more entries e stays last domain i j a b one put less found puts st ended = by_place (where_is entries e j b found)
  where
    by_place : ((j < length entries) × (slice_get entries j ≡ Some b)) ⊎ ((j ≡ length entries) × (e ≡ b)) → one.mid ≤ put.mid
    by_place (inl (within, there)) =
        stays domain i j a b one put less there puts (subst (λ es. StandsIn domain b.time es i a one) (take_front entries e j (omega (arith, within))) st) ended
    by_place (inr (at, same)) =
        last domain i a one put (ap (λ (x : Entry). x.change) same ∙ puts)
        (subst (λ (x : Entry). StandsIn domain x.time entries i a one) (sym same)
        (subst (λ es. StandsIn domain b.time es i a one) (ap (λ n. take n (entries ++ e ∷ [])) at ∙ take_whole entries e) st))
        (subst (λ x. ends a x ≡ true) (sym same) ended)

-- ---- a mitigation that is granted
none_of : {A : Type 0} (Has : A → Type 0) (xs : List A) → Those Has xs [] → (x : A) → In x xs → Has x → ⊥
none_of Has [] those x is has = is
none_of Has (y ∷ ys) (inl (first, (rest, same, more))) x is has = cc same
none_of Has (y ∷ ys) (inr (out, more)) x (inl same) has = out (subst Has same has)
none_of Has (y ∷ ys) (inr (out, more)) x (inr deeper) has = none_of Has ys more x deeper has

at_most : (a b : ℕ) → (b < a → ⊥) → a ≤ b
at_most a b out = omega (arith, out)

abbrev result : Result Judged PutFault → Result Judged PutFault
result r = r

ok_same : (a b : Judged) → result (Ok a) ≡ Ok b → a ≡ b
ok_same a b e = cc

module _ (settings : SettingsValue) (t : ℕ) (entries : List Entry) (client : Client) (request : Request) (judged : Judged) (share : ShareNone t entries) where
  module _ (i : ℕ) (a : Entry) (one : Put) (st : StandsIn client.domain t entries i a one) where
    -- one of another client has no address in common with it
    apart_from : a.cuid ≢ client.cuid → IsJudged settings t entries client request (Ok judged) → targets_meet one judged.put ≡ false
    apart_from another (refreshes put free has same is) =
        let now : judged.put.targets ≡ put.targets = ap (λ (j : Judged). j.put.targets) (ok_same judged (refreshed settings put request) is) in
        same_targets one judged.put put now
        ∙ share client.domain i has.place a has.entry one put
        (λ here. another (ap (λ (e : Entry). e.cuid) (same_Some a has.entry (sym st.stands.there ∙ ap (slice_get entries) here ∙ has.stands.stands.there)) ∙ has.of_client))
        st has.stands (λ same. absurd (another (same ∙ has.of_client)))
    apart_from another (begins targets own all free room too is) =
        let now : judged.put.targets ≡ targets = ap (λ (j : Judged). j.put.targets) (ok_same judged (begun settings targets t request) is) in
        meet_by one judged.put
        ∙ ap (some_prefix (λ p. some_prefix (meets p) one.targets)) now
        ∙ some_resolved (λ p. some_prefix (meets p) one.targets) targets
        ∙ false_from_ne_true _ (
        λ met.
        let found = in_any (λ p. some_prefix (meets p) one.targets) (resolved targets) met in
        none_of (Meets t entries client) (resolved targets) free.none_meets found.0 found.1
        (record { place = i; entry = a; put = one; stands = st; of_another = another; meeting = found.2 }))
    apart_from another (collision taken is) = absurd (cc is)
    apart_from another (changes put free has out is) = absurd (cc is)
    apart_from another (unknown free unused has is) = absurd (cc is)
    apart_from another (too_many targets free unused are many is) = absurd (cc is)
    apart_from another (higher targets mid new has most is) = absurd (cc is)
    apart_from another (other targets prefixes highest those some is) = absurd (cc is)
    apart_from another (client_full targets own all free full is) = absurd (cc is)
    apart_from another (domain_full targets own all free room full is) = absurd (cc is)

    -- one of the client that overlaps with it and has its trigger value has no higher mid
    not_higher : a.cuid ≡ client.cuid → rivals one judged.put ≡ true → IsJudged settings t entries client request (Ok judged) → one.mid ≤ judged.put.mid
    not_higher cuid overlap (begins targets own all free room too is) =
        let same = ok_same judged (begun settings targets t request) is in
        let mid : judged.put.mid ≡ request.mid = ap (λ (j : Judged). j.put.mid) same in
        let wants = wanted request.mid request.asked targets request.trigger in
        let met : rivals one wants ≡ true =
        sym (same_rivals one judged.put wants
        (ap (λ (j : Judged). j.put.targets) same)
        (ap (λ (j : Judged). j.put.asked) same)
        (ap (λ (j : Judged). j.put.trigger) same))
        ∙ overlap in
        let no_more = at_most one.mid request.mid (
        λ more. free.is_highest.none_higher one.mid (record { place = i; entry = a; put = one; stands = st; of_client = cuid; of_mid = refl; higher = more; overlapping = met })) in
        omega (arith, mid, no_more)
    not_higher cuid overlap (refreshes put free has again is) =
        elim (cases_order i has.place) [
          | inl here ↦
              let entry : a ≡ has.entry = same_Some a has.entry (sym st.stands.there ∙ ap (slice_get entries) here ∙ has.stands.stands.there) in
              let same_one : one ≡ put = same_put a one put st.puts (ap (λ (e : Entry). e.change) entry ∙ has.stands.puts) in
              let of_mid : one.mid ≡ request.mid = ap (λ (p : Put). p.mid) same_one ∙ has.of_mid in
              omega (arith, mid, of_mid)
          | inr (inl less) ↦
              absurd (both_ways (rivals one put)
              (unended_so a has.entry one put (st.of_domain ∙ sym has.stands.of_domain) (cuid ∙ sym has.of_client) st.puts has.stands.puts (st.stands.not_ended has.place has.entry less has.stands.stands.there)) met)
          | inr (inr more) ↦
              absurd (both_ways (rivals put one)
              (unended_so has.entry a put one (has.stands.of_domain ∙ sym st.of_domain) (has.of_client ∙ sym cuid) has.stands.puts st.puts (has.stands.stands.not_ended i a more st.stands.there))
              (rivals_sym one put met))
        ]
      where
        same : judged ≡ refreshed settings put request
        same = ok_same judged (refreshed settings put request) is

        mid : judged.put.mid ≡ request.mid
        mid = ap (λ (j : Judged). j.put.mid) same

        met : rivals one put ≡ true
        met = rivals_again one (refreshed settings put request).put put refl again (ap (λ (j : Judged). rivals one j.put) (sym same) ∙ overlap)
    not_higher cuid overlap (collision taken is) = absurd (cc is)
    not_higher cuid overlap (changes put free has out is) = absurd (cc is)
    not_higher cuid overlap (unknown free unused has is) = absurd (cc is)
    not_higher cuid overlap (too_many targets free unused are many is) = absurd (cc is)
    not_higher cuid overlap (higher targets mid new has most is) = absurd (cc is)
    not_higher cuid overlap (other targets prefixes highest those some is) = absurd (cc is)
    not_higher cuid overlap (client_full targets own all free full is) = absurd (cc is)
    not_higher cuid overlap (domain_full targets own all free room full is) = absurd (cc is)

  module _ (is : IsJudged settings t entries client request (Ok judged)) (e : Entry) (now : e.time ≡ t) (domain_is : e.domain ≡ client.domain) (cuid_is : e.cuid ≡ client.cuid) (puts : e.change ≡ change.Put judged.put) where
    -- beside one that stood before
    new_apart : (i : ℕ) (a : Entry) (one : Put) → i < length entries → StandsIn client.domain t (entries ++ e ∷ []) i a one
        → (a.cuid ≡ e.cuid → one.trigger ≡ judged.put.trigger) → targets_meet one judged.put ≡ false
    new_apart i a one within st alike =
        elim (cases_Bool (bytes_eq a.cuid client.cuid)) [
          | inl same ↦
              let cuid : a.cuid ≡ client.cuid = (bytes_eq-Decides a.cuid client.cuid).0 same in
              apart_by_overlap one judged.put
              (apart_by_rivals one judged.put (alike (cuid ∙ sym cuid_is))
              (unended_so a e one judged.put (st.of_domain ∙ sym domain_is) (cuid ∙ sym cuid_is) st.puts puts (st.stands.not_ended (length entries) e within (get_last entries e))))
          | inr out ↦
              apart_from i a one (stood_in client.domain t entries e i a one within st)
              (λ cuid. both_ways (bytes_eq a.cuid client.cuid) out ((bytes_eq-Decides a.cuid client.cuid).1 cuid)) is
        ]

    last_put : (b : Entry) (put : Put) → e ≡ b → b.change ≡ change.Put put → put ≡ judged.put
    last_put b put same is = same_put e put judged.put (ap (λ (x : Entry). x.change) same ∙ is) puts

    last_domain : (domain : ℕ) (b : Entry) → e ≡ b → b.domain ≡ domain → domain ≡ client.domain
    last_domain domain b same is = sym is ∙ ap (λ (x : Entry). x.domain) (sym same) ∙ domain_is

    pub share_with : ShareNone t (entries ++ e ∷ [])
    share_with domain i j a b one put apart sa sb alike = by_places (where_is entries e i a sa.stands.there) (where_is entries e j b sb.stands.there)
      where
        by_places : ((i < length entries) × (slice_get entries i ≡ Some a)) ⊎ ((i ≡ length entries) × (e ≡ a))
            → ((j < length entries) × (slice_get entries j ≡ Some b)) ⊎ ((j ≡ length entries) × (e ≡ b)) → targets_meet one put ≡ false
        by_places (inl (less, found)) (inl (under, there)) =
            share domain i j a b one put apart (stood_in domain t entries e i a one less sa) (stood_in domain t entries e j b put under sb) alike
        by_places (inl (less, found)) (inr (at, same)) =
            ap (targets_meet one) (last_put b put same sb.puts)
            ∙ new_apart i a one less (subst (λ d. StandsIn d t (entries ++ e ∷ []) i a one) (last_domain domain b same sb.of_domain) sa)
            (λ own. alike (own ∙ ap (λ (x : Entry). x.cuid) same) ∙ ap (λ (p : Put). p.trigger) (last_put b put same sb.puts))
        by_places (inr (at, same)) (inl (under, there)) =
            meet_sym one put
            ∙ ap (targets_meet put) (last_put a one same sa.puts)
            ∙ new_apart j b put under (subst (λ d. StandsIn d t (entries ++ e ∷ []) j b put) (last_domain domain a same sa.of_domain) sb)
            (λ own. sym (alike (sym (own ∙ ap (λ (x : Entry). x.cuid) same))) ∙ ap (λ (p : Put). p.trigger) (last_put a one same sa.puts))
        by_places (inr (at, same)) (inr (here, also)) = absurd (apart (at ∙ sym here))

    pub higher_with : HigherStays entries → HigherStays (entries ++ e ∷ [])
    higher_with stays = higher_more entries e stays last
      where
        last : (domain i : ℕ) (a : Entry) (one put : Put) → e.change ≡ change.Put put → StandsIn domain e.time entries i a one → ends a e ≡ true → one.mid ≤ put.mid
        last domain i a one put is_put st ended =
            let same : put ≡ judged.put = same_put e put judged.put is_put puts in
            let so = ends_so a e one judged.put st.puts puts ended in
            let there : StandsIn client.domain t entries i a one = subst (λ d. StandsIn d t entries i a one) (sym st.of_domain ∙ so.0 ∙ domain_is) (subst (λ u. StandsIn domain u entries i a one) now st) in
            let mid : put.mid ≡ judged.put.mid = ap (λ (p : Put). p.mid) same in
            elim (or_cases (one.mid == judged.put.mid) (rivals one judged.put) so.2) [
              | inl equal ↦ let same_mid : one.mid ≡ judged.put.mid = eqb-true one.mid judged.put.mid equal in omega (arith, mid, same_mid)
              | inr overlap ↦ let no_more = not_higher i a one there (so.1 ∙ cuid_is) overlap is in omega (arith, mid, no_more)
            ]
