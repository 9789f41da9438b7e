-- What is taken of entries, one after the other.
use Rattle.std.proofs.Common.{◌≡◌, ℕ, ◌≤◌, Bool, true, false, cond, not, ◌&&◌, ◌||◌, List, [], ◌∷◌, ◌++◌, map, Option, Some, None, inl, inr, refl, sym, ap, ◌∙◌, subst, le_refl, append_assoc, append-nil, arith}
use Rattle.std.specs.Prelude.{option_to_list, option_map, is_some, ◌==◌}
use Rattle.std.specs.List.{list_any, list_all}
use Rattle.std.proofs.lemmas.Bool.{false≢true, cond_both, cond-true, cond-false, and_parts, and_left, and_right, or_from, cases_Bool, both_ways, eq-eqb, eqb-true, ne_eqb, eqb-false, false_from_ne_true}
use Rattle.std.proofs.lemmas.Option.{none-some, same_Some}
use Rattle.dots_settings.specs.Settings.{SettingsValue}
use Rattle.dots_history.specs.declared.entry.Entry.{Entry}
use Rattle.dots_history.specs.Entries.{same_client, ends, put_of, option_any}
use Rattle.dots_history.specs.Histories.{IsPart, Calm, alone}
use Rattle.dots_history.specs.Calm.{is_of_settings}
use Rattle.dots_history.specs.Fits.{last_time, joins, is_calm}
use Rattle.dots_history.proofs.CalmCuts.{calm_more, calm_parts, calm_at_end}
use Rattle.dots_history.proofs.Joining.{joins_so, last_of_push}
use Rattle.dots_history.proofs.Composing.{part_refl, part_trans, part_more}
use Rattle.host_checks.specs.Migrating.{number_in, with_domain, carried, is_still_own, is_lost_put, might_return, candidate, with_joined, taken_after, migrated, all_carried, AreNoLess, KeepsDomain}
use Rattle.host_checks.proofs.Carrying.{to_domain, IsIn}
use Rattle.host_checks.proofs.CarriedDomains.{AreAlike, alone_own, alone_other, alike_more, joins_there, client_of_domain}

-- ---- it is calm
joined_calm : (new : SettingsValue) (before : List Entry) (o : Option Entry) → is_calm new before ≡ true → is_calm new (with_joined new before o) ≡ true
joined_calm new before None calm = calm
joined_calm new before (Some e) calm =
    cond_both (joins new before e) (before ++ e ∷ []) before (λ es. is_calm new es ≡ true) (λ is. calm_more new before e calm is) (λ out. calm)

pub taken_calm : (old new : SettingsValue) (before entries : List Entry) → is_calm new before ≡ true → is_calm new (taken_after old new before entries) ≡ true
taken_calm old new before [] calm = calm
taken_calm old new before (e ∷ later) calm =
    taken_calm old new (with_joined new before (candidate old new e later)) later (joined_calm new before (candidate old new e later) calm)

-- ---- it is a part of those that the new settings may have
front_part : (front xs ys : List Entry) → IsPart xs ys → IsPart (front ++ xs) (front ++ ys)
front_part [] xs ys part = part
front_part (x ∷ front) xs ys part = inl (refl, front_part front xs ys part)

joined_part : (new : SettingsValue) (before : List Entry) (o : Option Entry) (rest : List Entry) → IsPart (with_joined new before o ++ rest) (before ++ (option_to_list o ++ rest))
joined_part new before None rest = part_refl (before ++ rest)
joined_part new before (Some e) rest =
    cond_both
    (joins new before e)
    (before ++ e ∷ [])
    before
    (λ es. IsPart (es ++ rest) (before ++ e ∷ rest))
    (λ is. subst (λ es. IsPart es (before ++ e ∷ rest)) (sym (append_assoc before (e ∷ []) rest)) (part_refl (before ++ e ∷ rest)))
    (λ out. front_part before rest (e ∷ rest) (part_more rest e rest (part_refl rest)))

candidate_part : (b : Bool) (o : Option Entry) (before rest : List Entry) → IsPart (before ++ (option_to_list (cond b None o) ++ rest)) (before ++ (option_to_list o ++ rest))
candidate_part true None before rest = part_refl (before ++ rest)
candidate_part true (Some e) before rest = front_part before rest (e ∷ rest) (part_more rest e rest (part_refl rest))
candidate_part false o before rest = part_refl (before ++ (option_to_list o ++ rest))

pub taken_part : (old new : SettingsValue) (before entries : List Entry) → IsPart (taken_after old new before entries) (before ++ all_carried old new entries)
taken_part old new before [] = subst (IsPart before) (sym (append-nil before)) (part_refl before)
taken_part old new before (e ∷ later) =
    let o = candidate old new e later in
    let rest = all_carried old new later in
    part_trans
    (taken_after old new (with_joined new before o) later)
    (with_joined new before o ++ rest)
    (before ++ (option_to_list (carried old new e) ++ rest))
    (taken_part old new (with_joined new before o) later)
    (part_trans
    (with_joined new before o ++ rest)
    (before ++ (option_to_list o ++ rest))
    (before ++ (option_to_list (carried old new e) ++ rest))
    (joined_part new before o rest)
    (candidate_part (might_return old new e later) (carried old new e) before rest))

-- ---- what is the new settings' own may be taken
option_alone : (domain : ℕ) (old new : SettingsValue) (e : Entry) (number : ℕ) → number_in old new domain ≡ Some number → IsIn domain e → carried old new e ≡ Some (to_domain number e)
option_alone domain old new e number known own = ap (λ d. option_map (with_domain e) (number_in old new d)) own ∙ ap (option_map (with_domain e)) known

own_there : (old new : SettingsValue) (domain number : ℕ) (x : Entry) → number_in old new domain ≡ Some number → IsIn domain x
    → (not (x.domain == domain) || is_of_settings new (to_domain number x)) ≡ true → is_of_settings new (to_domain number x) ≡ true
own_there old new domain number x known own is =
    sym (ap (λ b. not b || is_of_settings new (to_domain number x)) (eq-eqb x.domain domain own)) ∙ is

no_lost : (old new : SettingsValue) (domain number : ℕ) (e : Entry) (later : List Entry) → number_in old new domain ≡ Some number → IsIn domain e
    → list_all (λ (x : Entry). not (x.domain == domain) || is_of_settings new (with_domain x number)) later ≡ true → list_any (is_lost_put old new e) later ≡ false
no_lost old new domain number e [] known own all = refl
no_lost old new domain number e (x ∷ later) known own all =
    let parts = and_parts (not (x.domain == domain) || is_of_settings new (to_domain number x)) _ all in
    or_from
    (is_lost_put old new e x)
    (list_any (is_lost_put old new e) later)
    (false_from_ne_true (is_lost_put old new e x) (λ lost. lost_none x parts.0 lost))
    (no_lost old new domain number e later known own parts.1)
  where
    lost_none : (x : Entry) → (not (x.domain == domain) || is_of_settings new (to_domain number x)) ≡ true → is_lost_put old new e x ≡ true → ⊥
    lost_none x settled lost =
        let halves = and_parts (same_client e x) (is_some (put_of x.change) && not (is_still_own old new x)) lost in
        let there : IsIn domain x = client_of_domain domain e x own halves.0 in
        let still : is_still_own old new x ≡ true =
        ap (option_any (is_of_settings new)) (option_alone domain old new x number known there) ∙ own_there old new domain number x known there settled in
        false≢true (sym (ap not still) ∙ (and_parts (is_some (put_of x.change)) (not (is_still_own old new x)) halves.1).1)

candidate_own : (old new : SettingsValue) (domain number : ℕ) (e : Entry) (later : List Entry) → number_in old new domain ≡ Some number → IsIn domain e
    → list_all (λ (x : Entry). not (x.domain == domain) || is_of_settings new (with_domain x number)) later ≡ true → candidate old new e later ≡ Some (to_domain number e)
candidate_own old new domain number e later known own all =
    cond-false (might_return old new e later) None (carried old new e) (and_right (list_any (ends e) later) (list_any (is_lost_put old new e) later) (no_lost old new domain number e later known own all))
    ∙ option_alone domain old new e number known own

-- ---- an entry of another domain
record OtherTaken (new : SettingsValue) (number high : ℕ) (there taken : List Entry) : Type 0 where
  calm : is_calm new taken ≡ true
  same : alone number taken ≡ alone number there
  times : last_time taken ≤ high

other_taken : (new : SettingsValue) (number : ℕ) (e : Entry) (there : List Entry) (o : Option Entry)
    → ((x : Entry) → o ≡ Some x → ((x.domain == number) ≡ false) × (x.time ≡ e.time)) → is_calm new there ≡ true → last_time there ≤ e.time
    → OtherTaken new number e.time there (with_joined new there o)
other_taken new number e there None other calm less = record { calm = calm; same = refl; times = less }
other_taken new number e there (Some x) other calm less =
    cond_both
    (joins new there x)
    (there ++ x ∷ [])
    there
    (OtherTaken new number e.time there)
    (λ is. record {
      calm = calm_more new there x calm is;
      same = alone_other number there x (other x refl).0;
      times = let last = last_of_push there x in let same = (other x refl).1 in omega (arith, last, same);
    })
    (λ out. record { calm = calm; same = refl; times = less })

pub some_of : (b : Bool) (o : Option Entry) (x : Entry) → cond b None o ≡ Some x → o ≡ Some x
some_of true o x is = absurd (none-some x is)
some_of false o x is = is

pub mapped : (e : Entry) (o : Option ℕ) (x : Entry) → option_map (with_domain e) o ≡ Some x → (o ≡ Some x.domain) × (x.time ≡ e.time)
mapped e None x is = absurd (none-some x is)
mapped e (Some n) x is = let same = same_Some (with_domain e n) x is in (ap (λ (y : Entry). Some y.domain) same, sym (ap (λ (y : Entry). y.time) same))

-- no other domain has the number
abbrev pub IsAlone : SettingsValue → SettingsValue → ℕ → ℕ → Type 0
IsAlone old new domain number = (other : ℕ) → number_in old new other ≡ Some number → other ≡ domain

other_number : (old new : SettingsValue) (domain number : ℕ) (e : Entry) (later : List Entry) → IsAlone old new domain number → (e.domain == domain) ≡ false
    → (x : Entry) → candidate old new e later ≡ Some x → ((x.domain == number) ≡ false) × (x.time ≡ e.time)
other_number old new domain number e later only other x is =
    let parts = mapped e (number_in old new e.domain) x (some_of (might_return old new e later) (carried old new e) x is) in (
      ne_eqb x.domain number (λ same. eqb-false e.domain domain other (only e.domain (parts.0 ∙ ap Some same))),
      parts.1,
    )

-- ---- of a domain that the new settings have nothing is left out
calm_of : (settings : SettingsValue) (entries : List Entry) → is_calm settings entries ≡ true → Calm entries
calm_of settings entries is = (calm_at_end settings (last_time entries) entries is (le_refl (last_time entries))).peers

pub domain_taken : (old new : SettingsValue) (domain number : ℕ) (before there later : List Entry) → number_in old new domain ≡ Some number → IsAlone old new domain number
    → AreNoLess old.limits new.limits → is_calm old (before ++ later) ≡ true → is_calm new there ≡ true → AreAlike domain number before there → last_time there ≤ last_time before
    → list_all (λ (x : Entry). not (x.domain == domain) || is_of_settings new (with_domain x number)) later ≡ true
    → AreAlike domain number (before ++ later) (taken_after old new there later)
domain_taken old new domain number before there [] known only limits calm calm_there alike less all =
    subst (λ es. AreAlike domain number es there) (sym (append-nil before)) alike
domain_taken old new domain number before there (e ∷ later) known only limits calm calm_there alike less all =
    let parts = and_parts (not (e.domain == domain) || is_of_settings new (to_domain number e)) _ all in
    let cut = calm_parts old before e later calm in
    let joined = joins_so old before e cut.1 in
    let after = joined.fits.later in
    let last = last_of_push before e in
    let whole : is_calm old ((before ++ e ∷ []) ++ later) ≡ true = ap (is_calm old) (append_assoc before (e ∷ []) later) ∙ calm in
    let go : (taken : List Entry) → is_calm new taken ≡ true → AreAlike domain number (before ++ e ∷ []) taken → last_time taken ≤ last_time (before ++ e ∷ [])
    → AreAlike domain number (before ++ e ∷ later) (taken_after old new taken later) =
    λ taken calm_taken alike_taken less_taken.
    subst
    (λ es. AreAlike domain number es (taken_after old new taken later))
    (append_assoc before (e ∷ []) later)
    (domain_taken old new domain number (before ++ e ∷ []) taken later known only limits whole calm_taken alike_taken less_taken parts.1) in
    elim (cases_Bool (e.domain == domain)) [
      | inl own ↦
          let inside : IsIn domain e = eqb-true e.domain domain own in
          let x = to_domain number e in
          let is_joined = joins_there old new domain number before there e inside alike (calm_of old before cut.0) (calm_of new there calm_there) less limits (own_there old new domain number e known inside parts.0) cut.1 in
          let taken_is : with_joined new there (candidate old new e later) ≡ there ++ x ∷ [] =
          ap (with_joined new there) (candidate_own old new domain number e later known inside parts.1) ∙ cond-true (joins new there x) (there ++ x ∷ []) there is_joined in
          let last_there = last_of_push there x in
          subst
          (λ es. AreAlike domain number (before ++ e ∷ later) (taken_after old new es later))
          (sym taken_is)
          (go (there ++ x ∷ []) (calm_more new there x calm_there is_joined) (alike_more domain number before there e inside alike) (omega (arith, last_there, last)))
      | inr other ↦
          let step = other_taken new number e there (candidate old new e later) (other_number old new domain number e later only other) calm_there (omega (arith, less, after)) in
          let times = step.times in
          go
          (with_joined new there (candidate old new e later))
          step.calm
          (step.same ∙ alike ∙ ap (map (to_domain number)) (sym (alone_other domain before e other)))
          (omega (arith, times, last))
    ]

pub domain_kept : (old new : SettingsValue) (domain number : ℕ) (entries : List Entry) → is_calm old entries ≡ true → IsAlone old new domain number → KeepsDomain old new domain number entries
    → alone number (migrated old new entries) ≡ map (to_domain number) (alone domain entries)
domain_kept old new domain number entries calm only keeps =
    domain_taken old new domain number [] [] entries keeps.number_is only keeps.limits calm refl refl (le_refl 0) keeps.own
