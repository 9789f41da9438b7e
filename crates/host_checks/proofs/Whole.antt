-- Where the lines of all domains say what they said, nothing is left out.
use Rattle.std.proofs.Common.{◌≡◌, ℕ, ◌≤◌, ◌<◌, Bool, true, false, cond, not, ◌&&◌, ◌||◌, List, [], ◌∷◌, ◌++◌, length, map, Option, Some, None, inl, inr, refl, sym, ap, ◌∙◌, subst, le_refl, append_assoc, append-nil, arith}
use Rattle.std.specs.Prelude.{◌==◌, option_map, is_some}
use Rattle.std.specs.List.{list_any, list_all}
use Rattle.std.proofs.lemmas.Bool.{false≢true, cond-true, cond-false, and_parts, and_from, and_right, or_from, cases_Bool, ltb-true, eq-eqb, eqb-true, ne_eqb, eqb-false, false_from_ne_true}
use Rattle.std.proofs.lemmas.Option.{none-some, same_Some}
use Rattle.dots_settings.specs.Settings.{SettingsValue, IsSettings}
use Rattle.dots_history.specs.declared.entry.Entry.{Entry}
use Rattle.dots_history.specs.Entries.{same_client, put_of, ends, option_any}
use Rattle.dots_history.specs.Histories.{Calm, alone}
use Rattle.dots_history.specs.Calm.{is_of_settings, came_rightly, is_own}
use Rattle.dots_history.specs.Fits.{last_time, joins, is_calm}
use Rattle.dots_history.proofs.CalmCuts.{calm_at_end, calm_more, calm_parts}
use Rattle.dots_history.proofs.Joining.{joins_so, last_of_push}
use Rattle.host_checks.specs.Migrating.{number_in, with_domain, carried, is_still_own, is_lost_put, might_return, candidate, with_joined, taken_after, migrated, AreNoLess, KeepsLines, KeepsLinesOf}
use Rattle.host_checks.proofs.Carrying.{to_domain, IsIn}
use Rattle.host_checks.proofs.CarriedDomains.{AreAlike, alone_own, alone_other, alike_more, joins_there}
use Rattle.host_checks.proofs.Takings.{IsAlone}
use Rattle.host_checks.proofs.Numbers.{numbers_alone}
use Rattle.host_checks.proofs.SameLines.{own_still}

calm_of : (settings : SettingsValue) (entries : List Entry) → is_calm settings entries ≡ true → Calm entries
calm_of settings entries is = (calm_at_end settings (last_time entries) entries is (le_refl (last_time entries))).peers

-- each domain of the old settings has a number of its own
abbrev pub AreAlone : SettingsValue → SettingsValue → Type 0
AreAlone old new = (domain number : ℕ) → number_in old new domain ≡ Some number → IsAlone old new domain number

abbrev AllAlike : SettingsValue → SettingsValue → List Entry → List Entry → Type 0
AllAlike old new before there = (domain number : ℕ) → number_in old new domain ≡ Some number → AreAlike domain number before there

none_lost : (old new : SettingsValue) (e : Entry) (later : List Entry) → list_all (is_still_own old new) later ≡ true → list_any (is_lost_put old new e) later ≡ false
none_lost old new e [] all = refl
none_lost old new e (x ∷ later) all =
    let parts = and_parts (is_still_own old new x) (list_all (is_still_own old new) later) all in
    or_from
    (is_lost_put old new e x)
    (list_any (is_lost_put old new e) later)
    (and_right (same_client e x) (is_some (put_of x.change) && not (is_still_own old new x)) (and_right (is_some (put_of x.change)) (not (is_still_own old new x)) (ap not parts.0)))
    (none_lost old new e later parts.1)

own_number : (old new : SettingsValue) (e : Entry) (o : Option ℕ) → option_any (is_of_settings new) (option_map (with_domain e) o) ≡ true
    → (number : ℕ) × (o ≡ Some number) × (is_of_settings new (with_domain e number) ≡ true)
own_number old new e None is = absurd (false≢true is)
own_number old new e (Some number) is = (number, refl, is)

map_both : (xs ys : List Entry) → map Some (xs ++ ys) ≡ map Some xs ++ map Some ys
map_both [] ys = refl
map_both (x ∷ xs) ys = ap (λ zs. Some x ∷ zs) (map_both xs ys)

pub all_taken : (old new : SettingsValue) (before there later : List Entry) → AreAlone old new → AreNoLess old.limits new.limits → is_calm old (before ++ later) ≡ true → is_calm new there ≡ true
    → AllAlike old new before there → last_time there ≤ last_time before → list_all (is_still_own old new) later ≡ true
    → map Some (taken_after old new there later) ≡ map Some there ++ map (carried old new) later
all_taken old new before there [] apart limits calm calm_there alike less all = sym (append-nil (map Some there))
all_taken old new before there (e ∷ later) apart limits calm calm_there alike less all =
    let parts = and_parts (is_still_own old new e) (list_all (is_still_own old new) later) all in
    let settled = own_number old new e (number_in old new e.domain) parts.0 in
    let number = settled.0 in
    let cut = calm_parts old before e later calm in
    let last = last_of_push before e in
    let whole : is_calm old ((before ++ e ∷ []) ++ later) ≡ true = ap (is_calm old) (append_assoc before (e ∷ []) later) ∙ calm in
    let x = to_domain number e in
    let is_joined = joins_there old new e.domain number before there e refl (alike e.domain number settled.1) (calm_of old before cut.0) (calm_of new there calm_there) less limits settled.2 cut.1 in
    let is_candidate : candidate old new e later ≡ Some x =
    cond-false (might_return old new e later) None (carried old new e) (and_right (list_any (ends e) later) (list_any (is_lost_put old new e) later) (none_lost old new e later parts.1))
    ∙ ap (option_map (with_domain e)) settled.1 in
    let taken_is : with_joined new there (candidate old new e later) ≡ there ++ x ∷ [] =
    ap (with_joined new there) is_candidate ∙ cond-true (joins new there x) (there ++ x ∷ []) there is_joined in
    let last_there = last_of_push there x in
    let more : AllAlike old new (before ++ e ∷ []) (there ++ x ∷ []) =
    λ domain other known.
    elim (cases_Bool (e.domain == domain)) [
      | inl own ↦
          let inside = eqb-true e.domain domain own in
          let same : number ≡ other = same_Some number other (sym settled.1 ∙ ap (number_in old new) inside ∙ known) in
          subst (λ n. AreAlike domain other (before ++ e ∷ []) (there ++ to_domain n e ∷ [])) (sym same) (alike_more domain other before there e inside (alike domain other known))
      | inr far ↦
          let apart_there : (number == other) ≡ false =
          ne_eqb number other (λ same. eqb-false e.domain domain far (apart domain other known e.domain (settled.1 ∙ ap Some same))) in
          alone_other other there x apart_there ∙ alike domain other known ∙ ap (map (to_domain other)) (sym (alone_other domain before e far))
    ] in
    ap (λ es. map Some (taken_after old new es later)) taken_is
    ∙ all_taken old new (before ++ e ∷ []) (there ++ x ∷ []) later apart limits whole (calm_more new there x calm_there is_joined) more (omega (arith, last_there, last)) parts.1
    ∙ ap (λ os. os ++ map (carried old new) later) (map_both there (x ∷ []))
    ∙ append_assoc (map Some there) (Some x ∷ []) (map (carried old new) later)
    ∙ ap (λ o. map Some there ++ o ∷ map (carried old new) later) (sym (ap (option_map (with_domain e)) settled.1))

pub all_kept : (old new : SettingsValue) (entries : List Entry) → AreAlone old new → AreNoLess old.limits new.limits → is_calm old entries ≡ true → list_all (is_still_own old new) entries ≡ true
    → map Some (migrated old new entries) ≡ map (carried old new) entries
all_kept old new entries apart limits calm all = all_taken old new [] [] entries apart limits calm refl (λ domain number known. refl) (le_refl 0) all

all_own : (old new : SettingsValue) (entries : List Entry) → IsSettings old → KeepsLinesOf old new entries → list_all (is_own old) entries ≡ true → list_all (is_still_own old new) entries ≡ true
all_own old new [] valid lines all = refl
all_own old new (e ∷ later) valid lines all =
    let parts = and_parts (is_own old e) (list_all (is_own old) later) all in
    let kept : KeepsLines old new e.domain lines.0.0 = lines.0.1 in
    and_from
    (is_still_own old new e)
    (list_all (is_still_own old new) later)
    (ap (λ o. option_any (is_of_settings new) (option_map (with_domain e) o)) kept.number_is
    ∙ own_still old new e.domain lines.0.0 e valid kept refl (and_parts (is_of_settings old e) (came_rightly e) parts.0).0)
    (all_own old new later valid lines.1 parts.1)

pub whole : (old new : SettingsValue) (entries : List Entry) → IsSettings old → IsSettings new → is_calm old entries ≡ true → AreNoLess old.limits new.limits → KeepsLinesOf old new entries
    → map Some (migrated old new entries) ≡ map (carried old new) entries
whole old new entries valid valid_new calm limits lines =
    all_kept
    old
    new
    entries
    (λ domain number known. numbers_alone old new domain number valid valid_new known)
    limits
    calm
    (all_own old new entries valid lines (calm_at_end old (last_time entries) entries calm (le_refl (last_time entries))).own)
