-- Those that aren't looked at go on being notified, as observers come, go and are notified.
use Rattle.std.proofs.Common.{◌≡◌, ℕ, suc, Bool, true, false, List, [], ◌∷◌, filter, length, refl, sym, ap, ◌∙◌, subst, arith}
use Rattle.std.specs.Prelude.{not, ◌==◌}
use Rattle.std.proofs.lemmas.Bool.{cond-true, cond-false, and_from, eq-eqb, eqb-true, false≢true}
use Rattle.coap_observe.specs.declared.due_among.DueAmong.{DueAmong}
use Rattle.coap_observe.specs.declared.due_among.DueAmong.TheVariants.{Nobody, Domain, Anybody}
use Rattle.coap_observe.specs.declared.observer.Observer.{Observer}
use Rattle.coap_observe.specs.Seen.{Lists, list_for, same_one, same_seen}
use Rattle.coap_observe.specs.Observed.{ObservedValue, is_token, is_due, notified, registered_again}
use Rattle.coap_observe.specs.Observing.{entered, registered, has_room, NoneIsDue}
use Rattle.coap_observe.specs.DueAmong.{includes, includes_one, joined, merged, AreNotified}

own_list : (xs : List (ℕ × ℕ)) → same_seen xs xs ≡ true
own_list [] = refl
own_list (x ∷ xs) = and_from (same_one x x) (same_seen xs xs) (and_from (x.0 == x.0) (x.1 == x.1) (eq-eqb x.0 x.0 refl) (eq-eqb x.1 x.1 refl)) (own_list xs)

-- what it was notified of last is what there is to see
pub notified_isnt_due : (lists : Lists) (id : ℕ) (o : ObservedValue) → is_due lists (notified id (list_for lists o.observer) o) ≡ false
notified_isnt_due lists id o = ap not (own_list (list_for lists o.observer))

-- ---- observers come and go

pub entered_notified : (lists : Lists) (among : DueAmong) (observer : Observer) (os : List ObservedValue) → AreNotified lists among os
    → AreNotified lists among (entered observer (list_for lists observer) os)
entered_notified lists among observer [] are = (λ out. ap not (own_list (list_for lists observer)), tt)
entered_notified lists among observer (o ∷ os) are = by_token (is_token observer.peer observer.token o) refl (entered_notified lists among observer os are.1)
  where
    again : ObservedValue
    again = registered_again observer (list_for lists observer) o

    by_token : (b : Bool) → is_token observer.peer observer.token o ≡ b → AreNotified lists among (entered observer (list_for lists observer) os)
        → AreNotified lists among (entered observer (list_for lists observer) (o ∷ os))
    by_token true is rest =
        subst (AreNotified lists among) (sym (cond-true (is_token observer.peer observer.token o) (again ∷ os) (o ∷ entered observer (list_for lists observer) os) is))
        (λ out. ap not (own_list (list_for lists observer)), are.1)
    by_token false is rest =
        subst (AreNotified lists among) (sym (cond-false (is_token observer.peer observer.token o) (again ∷ os) (o ∷ entered observer (list_for lists observer) os) is))
        (are.0, rest)

pub registered_notified : (lists : Lists) (among : DueAmong) (room : ℕ) (observer : Observer) (os : List ObservedValue) → AreNotified lists among os
    → AreNotified lists among (registered lists room observer os)
registered_notified lists among room observer os are = by_room (has_room room observer os) refl
  where
    by_room : (b : Bool) → has_room room observer os ≡ b → AreNotified lists among (registered lists room observer os)
    by_room true is = subst (AreNotified lists among) (sym (cond-true (has_room room observer os) (entered observer (list_for lists observer) os) os is)) (entered_notified lists among observer os are)
    by_room false is = subst (AreNotified lists among) (sym (cond-false (has_room room observer os) (entered observer (list_for lists observer) os) os is)) are

pub filtered_notified : (lists : Lists) (among : DueAmong) (stays : ObservedValue → Bool) (os : List ObservedValue) → AreNotified lists among os → AreNotified lists among (filter stays os)
filtered_notified lists among stays [] are = tt
filtered_notified lists among stays (o ∷ os) are = by_test (stays o) refl (filtered_notified lists among stays os are.1)
  where
    by_test : (b : Bool) → stays o ≡ b → AreNotified lists among (filter stays os) → AreNotified lists among (filter stays (o ∷ os))
    by_test true is rest = subst (AreNotified lists among) (sym (cond-true (stays o) (o ∷ filter stays os) (filter stays os) is)) (are.0, rest)
    by_test false is rest = subst (AreNotified lists among) (sym (cond-false (stays o) (o ∷ filter stays os) (filter stays os) is)) rest

-- ---- what there is to see changes

-- anybody may be due
pub anybody_notified : (lists : Lists) (os : List ObservedValue) → AreNotified lists Anybody os
anybody_notified lists [] = tt
anybody_notified lists (o ∷ os) = (λ out. absurd (false≢true (sym out)), anybody_notified lists os)

-- those of one domain more may be due
pub excluded : (among : DueAmong) (domain other : ℕ) → includes (joined among domain) other ≡ false → (includes among other ≡ false) × (domain == other ≡ false)
excluded Nobody domain other out = (refl, out)
excluded (Domain own) domain other out = by_domain (own == domain) refl
  where
    by_domain : (b : Bool) → (own == domain) ≡ b → (includes (Domain own) other ≡ false) × (domain == other ≡ false)
    by_domain true is =
        let same : own ≡ domain = eqb-true own domain is in
        let out_of = ap (λ among. includes among other) (sym (cond-true (own == domain) (Domain own) Anybody is)) ∙ out in
        (out_of, ap (λ d. d == other) (sym same) ∙ out_of)
    by_domain false is = absurd (false≢true (sym out ∙ ap (λ among. includes among other) (cond-false (own == domain) (Domain own) Anybody is)))
excluded Anybody domain other out = absurd (false≢true (sym out))

-- what there is to see of one domain alone became something else
pub changed_notified : (old new : Lists) (among : DueAmong) (domain : ℕ) → ((o : Observer) → domain == o.domain ≡ false → list_for old o ≡ list_for new o)
    → (os : List ObservedValue) → AreNotified old among os → AreNotified new (joined among domain) os
changed_notified old new among domain same [] are = tt
changed_notified old new among domain same (o ∷ os) are = (
  λ out.
      let both = excluded among domain o.observer.domain out in
      ap (λ list. not (same_seen o.seen list)) (sym (same o.observer both.1)) ∙ are.0 both.0,
  changed_notified old new among domain same os are.1,
)

-- what there is to see became something else, but not of a domain that isn't among the others
pub merged_notified : (old new : Lists) (among others : DueAmong) → ((o : Observer) → includes others o.domain ≡ false → list_for new o ≡ list_for old o)
    → (os : List ObservedValue) → AreNotified old among os → AreNotified new (merged among others) os
merged_notified old new among Nobody same [] are = tt
merged_notified old new among Nobody same (o ∷ os) are = (
  λ out. ap (λ list. not (same_seen o.seen list)) (same o.observer refl) ∙ are.0 out,
  merged_notified old new among Nobody same os are.1,
)
merged_notified old new among (Domain domain) same os are = changed_notified old new among domain (λ o out. sym (same o out)) os are
merged_notified old new among Anybody same os are = anybody_notified new os

-- ---- observers are notified

-- where none of these is due, and the others are notified, none is due
pub none_due : (lists : Lists) (among : DueAmong) (os : List ObservedValue) → NoneIsDue lists among 0 (length os) os → AreNotified lists among os → AreNotified lists Nobody os
none_due lists among [] none are = tt
none_due lists among (o ∷ os) none are = (
  λ out. by_test (includes_one among o) refl,
  none_due lists among os (λ place other low less there within. none (suc place) other (omega arith) (omega (arith, less)) there within) are.1,
)
  where
    by_test : (b : Bool) → includes_one among o ≡ b → is_due lists o ≡ false
    by_test true is = none 0 o (omega arith) (omega arith) refl is
    by_test false is = are.0 is
