-- The numbers of domains in other settings.
use Rattle.std.proofs.Common.{◌≡◌, ℕ, ◌+◌, ◌≤◌, ◌<◌, zero, suc, Bool, true, false, cond, not, nat_lt, List, [], ◌∷◌, length, Option, Some, None, inl, inr, refl, sym, ap, ◌∙◌, subst, arith}
use Rattle.std.specs.Prelude.{slice_get, position, bytes_eq, count_by, ◌==◌, option_and_then}
use Rattle.std.specs.List.{position_or_len}
use Rattle.std.proofs.lemmas.Bool.{cond_both, cond-true, cond-false, cases_Bool, ltb-true, eqb-true, eqb-false, eq-eqb}
use Rattle.std.proofs.lemmas.Option.{none-some, same_Some, cond_some}
use Rattle.std.proofs.lemmas.List.Sums.{sum_by-cons}
use Rattle.std.proofs.lemmas.Slice.Eq.{bytes_eq-Decides}
use Rattle.dots_settings.specs.declared.domains.DomainRow.{DomainRow}
use Rattle.dots_settings.specs.Settings.{SettingsValue, IsSettings}
use Rattle.dots_settings.specs.Lookups.{no_domain}
use Rattle.host_checks.specs.Migrating.{number_named, number_in}
use Rattle.host_checks.proofs.Takings.{IsAlone}

-- ---- the first that passes
pub record FoundAt {A : Type 0} (test : A → Bool) (xs : List A) (place : ℕ) : Type 0 where
  pub item : A
  pub there : slice_get xs place ≡ Some item
  pub passes : test item ≡ true

by_first : {A : Type 0} (test : A → Bool) (x : A) (xs : List A) (k : ℕ) (b : Bool) → test x ≡ b → (k < length xs → FoundAt test xs k)
    → cond (not b) (1 + k) 0 < length (x ∷ xs) → FoundAt test (x ∷ xs) (cond (not b) (1 + k) 0)
by_first test x xs k true is go below = record { item = x; there = refl; passes = is }
by_first test x xs k false is go below =
    let rest = go (omega (arith, below)) in
    subst (FoundAt test (x ∷ xs)) (next k) (record { item = rest.item; there = rest.there; passes = rest.passes })
  where
    next : (n : ℕ) → suc n ≡ 1 + n
    next n = omega arith

first_passes : {A : Type 0} (test : A → Bool) (xs : List A) → position_or_len test xs < length xs → FoundAt test xs (position_or_len test xs)
first_passes test [] less = absurd (omega (arith, less))
first_passes test (x ∷ xs) less = by_first test x xs (position_or_len test xs) (test x) refl (λ below. first_passes test xs below) less

pub position_found : {A : Type 0} (test : A → Bool) (xs : List A) (place : ℕ) → position test xs ≡ Some place → (place < length xs) × FoundAt test xs place
position_found test xs place is =
    let parts = cond_some (nat_lt (position_or_len test xs) (length xs)) (position_or_len test xs) place is in
    let less = ltb-true (position_or_len test xs) (length xs) parts.0 in
    (subst (λ n. n < length xs) parts.1 less, subst (FoundAt test xs) parts.1 (first_passes test xs less))

-- ---- one that passes at most
one_if : (b : Bool) → b ≡ true → cond {A = ℕ} b 1 0 ≡ 1
one_if b is = cond-true b 1 0 is

one_here : {A : Type 0} (test : A → Bool) (y x : A) → Some y ≡ Some x → test x ≡ true → cond {A = ℕ} (test y) 1 0 ≡ 1
one_here test y x same is = one_if (test y) (ap test (same_Some y x same) ∙ is)

count_more : {A : Type 0} (test : A → Bool) (y : A) (xs : List A) → count_by test (y ∷ xs) ≡ cond {A = ℕ} (test y) 1 0 + count_by test xs
count_more test y xs = sum_by-cons (λ x. cond (test x) 1 0) y xs

counted : {A : Type 0} (test : A → Bool) (xs : List A) (place : ℕ) (x : A) → slice_get xs place ≡ Some x → test x ≡ true → 1 ≤ count_by test xs
counted test [] place x there is = absurd (none-some x there)
counted test (y ∷ xs) zero x there is = let here = one_here test y x there is in let more = count_more test y xs in omega (arith, here, more)
counted test (y ∷ xs) (suc place) x there is = let rest = counted test xs place x there is in let more = count_more test y xs in omega (arith, rest, more)

fewer : (k rest : ℕ) → k + rest ≤ 1 → rest ≤ 1
fewer k rest less = omega (arith, less)

pub one_place : {A : Type 0} (test : A → Bool) (xs : List A) (i j : ℕ) (x y : A) → count_by test xs ≤ 1 → slice_get xs i ≡ Some x → slice_get xs j ≡ Some y
    → test x ≡ true → test y ≡ true → i ≡ j
one_place test [] i j x y few at_i at_j one other = absurd (none-some x at_i)
one_place test (z ∷ xs) zero zero x y few at_i at_j one other = refl
one_place test (z ∷ xs) zero (suc j) x y few at_i at_j one other =
    let here = one_here test z x at_i one in
    let more = counted test xs j y at_j other in
    let sum = count_more test z xs in
    absurd (omega (arith, few, here, more, sum))
one_place test (z ∷ xs) (suc i) zero x y few at_i at_j one other =
    let here = one_here test z y at_j other in
    let more = counted test xs i x at_i one in
    let sum = count_more test z xs in
    absurd (omega (arith, few, here, more, sum))
one_place test (z ∷ xs) (suc i) (suc j) x y few at_i at_j one other = ap suc (one_place test xs i j x y (fewer (cond (test z) 1 0) (count_by test xs) (subst (λ k. k ≤ 1) (count_more test z xs) few)) at_i at_j one other)

-- ---- the number of a domain
pub record Named (old new : SettingsValue) (domain number : ℕ) : Type 0 where
  pub row : DomainRow
  pub there : slice_get old.domains domain ≡ Some row
  pub below : number < length new.domains
  pub found : FoundAt (λ (other : DomainRow). bytes_eq row.name other.name) new.domains number

named_row : (new : SettingsValue) (o : Option DomainRow) (number : ℕ) → option_and_then (number_named new) o ≡ Some number
    → (row : DomainRow) × (o ≡ Some row) × (number_named new row ≡ Some number)
named_row new None number is = absurd (none-some number is)
named_row new (Some row) number is = (row, refl, is)

pub named_number : (old new : SettingsValue) (domain number : ℕ) → number_in old new domain ≡ Some number → (domain == no_domain) ≡ false → Named old new domain number
named_number old new domain number is some =
    let named = named_row new (slice_get old.domains domain) number
    (sym (cond-false (domain == no_domain) (Some no_domain) (option_and_then (number_named new) (slice_get old.domains domain)) some) ∙ is) in
    let at = position_found (λ (other : DomainRow). bytes_eq named.0.name other.name) new.domains number named.2 in
    record { row = named.0; there = named.1; below = at.0; found = at.1 }

pub no_number : (old new : SettingsValue) (domain number : ℕ) → number_in old new domain ≡ Some number → (domain == no_domain) ≡ true → number ≡ no_domain
no_number old new domain number is none =
    sym (same_Some no_domain number (sym (cond-true (domain == no_domain) (Some no_domain) (option_and_then (number_named new) (slice_get old.domains domain)) none) ∙ is))

equal_names : (one other : List ℕ) → bytes_eq one other ≡ true → one ≡ other
equal_names one other is = (bytes_eq-Decides one other).0 is

same_name_twice : (one other third : List ℕ) → bytes_eq one third ≡ true → bytes_eq other third ≡ true → bytes_eq one other ≡ true
same_name_twice one other third is also = subst (λ name. bytes_eq one name ≡ true) (equal_names one third is ∙ sym (equal_names other third also) ∙ refl) (itself one)
  where
    itself : (name : List ℕ) → bytes_eq name name ≡ true
    itself name = (bytes_eq-Decides name name).1 refl

pub numbers_alone : (old new : SettingsValue) (domain number : ℕ) → IsSettings old → IsSettings new → number_in old new domain ≡ Some number → IsAlone old new domain number
numbers_alone old new domain number valid valid_new known other also =
    elim (cases_Bool (domain == no_domain)) [
      | inl none ↦ elim (cases_Bool (other == no_domain)) [
        | inl none_too ↦ eqb-true other no_domain none_too ∙ sym (eqb-true domain no_domain none)
        | inr some ↦
            let named = named_number old new other number also some in
            let below = named.below in
            let few = valid_new.few in
            let is = no_number old new domain number known none in
            absurd (omega (arith, below, few, is))
      ]
      | inr there ↦ elim (cases_Bool (other == no_domain)) [
        | inl none ↦
            let named = named_number old new domain number known there in
            let below = named.below in
            let few = valid_new.few in
            let is = no_number old new other number also none in
            absurd (omega (arith, below, few, is))
        | inr some ↦
            let one = named_number old new domain number known there in
            let two = named_number old new other number also some in
            let same = same_Some one.found.item two.found.item (sym one.found.there ∙ two.found.there) in
            one_place
            (λ (row : DomainRow). bytes_eq two.row.name row.name)
            old.domains
            other
            domain
            two.row
            one.row
            (valid.domain_once two.row.name)
            two.there
            one.there
            ((bytes_eq-Decides two.row.name two.row.name).1 refl)
            (same_name_twice two.row.name one.row.name two.found.item.name two.found.passes (ap (λ (row : DomainRow). bytes_eq one.row.name row.name) (sym same) ∙ one.found.passes))
      ]
    ]
