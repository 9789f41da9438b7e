-- The one at a place of a list, and the first that passes a test.
use Rattle.std.proofs.Common.{◌≡◌, ℕ, zero, suc, ◌<◌, ◌+◌, Bool, true, false, cond, List, [], ◌∷◌, ◌++◌, length, get_or, set, Option, Some, None, refl, sym, ap, ◌∙◌, arith}
use Rattle.std.specs.Prelude.{nat_lt, not, position, slice_get}
use Rattle.std.specs.List.{find, remove, position_or_len, list_any}
use Rattle.std.proofs.lemmas.Bool.{cond-true, cond-false, ltb-true, lt-ltb, cond_both, or_from}
use Rattle.coap_exchange.specs.Firsts.{replace_at, replace_first}

-- ---- at a place

pub there_is : {A : Type 0} (xs : List A) (i : ℕ) (x : A) → i < length xs → x ≡ get_or xs i x → slice_get xs i ≡ Some x
there_is [] i x less is = absurd (omega (arith, less))
there_is (y ∷ xs) zero x less is = ap Some (sym is)
there_is (y ∷ xs) (suc i) x less is = there_is xs i x (omega (arith, less)) is

pub one_there : {A : Type 0} (x y : A) → Some x ≡ Some y → x ≡ y
one_there x y same = cc

pub set_at : {A : Type 0} (becomes : A → List A) (xs : List A) (i : ℕ) (x y : A) → slice_get xs i ≡ Some x → becomes x ≡ y ∷ []
    → set xs i y ≡ replace_at i becomes xs
set_at becomes [] i x y there same = cc there
set_at becomes (z ∷ xs) zero x y there same =
    let own : z ≡ x = one_there z x there in
    sym (ap (λ w. becomes w ++ xs) own ∙ ap (λ ys. ys ++ xs) same)
set_at becomes (z ∷ xs) (suc i) x y there same = ap (λ ys. z ∷ ys) (set_at becomes xs i x y there same)

pub remove_at : {A : Type 0} (becomes : A → List A) (xs : List A) (i : ℕ) (x : A) → slice_get xs i ≡ Some x → becomes x ≡ []
    → remove xs i ≡ replace_at i becomes xs
remove_at becomes [] i x there same = cc there
remove_at becomes (z ∷ xs) zero x there same =
    let own : z ≡ x = one_there z x there in
    sym (ap (λ w. becomes w ++ xs) own ∙ ap (λ ys. ys ++ xs) same)
remove_at becomes (z ∷ xs) (suc i) x there same = ap (λ ys. z ∷ ys) (remove_at becomes xs i x there same)

-- after the write of one, it stands there
pub set_there : {A : Type 0} (xs : List A) (i : ℕ) (y : A) → i < length xs → slice_get (set xs i y) i ≡ Some y
set_there [] i y less = absurd (omega (arith, less))
set_there (x ∷ xs) zero y less = refl
set_there (x ∷ xs) (suc i) y less = set_there xs i y (omega (arith, less))

-- ---- the first that passes

-- before place i none passes
abbrev pub NoneBefore : {A : Type 0} → (A → Bool) → List A → ℕ → A → Type 0
NoneBefore test xs i d = (k : ℕ) → k < i → test (get_or xs k d) ≡ false

later : {A : Type 0} (test : A → Bool) (x : A) (xs : List A) (i : ℕ) (d : A) → NoneBefore test (x ∷ xs) (suc i) d → NoneBefore test xs i d
later test x xs i d before k less = before (suc k) (omega (arith, less))

pub first_replaced : {A : Type 0} (test : A → Bool) (becomes : A → List A) (xs : List A) (i : ℕ) (d : A) → i < length xs → test (get_or xs i d) ≡ true
    → NoneBefore test xs i d → replace_at i becomes xs ≡ replace_first test becomes xs
first_replaced test becomes [] i d less is before = absurd (omega (arith, less))
first_replaced test becomes (x ∷ xs) zero d less is before =
    sym (cond-true (test x) (becomes x ++ xs) (x ∷ replace_first test becomes xs) is)
first_replaced test becomes (x ∷ xs) (suc i) d less is before =
    ap (λ ys. x ∷ ys) (first_replaced test becomes xs i d (omega (arith, less)) is (later test x xs i d before))
    ∙ sym (cond-false (test x) (becomes x ++ xs) (x ∷ replace_first test becomes xs) (before zero (omega arith)))

pub first_found : {A : Type 0} (test : A → Bool) (xs : List A) (i : ℕ) (d : A) → i < length xs → test (get_or xs i d) ≡ true → NoneBefore test xs i d
    → find test xs ≡ slice_get xs i
first_found test [] i d less is before = absurd (omega (arith, less))
first_found test (x ∷ xs) zero d less is before = cond-true (test x) (Some x) (find test xs) is
first_found test (x ∷ xs) (suc i) d less is before =
    cond-false (test x) (Some x) (find test xs) (before zero (omega arith))
    ∙ first_found test xs i d (omega (arith, less)) is (later test x xs i d before)

-- ---- where there is none

-- none passes
abbrev pub NonePasses : {A : Type 0} → (A → Bool) → List A → Type 0
NonePasses test [] = Unit {0}
NonePasses test (x ∷ xs) = (test x ≡ false) × NonePasses test xs

by_first : (b : Bool) (n len : ℕ) → cond (nat_lt (cond (not b) (1 + n) 0) (suc len)) (Some (cond (not b) (1 + n) 0)) None ≡ None
    → (b ≡ false) × (cond (nat_lt n len) (Some n) None ≡ None)
by_first true n len none =
    let there = cond-true {A = Option ℕ} (nat_lt 0 (suc len)) (Some 0) None (lt-ltb 0 (suc len) (omega arith)) in
    cc (none, there)
by_first false n len none = (
  refl,
  cond_both
      (nat_lt n len)
      (Some n)
      None
      (λ o. o ≡ None)
      (λ is.
      let less = ltb-true n len is in
      let there = cond-true {A = Option ℕ} (nat_lt (1 + n) (suc len)) (Some (1 + n)) None (lt-ltb (1 + n) (suc len) (omega (arith, less))) in
      cc (none, there))
      (λ out. refl),
)

-- what `position` says where it finds none
pub none_passes : {A : Type 0} (test : A → Bool) (xs : List A) → position test xs ≡ None → NonePasses test xs
none_passes test [] none = record {}
none_passes test (x ∷ xs) none =
    let both = by_first (test x) (position_or_len test xs) (length xs) none in
    (both.0, none_passes test xs both.1)

pub replaced_none : {A : Type 0} (test : A → Bool) (becomes : A → List A) (xs : List A) → NonePasses test xs → replace_first test becomes xs ≡ xs
replaced_none test becomes [] none = refl
replaced_none test becomes (x ∷ xs) none =
    cond-false (test x) (becomes x ++ xs) (x ∷ replace_first test becomes xs) none.0
    ∙ ap (λ ys. x ∷ ys) (replaced_none test becomes xs none.1)

pub found_none : {A : Type 0} (test : A → Bool) (xs : List A) → NonePasses test xs → find test xs ≡ None
found_none test [] none = refl
found_none test (x ∷ xs) none = cond-false (test x) (Some x) (find test xs) none.0 ∙ found_none test xs none.1

pub none_any : {A : Type 0} (test : A → Bool) (xs : List A) → NonePasses test xs → list_any test xs ≡ false
none_any test [] none = refl
none_any test (x ∷ xs) none = or_from (test x) (list_any test xs) none.0 (none_any test xs none.1)
