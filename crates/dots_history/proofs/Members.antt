-- What is in a list.
use Rattle.std.proofs.Common.{◌≡◌, ◌⊎◌, Bool, true, List, [], ◌∷◌, ◌++◌, map, inl, inr, sym, ap, ◌∙◌}
use Rattle.std.specs.List.{list_any}
use Rattle.std.proofs.lemmas.Bool.{false≢true, or_left, or_right, or_cases}

abbrev pub In : {A : Type 0} → A → List A → Type 0
In x [] = ⊥
In x (y ∷ ys) = (x ≡ y) ⊎ In x ys

pub in_map : {A B : Type 0} → (f : A → B) (x : A) (xs : List A) → In x xs → In (f x) (map f xs)
in_map f x [] is = is
in_map f x (y ∷ ys) (inl same) = inl (ap f same)
in_map f x (y ∷ ys) (inr more) = inr (in_map f x ys more)

pub in_front : {A : Type 0} → (x : A) (xs ys : List A) → In x xs → In x (xs ++ ys)
in_front x [] ys is = absurd is
in_front x (y ∷ xs) ys (inl same) = inl same
in_front x (y ∷ xs) ys (inr more) = inr (in_front x xs ys more)

pub in_back : {A : Type 0} → (x : A) (xs ys : List A) → In x ys → In x (xs ++ ys)
in_back x [] ys is = is
in_back x (y ∷ xs) ys is = inr (in_back x xs ys is)

-- one in the list passes the test
pub any_of : {A : Type 0} → (test : A → Bool) (x : A) (xs : List A) → In x xs → test x ≡ true → list_any test xs ≡ true
any_of test x [] is passes = absurd is
any_of test x (y ∷ ys) (inl same) passes = or_left (test y) (list_any test ys) (ap test (sym same) ∙ passes)
any_of test x (y ∷ ys) (inr more) passes = or_right (test y) (list_any test ys) (any_of test x ys more passes)

-- and where one passes it, there is one
pub any_has : {A : Type 0} → (test : A → Bool) (xs : List A) → list_any test xs ≡ true → (x : A) × (test x ≡ true)
any_has test [] is = absurd (false≢true is)
any_has test (x ∷ xs) is =
    elim (or_cases (test x) (list_any test xs) is) [
      | inl passes ↦ (x, passes)
      | inr more ↦ any_has test xs more
    ]
