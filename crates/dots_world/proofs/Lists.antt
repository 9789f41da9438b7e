-- What is in lists.
use Rattle.std.proofs.Common.{◌≡◌, ◌⊎◌, inl, inr, ℕ, zero, suc, ◌<◌, ◌^◌, Bool, true, false, cond, List, [], ◌∷◌, ◌++◌, map, filter, flat_map, slice_get, slice_set, find, position, get_or, Contains, Some, refl, sym, ap, ◌∙◌, subst, arith}
use Rattle.std.specs.Int.{w64, to_be_bytes, from_be_bytes}
use Rattle.std.proofs.lemmas.List.Elements.{Contains-append_left, Contains-append_right, Contains-push, Contains-push_cases, Contains-append_cases}
use Rattle.std.proofs.lemmas.List.Quantifiers.{position-Some}
use Rattle.std.proofs.lemmas.Nat.{from_be_bytes-to_be_bytes_8}
use Rattle.std.proofs.lemmas.Option.{none-some, same_Some, slice_get-get_or, slice_get_within, get_or_from_slice_get}

pub not_in_none : {A : Type 0} (x : A) → Contains [] x → ⊥
not_in_none x c = let below = c.1 in omega (arith, below)

pub contains_first : {A : Type 0} (x : A) (xs : List A) → Contains (x ∷ xs) x
contains_first x xs = Contains-append_left (x ∷ []) xs x (Contains-push [] x)

pub contains_more : {A : Type 0} (x : A) (xs : List A) (y : A) → Contains xs y → Contains (x ∷ xs) y
contains_more x xs y c = Contains-append_right (x ∷ []) xs y c

pub contains_cases : {A : Type 0} (x : A) (xs : List A) (y : A) → Contains (x ∷ xs) y → (x ≡ y) ⊎ Contains xs y
contains_cases x xs y c = elim (Contains-append_cases (x ∷ []) xs y c) [
  | inl one ↦ elim (Contains-push_cases [] x y one) [ inl none ↦ absurd (not_in_none y none) | inr is ↦ inl is ]
  | inr more ↦ inr more
]

-- what holds of the last and of all others
pub by_last : {A : Type 0} (P : A → Type 0) (xs : List A) (x : A) → ((y : A) → Contains xs y → P y) → P x → (y : A) → Contains (xs ++ x ∷ []) y → P y
by_last P xs x others one y c = elim (Contains-push_cases xs x y c) [ inl before ↦ others y before | inr is ↦ subst P is one ]

pub by_parts : {A : Type 0} (P : A → Type 0) (xs ys : List A) → ((y : A) → Contains xs y → P y) → ((y : A) → Contains ys y → P y) → (y : A) → Contains (xs ++ ys) y → P y
by_parts P xs ys front back y c = elim (Contains-append_cases xs ys y c) [ inl first ↦ front y first | inr last ↦ back y last ]

pub filtered : {A : Type 0} (p : A → Bool) (xs : List A) (y : A) → Contains (filter p xs) y → Contains xs y
filtered p [] y c = c
filtered {A} p (x ∷ xs) y c = by (p x) c (λ more. contains_more x xs y (filtered p xs y more))
  where
    by : (b : Bool) → Contains (cond b (x ∷ filter p xs) (filter p xs)) y → (Contains (filter p xs) y → Contains (x ∷ xs) y) → Contains (x ∷ xs) y
    by true c rest = elim (contains_cases x (filter p xs) y c) [ inl is ↦ subst (Contains (x ∷ xs)) is (contains_first x xs) | inr more ↦ rest more ]
    by false c rest = rest c

pub mapped : {A B : Type 0} (f : A → B) (xs : List A) (y : B) → Contains (map f xs) y → (x : A) × Contains xs x × (f x ≡ y)
mapped f [] y c = absurd (not_in_none y c)
mapped f (x ∷ xs) y c = elim (contains_cases (f x) (map f xs) y c) [
  | inl is ↦ (x, contains_first x xs, is)
  | inr more ↦ let there = mapped f xs y more in (there.0, contains_more x xs there.0 there.1, there.2)
]

pub gathered : {A B : Type 0} (f : A → List B) (xs : List A) (y : B) → Contains (flat_map f xs) y → (x : A) × Contains xs x × Contains (f x) y
gathered f [] y c = absurd (not_in_none y c)
gathered f (x ∷ xs) y c = elim (Contains-append_cases (f x) (flat_map f xs) y c) [
  | inl here ↦ (x, contains_first x xs, here)
  | inr more ↦ let there = gathered f xs y more in (there.0, contains_more x xs there.0 there.1, there.2)
]

pub got_in : {A : Type 0} (xs : List A) (i : ℕ) (x : A) → slice_get xs i ≡ Some x → Contains xs x
got_in xs i x e = (i, slice_get_within xs i x e, get_or_from_slice_get xs i x x e)

-- at a place that is set is what was set, and at each other one what was there
pub set_cases : {A : Type 0} (xs : List A) (i : ℕ) (y : A) (j : ℕ) (z : A) → slice_get (slice_set xs i y) j ≡ Some z
    → ((j ≡ i) × (y ≡ z)) ⊎ ((j ≡ i → ⊥) × (slice_get xs j ≡ Some z))
set_cases [] i y j z e = absurd (none-some z e)
set_cases (x ∷ xs) zero y zero z e = inl (refl, same_Some y z e)
set_cases (x ∷ xs) zero y (suc j) z e = inr (λ is. omega (arith, is), e)
set_cases (x ∷ xs) (suc i) y zero z e = inr (λ is. omega (arith, is), e)
set_cases (x ∷ xs) (suc i) y (suc j) z e = elim (set_cases xs i y j z e) [ inl at ↦ inl (ap suc at.0, at.1) | inr other ↦ inr (λ is. other.0 (omega (arith, is)), other.1) ]

pub found_in : {A : Type 0} (p : A → Bool) (xs : List A) (x : A) → find p xs ≡ Some x → Contains xs x × (p x ≡ true)
found_in p [] x found = absurd (none-some x found)
found_in {A} p (y ∷ xs) x found = by (p y) refl found (λ is. found_in p xs x is)
  where
    by : (b : Bool) → p y ≡ b → cond b (Some y) (find p xs) ≡ Some x → (find p xs ≡ Some x → Contains xs x × (p x ≡ true)) → Contains (y ∷ xs) x × (p x ≡ true)
    by true pass is rest = let same = same_Some y x is in (subst (Contains (y ∷ xs)) same (contains_first y xs), subst (λ (z : A). p z ≡ true) same pass)
    by false fail is rest = let there = rest is in (contains_more y xs x there.0, there.1)

-- what is at the first place that passes
pub placed : {A : Type 0} (p : A → Bool) (xs : List A) (i : ℕ) (d : A) → position p xs ≡ Some i → (x : A) × (slice_get xs i ≡ Some x) × (p x ≡ true)
placed p xs i d e = let at = position-Some p xs i d e in (get_or xs i d, slice_get-get_or xs i d at.0, at.1)

-- a token of a number is that of no other
pub one_number : (m n : ℕ) → m < 2 ^ 64 → n < 2 ^ 64 → to_be_bytes w64 m ≡ to_be_bytes w64 n → m ≡ n
one_number m n small other same = sym (from_be_bytes-to_be_bytes_8 m small) ∙ ap (from_be_bytes w64) same ∙ from_be_bytes-to_be_bytes_8 n other
