-- Lists of which some are left out, and lists that are changed one by one.
use Rattle.std.proofs.Common.{◌≡◌, ◌+◌, ◌≤◌, Bool, true, false, cond, not, ◌&&◌, ◌||◌, List, [], ◌∷◌, ◌++◌, map, filter, inl, inr, refl, sym, ap, ◌∙◌, arith}
use Rattle.std.specs.List.{list_any, list_all, flat_map}
use Rattle.std.proofs.lemmas.Bool.{false≢true, true≢false, cond_both, cond-true, and_parts, and_from}
use Rattle.std.proofs.lemmas.List.{map-append}
use Rattle.std.proofs.lemmas.List.Elements.{filter-append}
use Rattle.dots_history.specs.Histories.{tally}
use Rattle.dots_history.proofs.Members.{In}

module _ {A : Type 0} where
  pub filter_by : (p q : A → Bool) → ((x : A) → p x ≡ q x) → (xs : List A) → filter p xs ≡ filter q xs
  filter_by p q same [] = refl
  filter_by p q same (x ∷ xs) =
      ap (λ b. cond b (x ∷ filter p xs) (filter p xs)) (same x) ∙ ap (λ ys. cond (q x) (x ∷ ys) ys) (filter_by p q same xs)

  pub filter_twice : (p q : A → Bool) (xs : List A) → filter p (filter q xs) ≡ filter (λ x. q x && p x) xs
  filter_twice p q [] = refl
  filter_twice p q (x ∷ xs) = by_test (q x) (filter_twice p q xs)
    where
      by_test : (b : Bool) → filter p (filter q xs) ≡ filter (λ y. q y && p y) xs → filter p (cond b (x ∷ filter q xs) (filter q xs))
          ≡ cond (b && p x) (x ∷ filter (λ y. q y && p y) xs) (filter (λ y. q y && p y) xs)
      by_test true rest = ap (λ ys. cond (p x) (x ∷ ys) ys) rest
      by_test false rest = rest

  pub filter_all : (p : A → Bool) → ((x : A) → p x ≡ true) → (xs : List A) → filter p xs ≡ xs
  filter_all p all [] = refl
  filter_all p all (x ∷ xs) = cond-true (p x) (x ∷ filter p xs) (filter p xs) (all x) ∙ ap (λ ys. x ∷ ys) (filter_all p all xs)

  pub map_by : {B : Type 0} (f g : A → B) → ((x : A) → f x ≡ g x) → (xs : List A) → map f xs ≡ map g xs
  map_by f g same [] = refl
  map_by f g same (x ∷ xs) = ap (λ y. y ∷ map f xs) (same x) ∙ ap (λ ys. g x ∷ ys) (map_by f g same xs)

  pub map_twice : {B C : Type 0} (f : B → C) (g : A → B) (xs : List A) → map f (map g xs) ≡ map (λ x. f (g x)) xs
  map_twice f g [] = refl
  map_twice f g (x ∷ xs) = ap (λ ys. f (g x) ∷ ys) (map_twice f g xs)

  pub map_none : (f : A → A) → ((x : A) → f x ≡ x) → (xs : List A) → map f xs ≡ xs
  map_none f same [] = refl
  map_none f same (x ∷ xs) = ap (λ y. y ∷ map f xs) (same x) ∙ ap (λ ys. x ∷ ys) (map_none f same xs)

  -- ---- some of those that are left
  -- what fails for all of them fails where it is asked for more
  pub any_less : (p q : A → Bool) → ((x : A) → p x ≡ true → q x ≡ true) → (xs : List A) → list_any q xs ≡ false → list_any p xs ≡ false
  any_less p q leads [] none = none
  any_less p q leads (x ∷ xs) none = by_tests (p x) (q x) (leads x) none (any_less p q leads xs)
    where
      by_tests : (b c : Bool) → (b ≡ true → c ≡ true) → (c || list_any q xs) ≡ false → (list_any q xs ≡ false → list_any p xs ≡ false) → (b || list_any p xs) ≡ false
      by_tests true true follows out rest = absurd (true≢false out)
      by_tests true false follows out rest = absurd (false≢true (follows refl))
      by_tests false true follows out rest = absurd (true≢false out)
      by_tests false false follows out rest = rest out

  -- two tests that differ only where a third one passes, and it passes for none
  pub any_unless_in : (p q but : A → Bool) (xs : List A) → ((x : A) → In x xs → but x ≡ false → p x ≡ q x) → list_any but xs ≡ false
      → list_any p xs ≡ list_any q xs
  any_unless_in p q but [] same none = refl
  any_unless_in p q but (x ∷ xs) same none =
      by_test (but x) none (same x (inl refl)) (any_unless_in p q but xs (λ y there. same y (inr there)))
    where
      by_test : (b : Bool) → (b || list_any but xs) ≡ false → (b ≡ false → p x ≡ q x) → (list_any but xs ≡ false → list_any p xs ≡ list_any q xs)
          → (p x || list_any p xs) ≡ (q x || list_any q xs)
      by_test true out here rest = absurd (true≢false out)
      by_test false out here rest = ap (λ b. b || list_any p xs) (here refl) ∙ ap (λ b. q x || b) (rest out)

  pub any_by : (p q : A → Bool) → ((x : A) → p x ≡ q x) → (xs : List A) → list_any p xs ≡ list_any q xs
  any_by p q same [] = refl
  any_by p q same (x ∷ xs) = ap (λ b. b || list_any p xs) (same x) ∙ ap (λ b. q x || b) (any_by p q same xs)

  pub any_filter : (test keep : A → Bool) (xs : List A) → list_any test (filter keep xs) ≡ list_any (λ x. keep x && test x) xs
  any_filter test keep [] = refl
  any_filter test keep (x ∷ xs) = by_test (keep x) (any_filter test keep xs)
    where
      by_test : (b : Bool) → list_any test (filter keep xs) ≡ list_any (λ y. keep y && test y) xs → list_any test (cond b (x ∷ filter keep xs) (filter keep xs)) ≡ ((b && test x) || list_any (λ y. keep y && test y) xs)
      by_test true rest = ap (λ b. test x || b) rest
      by_test false rest = rest

  -- where none of those that don't stay passes, those that stay pass as all do
  pub any_left : (stays test : A → Bool) (xs : List A) → list_any (λ x. not (stays x) && test x) xs ≡ false
      → list_any (λ x. stays x && test x) xs ≡ list_any test xs
  any_left stays test [] none = refl
  any_left stays test (x ∷ xs) none = by_tests (stays x) (test x) none (any_left stays test xs)
    where
      by_tests : (s b : Bool) → ((not s && b) || list_any (λ y. not (stays y) && test y) xs) ≡ false
          → (list_any (λ y. not (stays y) && test y) xs ≡ false → list_any (λ y. stays y && test y) xs ≡ list_any test xs)
          → ((s && b) || list_any (λ y. stays y && test y) xs) ≡ (b || list_any test xs)
      by_tests true true out rest = refl
      by_tests true false out rest = rest out
      by_tests false true out rest = absurd (true≢false out)
      by_tests false false out rest = rest out

  none_by_tally : (test goes : A → Bool) (xs : List A) → tally test xs ≤ 0 → list_any (λ x. goes x && test x) xs ≡ false
  none_by_tally test goes [] none = refl
  none_by_tally test goes (x ∷ xs) none = by_test (test x) (goes x) none (none_by_tally test goes xs)
    where
      by_test : (b g : Bool) → cond b 1 0 + tally test xs ≤ 0 → (tally test xs ≤ 0 → list_any (λ y. goes y && test y) xs ≡ false)
          → ((g && b) || list_any (λ y. goes y && test y) xs) ≡ false
      by_test true g few rest = absurd (omega (arith, few))
      by_test false true few rest = rest (omega (arith, few))
      by_test false false few rest = rest (omega (arith, few))

  not_there : (test : A → Bool) (x : A) (xs : List A) → In x xs → test x ≡ true → tally test xs ≤ 0 → ⊥
  not_there test x [] there is none = there
  not_there test x (y ∷ ys) (inl same) is none = by_test (test y) (ap test (sym same) ∙ is) none
    where
      by_test : (b : Bool) → b ≡ true → cond b 1 0 + tally test ys ≤ 0 → ⊥
      by_test true passes few = omega (arith, few)
      by_test false passes few = false≢true passes
  not_there test x (y ∷ ys) (inr more) is none = not_there test x ys more is (by_test (test y) none)
    where
      by_test : (b : Bool) → cond b 1 0 + tally test ys ≤ 0 → tally test ys ≤ 0
      by_test true few = omega (arith, few)
      by_test false few = omega (arith, few)

  -- where one at most passes, and this one does, one that passes goes exactly where this one goes
  pub only_one : (test goes : A → Bool) (x : A) (xs : List A) → In x xs → tally test xs ≤ 1 → test x ≡ true → list_any (λ y. goes y && test y) xs ≡ goes x
  only_one test goes x [] there few is = absurd there
  only_one test goes x (y ∷ ys) (inl same) few is =
      here (test y) (goes y) (ap test (sym same) ∙ is) few ∙ ap goes (sym same)
    where
      here : (b g : Bool) → b ≡ true → cond b 1 0 + tally test ys ≤ 1 → ((g && b) || list_any (λ z. goes z && test z) ys) ≡ g
      here true g passes less =
          ap (λ k. (g && true) || k) (none_by_tally test goes ys (omega (arith, less))) ∙ and_or g
        where
          and_or : (b : Bool) → ((b && true) || false) ≡ b
          and_or true = refl
          and_or false = refl
      here false g passes less = absurd (false≢true passes)
  only_one test goes x (y ∷ ys) (inr more) few is =
      there (test y) (goes y) few (λ less. only_one test goes x ys more less is)
    where
      there : (b g : Bool) → cond b 1 0 + tally test ys ≤ 1 → (tally test ys ≤ 1 → list_any (λ z. goes z && test z) ys ≡ goes x) → ((g && b) || list_any (λ z. goes z && test z) ys) ≡ goes x
      there true g less rest = absurd (not_there test x ys more is (omega (arith, less)))
      there false true less rest = rest (omega (arith, less))
      there false false less rest = rest (omega (arith, less))

  -- ---- what is left of what each has, and what becomes of it
  pub changed_each : {B : Type 0} (has become : A → List B) (f : B → B) (xs : List A) → ((x : A) → In x xs → map f (has x) ≡ become x)
      → map f (flat_map has xs) ≡ flat_map become xs
  changed_each has become f [] each = refl
  changed_each has become f (x ∷ xs) each =
      map-append f (has x) (flat_map has xs)
      ∙ ap (λ ys. ys ++ map f (flat_map has xs)) (each x (inl refl))
      ∙ ap (λ ys. become x ++ ys) (changed_each has become f xs (λ y there. each y (inr there)))

  -- where a test is the same for all that one of them has
  pub left_of_each : {B : Type 0} (has : A → List B) (p : B → Bool) (stays : A → Bool) (xs : List A)
      → ((x : A) → In x xs → filter p (has x) ≡ cond (stays x) (has x) []) → filter p (flat_map has xs) ≡ flat_map has (filter stays xs)
  left_of_each has p stays [] each = refl
  left_of_each has p stays (x ∷ xs) each =
      filter-append p (has x) (flat_map has xs)
      ∙ ap (λ ys. ys ++ filter p (flat_map has xs)) (each x (inl refl))
      ∙ ap (λ ys. cond (stays x) (has x) [] ++ ys) (left_of_each has p stays xs (λ y there. each y (inr there)))
      ∙ by_test (stays x)
    where
      by_test : (b : Bool) → cond b (has x) [] ++ flat_map has (filter stays xs) ≡ flat_map has (cond b (x ∷ filter stays xs) (filter stays xs))
      by_test true = refl
      by_test false = refl

pub all_filter : {A : Type 0} (test keep : A → Bool) (xs : List A) → list_all test xs ≡ true → list_all test (filter keep xs) ≡ true
all_filter test keep [] all = refl
all_filter test keep (x ∷ xs) all =
    let parts = and_parts (test x) (list_all test xs) all in
    cond_both
    (keep x)
    (x ∷ filter keep xs)
    (filter keep xs)
    (λ ys. list_all test ys ≡ true)
    (λ is. and_from (test x) (list_all test (filter keep xs)) parts.0 (all_filter test keep xs parts.1))
    (λ out. all_filter test keep xs parts.1)

pub all_in : {A : Type 0} (test : A → Bool) (x : A) (xs : List A) → list_all test xs ≡ true → In x xs → test x ≡ true
all_in test x [] all there = absurd there
all_in test x (y ∷ ys) all (inl same) = ap test same ∙ (and_parts (test y) (list_all test ys) all).0
all_in test x (y ∷ ys) all (inr more) = all_in test x ys (and_parts (test y) (list_all test ys) all).1 more
