-- How long a list is by how many of it have each key.
use Rattle.std.proofs.Common.{◌≡◌, ℕ, ◌+◌, ◌*◌, ◌≤◌, Bool, true, false, cond, not, ◌&&◌, ◌||◌, List, [], ◌∷◌, length, filter, inl, inr, refl, sym, ap, ◌∙◌, le_trans, arith}
use Rattle.std.specs.List.{list_any, list_all}
use Rattle.std.proofs.lemmas.Bool.{false≢true, cond_both, cases_Bool, and_parts, and_from}
use Rattle.dots_history.specs.Histories.{tally}

abbrev one : Bool → ℕ
one b = cond b 1 0

module _ {A : Type 0} where
  -- of those that fail a test, no more pass another
  pub fewer_left : (keep test : A → Bool) (xs : List A) → tally test (filter keep xs) ≤ tally test xs
  fewer_left keep test [] = omega arith
  fewer_left keep test (x ∷ xs) =
      let rest = fewer_left keep test xs in
      cond_both
      (keep x)
      (x ∷ filter keep xs)
      (filter keep xs)
      (λ ys. tally test ys ≤ one (test x) + tally test xs)
      (λ is. omega (arith, rest))
      (λ out. omega (arith, rest))

  -- those that pass and those that don't
  pub split_length : (test : A → Bool) (xs : List A) → length xs ≡ tally test xs + length (filter (λ x. not (test x)) xs)
  split_length test [] = omega arith
  split_length test (x ∷ xs) = let rest = split_length test xs in by_test (test x) rest
    where
      by_test : (b : Bool) → length xs ≡ tally test xs + length (filter (λ x. not (test x)) xs)
          → length (x ∷ xs) ≡ (one b + tally test xs) + length (cond (not b) (x ∷ filter (λ x. not (test x)) xs) (filter (λ x. not (test x)) xs))
      by_test true same = omega (arith, same)
      by_test false same = omega (arith, same)

  -- where each has a key and no key has more than b, there are at most b for each key
  pub by_keys : {K : Type 0} → (is : K → A → Bool) (b : ℕ) (keys : List K) (xs : List A)
      → list_all (λ x. list_any (λ k. is k x) keys) xs ≡ true
      → ((k : K) → tally (is k) xs ≤ b) → length xs ≤ length keys * b
  by_keys is b [] [] each few = omega arith
  by_keys is b [] (x ∷ xs) each few = absurd (false≢true each)
  by_keys is b (k ∷ keys) xs each few =
      let others = filter (λ x. not (is k x)) xs in
      let split = split_length (is k) xs in
      let own = few k in
      let go = by_keys is b keys others (rest_have is k keys xs each) (λ other. le_trans (fewer_left (λ x. not (is k x)) (is other) xs) (few other)) in
      omega (arith, split, own, go)
    where
      rest_have : {K : Type 0} → (is : K → A → Bool) (k : K) (keys : List K) (ys : List A)
          → list_all (λ x. list_any (λ j. is j x) (k ∷ keys)) ys ≡ true
          → list_all (λ x. list_any (λ j. is j x) keys) (filter (λ x. not (is k x)) ys) ≡ true
      rest_have is k keys [] each = refl
      rest_have is k keys (y ∷ ys) each =
          let parts = and_parts (list_any (λ j. is j y) (k ∷ keys)) (list_all (λ x. list_any (λ j. is j x) (k ∷ keys)) ys) each in
          let go = rest_have is k keys ys parts.1 in
          elim (cases_Bool (is k y)) [
            | inl own ↦
                ap (λ b. list_all (λ x. list_any (λ j. is j x) keys) (cond (not b) (y ∷ filter (λ x. not (is k x)) ys) (filter (λ x. not (is k x)) ys))) own
                ∙ go
            | inr other ↦
                ap (λ b. list_all (λ x. list_any (λ j. is j x) keys) (cond (not b) (y ∷ filter (λ x. not (is k x)) ys) (filter (λ x. not (is k x)) ys))) other
                ∙ and_from
                (list_any (λ j. is j y) keys)
                (list_all (λ x. list_any (λ j. is j x) keys) (filter (λ x. not (is k x)) ys))
                (sym (ap (λ b. b || list_any (λ j. is j y) keys) other) ∙ parts.0)
                go
          ]

  -- those that pass one test, by another
  pub tally_filter : (keep test : A → Bool) (xs : List A) → tally test (filter keep xs) ≡ tally (λ x. keep x && test x) xs
  tally_filter keep test [] = refl
  tally_filter keep test (x ∷ xs) =
      let rest = tally_filter keep test xs in
      cond_both
      (keep x)
      (x ∷ filter keep xs)
      (filter keep xs)
      (λ ys. tally test ys ≡ one (keep x && test x) + tally (λ x. keep x && test x) xs)
      (λ is. ap (λ k. one (test x) + k) rest ∙ ap (λ b. one (b && test x) + tally (λ x. keep x && test x) xs) (sym is))
      (λ out. (let zero_more : tally test (filter keep xs) ≡ 0 + tally (λ x. keep x && test x) xs = omega (arith, rest) in zero_more)
      ∙ ap (λ b. one (b && test x) + tally (λ x. keep x && test x) xs) (sym out))

  -- how many pass
  pub length_filter : (test : A → Bool) (xs : List A) → length (filter test xs) ≡ tally test xs
  length_filter test [] = refl
  length_filter test (x ∷ xs) =
      let rest = length_filter test xs in
      cond_both
      (test x)
      (x ∷ filter test xs)
      (filter test xs)
      (λ ys. length ys ≡ one (test x) + tally test xs)
      (λ is. (let more : length (x ∷ filter test xs) ≡ 1 + tally test xs = omega (arith, rest) in more) ∙ ap (λ b. one b + tally test xs) (sym is))
      (λ out. (let more : length (filter test xs) ≡ 0 + tally test xs = omega (arith, rest) in more) ∙ ap (λ b. one b + tally test xs) (sym out))
