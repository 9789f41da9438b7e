-- The last so many of a list.
use Rattle.std.proofs.Common.{◌≡◌, ℕ, zero, suc, ◌+◌, ◌-◌, ◌<◌, ◌≤◌, List, [], ◌∷◌, ◌++◌, length, drop, map, length-drop, refl, sym, ap, ◌∙◌, inl, inr, arith}
use Rattle.std.proofs.lemmas.Bool.{cases_lt}
use Rattle.std.proofs.lemmas.List.{drop-append-le, drop-map}
use Rattle.dots_history.specs.Places.{lasts}
use Rattle.dots_history.specs.Tables.{pushed}
use Rattle.dots_history.proofs.Rings.{push_full}

drop_next : {A : Type 0} (k : ℕ) (xs : List A) → drop 1 (drop k xs) ≡ drop (suc k) xs
drop_next zero xs = refl
drop_next (suc k) [] = refl
drop_next (suc k) (x ∷ xs) = drop_next k xs

pub drop_nil : {A : Type 0} (k : ℕ) → drop {A = A} k [] ≡ []
drop_nil zero = refl
drop_nil (suc k) = refl

length_more : {A : Type 0} (x : A) (xs : List A) → length (xs ++ x ∷ []) ≡ length xs + 1
length_more x [] = omega arith
length_more x (y ∷ xs) = let rest = length_more x xs in omega (arith, rest)

pub pushed_lasts : {A : Type 0} (n : ℕ) (x : A) (xs : List A) → pushed n x (lasts n xs) ≡ lasts n (xs ++ x ∷ [])
pushed_lasts n x xs =
    elim (cases_lt n (length xs)) [
      | inl less ↦
          let k = length xs - n in
          let long = length-drop k xs in
          let full : length (drop k xs) ≡ n = omega (arith, long, less) in
          let more = length_more x xs in
          let one_more : suc k ≡ length (xs ++ x ∷ []) - n = omega (arith, more, less) in
          push_full n x (drop k xs) full
          ∙ ap (drop 1) (sym (drop-append-le k xs (x ∷ []) (omega (arith, less))))
          ∙ drop_next k (xs ++ x ∷ [])
          ∙ ap (λ j. drop j (xs ++ x ∷ [])) one_more
      | inr over ↦
          let none : length xs - n ≡ 0 = omega (arith, over) in
          ap (λ j. pushed n x (drop j xs)) none
    ]

length_map : {A B : Type 0} (f : A → B) (xs : List A) → length (map f xs) ≡ length xs
length_map f [] = refl
length_map f (x ∷ xs) = ap suc (length_map f xs)

pub map_lasts : {A B : Type 0} (f : A → B) (n : ℕ) (xs : List A) → map f (lasts n xs) ≡ lasts n (map f xs)
map_lasts f n xs =
    sym (ap (λ k. drop (k - n) (map f xs)) (length_map f xs) ∙ drop-map f (length xs - n) xs)

map_more : {A B : Type 0} (f : A → B) (x : A) (xs : List A) → map f (xs ++ x ∷ []) ≡ map f xs ++ f x ∷ []
map_more f x [] = refl
map_more f x (y ∷ xs) = ap (λ ys. f y ∷ ys) (map_more f x xs)

pub map_pushed : {A B : Type 0} (f : A → B) (n : ℕ) (x : A) (xs : List A) → map f (pushed n x xs) ≡ pushed n (f x) (map f xs)
map_pushed f n x xs = map_lasts f n (xs ++ x ∷ []) ∙ ap (lasts n) (map_more f x xs)
