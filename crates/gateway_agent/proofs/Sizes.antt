-- Numbers in order, and bytes of each size.
use Rattle.std.proofs.Common.{◌≡◌, ℕ, zero, suc, ◌+◌, ◌<◌, ◌≤◌, List, [], ◌∷◌, ◌++◌, length, take, drop, get_or, set, map, refl, sym, ap, ◌∙◌, arith}
use Rattle.std.specs.List.{range_with_len}
use Rattle.std.proofs.lemmas.List.{length-map, set-set}
use Rattle.std.proofs.lemmas.List.FromFn.{length-range_with_len, get_or-range_with_len}
use Rattle.gateway_agent.specs.Stores.{AreReplies}

pub range_more : (a n : ℕ) → range_with_len a (n + 1) ≡ range_with_len a n ++ (a + n) ∷ []
range_more a n = ap (range_with_len a) (omega_one n) ∙ by_size a n
  where
    omega_one : (n : ℕ) → n + 1 ≡ suc n
    omega_one n = omega arith

    by_size : (a n : ℕ) → range_with_len a (suc n) ≡ range_with_len a n ++ (a + n) ∷ []
    by_size a zero = ap (λ (k : ℕ). k ∷ []) (omega arith)
    by_size a (suc n) = ap (λ ns. a ∷ ns) (by_size (a + 1) n ∙ ap (λ (k : ℕ). range_with_len (a + 1) n ++ k ∷ []) (omega arith))

map_more : (xs : List (List ℕ)) (x : List ℕ) → map length (xs ++ x ∷ []) ≡ map length xs ++ length x ∷ []
map_more [] x = refl
map_more (y ∷ xs) x = ap (λ ns. length y ∷ ns) (map_more xs x)

pub sizes_more : (xs : List (List ℕ)) (n : ℕ) (x : List ℕ) → map length xs ≡ range_with_len 8 n → length x ≡ 8 + n → map length (xs ++ x ∷ []) ≡ range_with_len 8 (n + 1)
sizes_more xs n x are is = map_more xs x ∙ ap (λ ns. ns ++ length x ∷ []) are ∙ ap (λ (k : ℕ). range_with_len 8 n ++ k ∷ []) is ∙ sym (range_more 8 n)

at_map : (xs : List (List ℕ)) (n : ℕ) → n < length xs → get_or (map length xs) n 0 ≡ length (get_or xs n [])
at_map [] n less = absurd (omega (arith, less))
at_map (x ∷ xs) zero less = refl
at_map (x ∷ xs) (suc n) less = at_map xs n (omega (arith, less))

pub many_replies : (xs : List (List ℕ)) → AreReplies xs → length xs ≡ 9
many_replies xs are = sym (length-map xs length) ∙ ap length are ∙ length-range_with_len 8 9

pub reply_size : (xs : List (List ℕ)) (n : ℕ) → AreReplies xs → n < 9 → length (get_or xs n []) ≡ 8 + n
reply_size xs n are less =
    let many = many_replies xs are in
    sym (at_map xs n (omega (arith, many, less))) ∙ ap (λ ns. get_or ns n 0) are ∙ get_or-range_with_len 8 9 n 0 less

pub set_sizes : (xs : List (List ℕ)) (n : ℕ) (x : List ℕ) → n < length xs → length x ≡ length (get_or xs n []) → map length (set xs n x) ≡ map length xs
set_sizes [] n x less is = absurd (omega (arith, less))
set_sizes (y ∷ xs) zero x less is = ap (λ (k : ℕ). k ∷ map length xs) is
set_sizes (y ∷ xs) (suc n) x less is = ap (λ ns. length y ∷ ns) (set_sizes xs n x (omega (arith, less)) is)

-- ---- a part of the numbers

range_front : (a m n : ℕ) → m ≤ n → take m (range_with_len a n) ≡ range_with_len a m
range_front a zero n fits = refl
range_front a (suc m) zero fits = absurd (omega (arith, fits))
range_front a (suc m) (suc n) fits = ap (λ ns. a ∷ ns) (range_front (a + 1) m n (omega (arith, fits)))

range_behind : (a k m n : ℕ) → k + m ≤ n → take m (drop k (range_with_len a n)) ≡ range_with_len (a + k) m
range_behind a zero m n fits =
    let same : a ≡ a + 0 = omega arith in
    range_front a m n (omega (arith, fits)) ∙ ap (λ (b : ℕ). range_with_len b m) same
range_behind a (suc k) m zero fits = absurd (omega (arith, fits))
range_behind a (suc k) m (suc n) fits =
    let same : a + 1 + k ≡ a + suc k = omega arith in
    range_behind (a + 1) k m n (omega (arith, fits)) ∙ ap (λ (b : ℕ). range_with_len b m) same

pub range_part : (k m n : ℕ) → k + m ≤ n → take m (drop k (range_with_len 0 n)) ≡ range_with_len k m
range_part k m n fits =
    let same : 0 + k ≡ k = omega arith in
    range_behind 0 k m n fits ∙ ap (λ (b : ℕ). range_with_len b m) same

-- ---- a reply is taken out, and another of its size put back

pub put_back : (xs : List (List ℕ)) (n : ℕ) (gone x : List ℕ) → AreReplies xs → n < 9 → length x ≡ 8 + n → AreReplies (set (set xs n gone) n x)
put_back xs n gone x are less size =
    let many = many_replies xs are in
    ap (map length) (set-set xs n gone x) ∙ set_sizes xs n x (omega (arith, many, less)) (size ∙ sym (reply_size xs n are less)) ∙ are
