-- Where a slot stands in a rising list.
use Rattle.std.proofs.Common.{◌≡◌, ℕ, zero, suc, ◌<◌, ◌≤◌, List, [], ◌∷◌, length, get_or, Some, None, sym, ap, ◌∙◌, arith}
use Rattle.std.specs.Prelude.{nat_lt, ◌==◌, unwrap_or}
use Rattle.std.specs.List.{position_or_len}
use Rattle.std.proofs.lemmas.Bool.{cond-true, cond-false, lt-ltb, le-ltb, eq-eqb, ne_eqb}
use Rattle.std.proofs.lemmas.List.Sums.{position_or_len_is}
use Rattle.dots_history.specs.Slots.{Rises, number_in}

tail : (x : ℕ) (xs : List ℕ) → Rises (x ∷ xs) → Rises xs
tail x [] rises = record {}
tail x (y ∷ ys) rises = rises.1

head_below : (x : ℕ) (xs : List ℕ) → Rises (x ∷ xs) → (j : ℕ) → j < length xs → x < get_or xs j 0
head_below x [] rises j less = absurd (omega (arith, less))
head_below x (y ∷ ys) rises zero less = rises.0
head_below x (y ∷ ys) rises (suc j) less =
    let first = rises.0 in
    let later = head_below y ys rises.1 j (omega (arith, less)) in
    omega (arith, first, later)

pub rises_at : (xs : List ℕ) → Rises xs → (i j : ℕ) → i < j → j < length xs → get_or xs i 0 < get_or xs j 0
rises_at [] rises i j less within = absurd (omega (arith, within))
rises_at (x ∷ xs) rises zero zero less within = absurd (omega (arith, less))
rises_at (x ∷ xs) rises zero (suc j) less within = head_below x xs rises j (omega (arith, within))
rises_at (x ∷ xs) rises (suc i) zero less within = absurd (omega (arith, less))
rises_at (x ∷ xs) rises (suc i) (suc j) less within = rises_at xs (tail x xs rises) i j (omega (arith, less)) (omega (arith, within))

pub rises_not_down : (xs : List ℕ) → Rises xs → (i j : ℕ) → i ≤ j → j < length xs → get_or xs i 0 ≤ get_or xs j 0
rises_not_down [] rises i j less within = absurd (omega (arith, within))
rises_not_down (x ∷ xs) rises zero zero less within = omega arith
rises_not_down (x ∷ xs) rises zero (suc j) less within = let more = head_below x xs rises j (omega (arith, within)) in omega (arith, more)
rises_not_down (x ∷ xs) rises (suc i) zero less within = absurd (omega (arith, less))
rises_not_down (x ∷ xs) rises (suc i) (suc j) less within = rises_not_down xs (tail x xs rises) i j (omega (arith, less)) (omega (arith, within))

-- a place is no greater than the slot that stands there
pub place_below : (xs : List ℕ) → Rises xs → (i : ℕ) → i < length xs → i ≤ get_or xs i 0
place_below xs rises zero within = omega arith
place_below xs rises (suc i) within =
    let below = place_below xs rises i (omega (arith, within)) in
    let more = rises_at xs rises i (suc i) (omega arith) within in
    omega (arith, below, more)

pub number_there : (xs : List ℕ) (slot i : ℕ) → Rises xs → i < length xs → get_or xs i 0 ≡ slot → i ≡ number_in xs slot
number_there xs slot i rises within is =
    let at : position_or_len (λ other. other == slot) xs ≡ i =
    position_or_len_is
    (λ other. other == slot)
    xs
    i
    0
    (omega (arith, within))
    (λ k less. ne_eqb (get_or xs k 0) slot (λ same. let more = rises_at xs rises k i less within in omega (arith, more, same, is)))
    (λ inside. eq-eqb (get_or xs i 0) slot is)
    in
    sym
    (ap
    (λ o. unwrap_or o slot)
    (cond-true
    (nat_lt (position_or_len (λ other. other == slot) xs) (length xs))
    (Some (position_or_len (λ other. other == slot) xs))
    None
    (lt-ltb (position_or_len (λ other. other == slot) xs) (length xs) (omega (arith, at, within))))
    ∙ at)

pub number_absent : (xs : List ℕ) (slot : ℕ) → ((k : ℕ) → k < length xs → get_or xs k 0 ≡ slot → ⊥) → slot ≡ number_in xs slot
number_absent xs slot absent =
    let at : position_or_len (λ other. other == slot) xs ≡ length xs =
    position_or_len_is
    (λ other. other == slot)
    xs
    (length xs)
    0
    (omega arith)
    (λ k less. ne_eqb (get_or xs k 0) slot (absent k less))
    (λ inside. absurd (omega (arith, inside)))
    in
    sym
    (ap
    (λ o. unwrap_or o slot)
    (cond-false
    (nat_lt (position_or_len (λ other. other == slot) xs) (length xs))
    (Some (position_or_len (λ other. other == slot) xs))
    None
    (le-ltb (position_or_len (λ other. other == slot) xs) (length xs) (omega (arith, at)))))
