-- The young exchanges of a store are its last ones.
use Rattle.std.proofs.Common.{◌≡◌, ℕ, suc, ◌+◌, ◌<◌, ◌≤◌, Bool, true, false, List, [], ◌∷◌, ◌++◌, length, take, drop, get_or, inl, inr, refl, sym, ap, ◌∙◌, take-append-drop, arith}
use Rattle.std.specs.Prelude.{◌^◌, ◌-◌, ◌⊎◌, not, nat_lt}
use Rattle.std.proofs.lemmas.Bool.{leb-true, le-leb, lt-ltb, le-ltb, cond-true, cond-false, cases_lt, not_from_true, not_from_false}
use Rattle.std.proofs.lemmas.List.{length-drop, take_all}
use Rattle.dots_gateway.specs.declared.exchange.Exchange.{Exchange}
use Rattle.dots_gateway.specs.Exchanges.{AreRestorable}
use Rattle.gateway_agent.specs.Exchanges.{IsStore, is_young, young_at, last_number, last_time, next_number}
use Rattle.gateway_agent.proofs.Orders.{AreOrdered, ordered, joined, number_more, time_more, restorable}

pub is_more : (now : ℕ) (x : Exchange) (xs : List Exchange) → is_young now x ≡ true → young_at now (x ∷ xs) ≡ x ∷ young_at now xs
is_more now x xs is = cond-true (is_young now x) (x ∷ young_at now xs) (young_at now xs) is

pub is_same : (now : ℕ) (x : Exchange) (xs : List Exchange) → is_young now x ≡ false → young_at now (x ∷ xs) ≡ young_at now xs
is_same now x xs is = cond-false (is_young now x) (x ∷ young_at now xs) (young_at now xs) is

pub few : (now : ℕ) (xs : List Exchange) → length (young_at now xs) ≤ length xs
few now [] = omega arith
few now (x ∷ xs) = by_first (few now xs) (is_young now x) refl
  where
    by_first : length (young_at now xs) ≤ length xs → (b : Bool) → is_young now x ≡ b → length (young_at now (x ∷ xs)) ≤ suc (length xs)
    by_first rest true is = let all = ap length (is_more now x xs is) in omega (arith, rest, all)
    by_first rest false is = let all = ap length (is_same now x xs is) in omega (arith, rest, all)

-- what comes behind a time that is young is young
pub young_behind : (now n t : ℕ) (xs : List Exchange) → AreOrdered n t xs → now ≤ t + 246 → young_at now xs ≡ xs
young_behind now n t [] order young = refl
young_behind now n t (x ∷ xs) order young =
    let later = order.1 in
    let is = le-leb now (x.time + 246) (omega (arith, young, later)) in
    is_more now x xs is ∙ ap (λ ys. x ∷ ys) (young_behind now x.number x.time xs order.2 (omega (arith, young, later)))

pub young_time : (now : ℕ) (x : Exchange) → is_young now x ≡ true → now ≤ x.time + 246
young_time now x is = leb-true now (x.time + 246) is

pub all_young : (now n t : ℕ) (x : Exchange) (xs : List Exchange) → AreOrdered n t (x ∷ xs) → is_young now x ≡ true → young_at now (x ∷ xs) ≡ x ∷ xs
all_young now n t x xs order is = is_more now x xs is ∙ ap (λ ys. x ∷ ys) (young_behind now x.number x.time xs order.2 (young_time now x is))

pub are_last : (now n t : ℕ) (xs : List Exchange) → AreOrdered n t xs → young_at now xs ≡ drop (length xs - length (young_at now xs)) xs
are_last now n t [] order = refl
are_last now n t (x ∷ xs) order = by_first (are_last now x.number x.time xs order.2) (is_young now x) refl
  where
    by_first : young_at now xs ≡ drop (length xs - length (young_at now xs)) xs → (b : Bool) → is_young now x ≡ b
        → young_at now (x ∷ xs) ≡ drop (suc (length xs) - length (young_at now (x ∷ xs))) (x ∷ xs)
    by_first later true is =
        let all = all_young now n t x xs order is in
        let long = ap length all in
        let none : suc (length xs) - length (young_at now (x ∷ xs)) ≡ 0 = omega (arith, long) in
        all ∙ sym (ap (λ k. drop k (x ∷ xs)) none)
    by_first later false is =
        let rest = is_same now x xs is in
        let long = ap length rest in
        let less = few now xs in
        let one : suc (length xs) - length (young_at now (x ∷ xs)) ≡ suc (length xs - length (young_at now xs)) = omega (arith, long, less) in
        rest ∙ later ∙ sym (ap (λ k. drop k (x ∷ xs)) one)

pub are_end : (most now : ℕ) (xs : List Exchange) → IsStore most xs → (gone : List Exchange) × (xs ≡ gone ++ young_at now xs)
are_end most now xs store =
    let k = length xs - length (young_at now xs) in
    (take k xs, sym (take-append-drop k xs) ∙ ap (λ l. take k xs ++ l) (sym (are_last now 0 0 xs (ordered most xs store))))

-- whether one is old, so far from the end, says how many are young
pub room_at : (now most n t : ℕ) (xs : List Exchange) (d : Exchange) → AreOrdered n t xs → 0 < most → most ≤ length xs
    → not (is_young now (get_or xs (length xs - most) d)) ≡ nat_lt (length (young_at now xs)) most
room_at now most n t [] d order some fits = absurd (omega (arith, some, fits))
room_at now most n t (y ∷ xs) d order some fits =
    by_size (λ less. room_at now most y.number y.time xs d order.2 some less) (cases_lt most (suc (length xs)))
  where
    at_first : (b : Bool) → is_young now y ≡ b → most ≡ suc (length xs) → not (is_young now y) ≡ nat_lt (length (young_at now (y ∷ xs))) most
    at_first true young size =
        let long = ap length (all_young now n t y xs order young) in
        not_from_true (is_young now y) young ∙ sym (le-ltb (length (young_at now (y ∷ xs))) most (omega (arith, long, size)))
    at_first false young size =
        let long = ap length (is_same now y xs young) in
        let less = few now xs in
        not_from_false (is_young now y) young ∙ sym (lt-ltb (length (young_at now (y ∷ xs))) most (omega (arith, long, size, less)))

    later : (most ≤ length xs → not (is_young now (get_or xs (length xs - most) d)) ≡ nat_lt (length (young_at now xs)) most)
        → (b : Bool) → is_young now y ≡ b → most ≤ length xs
        → not (is_young now (get_or xs (length xs - most) d)) ≡ nat_lt (length (young_at now (y ∷ xs))) most
    later rest_is true young less =
        let all = ap length (all_young now n t y xs order young) in
        let rest = ap length (young_behind now y.number y.time xs order.2 (young_time now y young)) in
        rest_is less
        ∙ le-ltb (length (young_at now xs)) most (omega (arith, rest, less))
        ∙ sym (le-ltb (length (young_at now (y ∷ xs))) most (omega (arith, all, less)))
    later rest_is false young less = rest_is less ∙ ap (λ ys. nat_lt (length ys) most) (sym (is_same now y xs young))

    by_size : (most ≤ length xs → not (is_young now (get_or xs (length xs - most) d)) ≡ nat_lt (length (young_at now xs)) most)
        → (most < suc (length xs)) ⊎ (suc (length xs) ≤ most)
        → not (is_young now (get_or (y ∷ xs) (suc (length xs) - most) d)) ≡ nat_lt (length (young_at now (y ∷ xs))) most
    by_size rest_is (inl less) =
        let at : suc (length xs) - most ≡ suc (length xs - most) = omega (arith, less) in
        ap (λ (i : ℕ). not (is_young now (get_or (y ∷ xs) i d))) at ∙ later rest_is (is_young now y) refl (omega (arith, less))
    by_size rest_is (inr all) =
        let at : suc (length xs) - most ≡ 0 = omega (arith, all) in
        ap (λ (i : ℕ). not (is_young now (get_or (y ∷ xs) i d))) at ∙ at_first (is_young now y) refl (omega (arith, all, fits))

-- later there are no more young ones
fewer : (before now : ℕ) (xs : List Exchange) → before ≤ now → length (young_at now xs) ≤ length (young_at before xs)
fewer before now [] late = omega arith
fewer before now (x ∷ xs) late = by_first (fewer before now xs late) (is_young now x) refl
  where
    more : (b : Bool) → is_young before x ≡ b → length (young_at before xs) ≤ length (young_at before (x ∷ xs))
    more true is = let all = ap length (is_more before x xs is) in omega (arith, all)
    more false is = let all = ap length (is_same before x xs is) in omega (arith, all)

    by_first : length (young_at now xs) ≤ length (young_at before xs) → (b : Bool) → is_young now x ≡ b
        → length (young_at now (x ∷ xs)) ≤ length (young_at before (x ∷ xs))
    by_first rest true is =
        let late_enough = young_time now x is in
        let here = ap length (is_more now x xs is) in
        let there = ap length (is_more before x xs (le-leb before (x.time + 246) (omega (arith, late_enough, late)))) in
        omega (arith, rest, here, there)
    by_first rest false is =
        let here = ap length (is_same now x xs is) in
        let there = more (is_young before x) refl in
        omega (arith, rest, here, there)

-- a list that isn't empty has a last one
pub record Ends (xs : List Exchange) : Type 0 where
  pub before : List Exchange
  pub last : Exchange
  pub cut : xs ≡ before ++ last ∷ []

pub ends : (x : Exchange) (xs : List Exchange) → Ends (x ∷ xs)
ends x [] = record { before = []; last = x; cut = refl }
ends x (y ∷ xs) = let rest = ends y xs in record { before = x ∷ rest.before; last = rest.last; cut = ap (λ l. x ∷ l) rest.cut }

pub few_later : (most now : ℕ) (xs : List Exchange) → IsStore most xs → last_time xs ≤ now → length (young_at now xs) ≤ most
few_later most now [] store late = omega arith
few_later most now (x ∷ xs) store late =
    let end = ends x xs in
    let is = joined most end.before end.last (store end.before end.last [] end.cut) in
    let few_then = is.few in
    let same = ap (λ l. length (young_at end.last.time l)) end.cut in
    let at = ap last_time end.cut ∙ time_more 0 end.before end.last in
    let less = fewer end.last.time now (x ∷ xs) (omega (arith, late, at)) in
    omega (arith, few_then, same, less)

pub number_small : (most : ℕ) (xs : List Exchange) → IsStore most xs → last_number xs < 2 ^ 64 - 1
number_small most [] store = omega arith
number_small most (x ∷ xs) store =
    let end = ends x xs in
    let is = joined most end.before end.last (store end.before end.last [] end.cut) in
    let below = is.below in
    let at = ap last_number end.cut ∙ number_more 0 end.before end.last in
    omega (arith, below, at)

-- the last ones, as many as are young, are the young ones
pub young_part : (most now n : ℕ) (xs : List Exchange) → IsStore most xs → n ≡ length (young_at now xs)
    → take (length xs - (length xs - n)) (drop (length xs - n) xs) ≡ young_at now xs
young_part most now n xs store is =
    take_all (length xs - (length xs - n)) (drop (length xs - n) xs) (omega (arith, length-drop (length xs - n) xs))
    ∙ ap (λ k. drop (length xs - k) xs) is
    ∙ sym (are_last now 0 0 xs (ordered most xs store))

-- and they may wait again
pub young_restorable : (most now : ℕ) (xs : List Exchange) → IsStore most xs → AreRestorable (young_at now xs) (next_number xs)
young_restorable most now xs store =
    let end = are_end most now xs store in
    restorable most xs end.0 (young_at now xs) store end.1
