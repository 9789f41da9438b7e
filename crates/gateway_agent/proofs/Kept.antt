-- What a compaction keeps of the exchanges of a store: a part at their end.
use Rattle.std.proofs.Common.{◌≡◌, ℕ, suc, ◌+◌, ◌<◌, ◌≤◌, Bool, true, false, List, [], ◌∷◌, length, drop, refl, sym, ap, ◌∙◌, arith}
use Rattle.std.specs.Prelude.{◌-◌, ◌==◌, ◌||◌, filter}
use Rattle.std.proofs.lemmas.Bool.{le-leb, eq-eqb, ne_eqb, cond-true, cond-false, or_left, or_right, or_from}
use Rattle.dots_gateway.specs.declared.exchange.Exchange.{Exchange}
use Rattle.gateway_agent.specs.Exchanges.{IsStore, is_young, young_at, number_or, last_number, kept_at}
use Rattle.gateway_agent.specs.Crashes.{AreAlike}
use Rattle.gateway_agent.proofs.Orders.{AreOrdered, ordered, number_above, number_dropped}
use Rattle.gateway_agent.proofs.Young.{is_more, is_same, young_time, all_young, are_last}

-- the young ones, and the one with this number
abbrev kept_by : ℕ → ℕ → List Exchange → List Exchange
kept_by now number xs = filter (λ (x : Exchange). is_young now x || (x.number == number)) xs

it_stays : (now number : ℕ) (x : Exchange) (xs : List Exchange) → (is_young now x || (x.number == number)) ≡ true → kept_by now number (x ∷ xs) ≡ x ∷ kept_by now number xs
it_stays now number x xs is = cond-true (is_young now x || (x.number == number)) (x ∷ kept_by now number xs) (kept_by now number xs) is

it_goes : (now number : ℕ) (x : Exchange) (xs : List Exchange) → is_young now x ≡ false → (x.number ≡ number → ⊥) → kept_by now number (x ∷ xs) ≡ kept_by now number xs
it_goes now number x xs old other =
    cond-false (is_young now x || (x.number == number)) (x ∷ kept_by now number xs) (kept_by now number xs)
    (or_from (is_young now x) (x.number == number) old (ne_eqb x.number number other))

-- the young ones of what is kept are the young ones
young_kept : (now number : ℕ) (xs : List Exchange) → young_at now (kept_by now number xs) ≡ young_at now xs
young_kept now number [] = refl
young_kept now number (x ∷ xs) = by_first (young_kept now number xs) (is_young now x) (x.number == number) refl refl
  where
    by_first : young_at now (kept_by now number xs) ≡ young_at now xs → (b c : Bool) → is_young now x ≡ b → (x.number == number) ≡ c → young_at now (kept_by now number (x ∷ xs)) ≡ young_at now (x ∷ xs)
    by_first rest true c is same =
        ap (young_at now) (it_stays now number x xs (or_left (is_young now x) (x.number == number) is))
        ∙ is_more now x (kept_by now number xs) is
        ∙ ap (λ l. x ∷ l) rest
        ∙ sym (is_more now x xs is)
    by_first rest false true is same =
        ap (young_at now) (it_stays now number x xs (or_right (is_young now x) (x.number == number) same))
        ∙ is_same now x (kept_by now number xs) is
        ∙ rest
        ∙ sym (is_same now x xs is)
    by_first rest false false is same =
        ap (young_at now) (cond-false (is_young now x || (x.number == number)) (x ∷ kept_by now number xs) (kept_by now number xs) (or_from (is_young now x) (x.number == number) is same))
        ∙ rest
        ∙ sym (is_same now x xs is)

kept_behind : (now number n t : ℕ) (xs : List Exchange) → AreOrdered n t xs → now ≤ t + 246 → kept_by now number xs ≡ xs
kept_behind now number n t [] order young = refl
kept_behind now number n t (x ∷ xs) order young =
    let later = order.1 in
    let is = young_first now n t x xs order young in
    it_stays now number x xs (or_left (is_young now x) (x.number == number) is)
    ∙ ap (λ ys. x ∷ ys) (kept_behind now number x.number x.time xs order.2 (omega (arith, young, later)))
  where
    young_first : (now n t : ℕ) (x : Exchange) (xs : List Exchange) → AreOrdered n t (x ∷ xs) → now ≤ t + 246 → is_young now x ≡ true
    young_first now n t x xs order young = let later = order.1 in le-leb now (x.time + 246) (omega (arith, young, later))

-- where one is young, so is the last, and the young ones are kept alone
kept_some : (now n t : ℕ) (xs : List Exchange) → AreOrdered n t xs → 0 < length (young_at now xs) → kept_by now (number_or n xs) xs ≡ young_at now xs
kept_some now n t [] order some = refl
kept_some now n t (x ∷ xs) order some = by_first (λ more. kept_some now x.number x.time xs order.2 more) (is_young now x) refl
  where
    older : (xs : List Exchange) → AreOrdered x.number x.time xs → is_young now x ≡ false → 0 < length (young_at now xs)
        → kept_by now (number_or x.number xs) xs ≡ young_at now xs → kept_by now (number_or x.number xs) (x ∷ xs) ≡ young_at now (x ∷ xs)
    older [] order is some rest = absurd (omega (arith, some))
    older (y ∷ ys) order is some rest =
        let above = number_above x.number x.time y ys order in
        it_goes now (number_or x.number (y ∷ ys)) x (y ∷ ys) is (λ same. absurd (omega (arith, above, same))) ∙ rest ∙ sym (is_same now x (y ∷ ys) is)

    by_first : (0 < length (young_at now xs) → kept_by now (number_or x.number xs) xs ≡ young_at now xs) → (b : Bool) → is_young now x ≡ b
        → kept_by now (number_or n (x ∷ xs)) (x ∷ xs) ≡ young_at now (x ∷ xs)
    by_first rest true is =
        it_stays now (number_or x.number xs) x xs (or_left (is_young now x) (x.number == number_or x.number xs) is)
        ∙ ap (λ l. x ∷ l) (kept_behind now (number_or x.number xs) x.number x.time xs order.2 (young_time now x is))
        ∙ sym (all_young now n t x xs order is)
    by_first rest false is =
        let same = ap length (is_same now x xs is) in
        let more : 0 < length (young_at now xs) = omega (arith, some, same) in
        older xs order.2 is more (rest more)

-- where none is young, the last is kept alone
kept_none : (now n t : ℕ) (x : Exchange) (xs : List Exchange) → AreOrdered n t (x ∷ xs) → length (young_at now (x ∷ xs)) ≡ 0
    → kept_by now (number_or n (x ∷ xs)) (x ∷ xs) ≡ drop (length xs) (x ∷ xs)
kept_none now n t x [] order none =
    it_stays now x.number x [] (or_right (is_young now x) (x.number == x.number) (eq-eqb x.number x.number refl))
kept_none now n t x (y ∷ xs) order none = by_first (λ less. kept_none now x.number x.time y xs order.2 less) (is_young now x) refl
  where
    by_first : (length (young_at now (y ∷ xs)) ≡ 0 → kept_by now (number_or x.number (y ∷ xs)) (y ∷ xs) ≡ drop (length xs) (y ∷ xs)) → (b : Bool) → is_young now x ≡ b → kept_by now (number_or n (x ∷ y ∷ xs)) (x ∷ y ∷ xs) ≡ drop (suc (length xs)) (x ∷ y ∷ xs)
    by_first rest true is = let more = ap length (is_more now x (y ∷ xs) is) in absurd (omega (arith, more, none))
    by_first rest false is =
        let above = number_above x.number x.time y xs order.2 in
        let same = ap length (is_same now x (y ∷ xs) is) in
        it_goes now (number_or x.number (y ∷ xs)) x (y ∷ xs) is (λ equal. absurd (omega (arith, above, equal)))
        ∙ rest (omega (arith, same, none))

-- ---- of a store

pub where_some : (most now : ℕ) (xs : List Exchange) → IsStore most xs → 0 < length (young_at now xs) → drop (length xs - length (young_at now xs)) xs ≡ kept_at now xs
where_some most now xs store some =
    sym (are_last now 0 0 xs (ordered most xs store)) ∙ sym (kept_some now 0 0 xs (ordered most xs store) some)

pub where_none : (most now : ℕ) (xs : List Exchange) → IsStore most xs → 0 < length xs → length (young_at now xs) ≡ 0 → drop (length xs - 1) xs ≡ kept_at now xs
where_none most now [] store some none = absurd (omega (arith, some))
where_none most now (x ∷ xs) store some none =
    let at : suc (length xs) - 1 ≡ length xs = omega arith in
    ap (λ (k : ℕ). drop k (x ∷ xs)) at ∙ sym (kept_none now 0 0 x xs (ordered most (x ∷ xs) store) none)

-- what is left from a place on, where it is what is kept, is as young and has the same last number
pub kept_alike : (now k : ℕ) (xs : List Exchange) → k < length xs → drop k xs ≡ kept_at now xs → AreAlike now (kept_at now xs) xs
kept_alike now k xs less is = record {
  young = young_kept now (last_number xs) xs;
  number = ap last_number (sym is) ∙ number_dropped 0 0 k xs less;
}
