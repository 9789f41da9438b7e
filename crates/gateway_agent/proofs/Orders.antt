-- The exchanges of a store, one behind another.
use Rattle.std.proofs.Common.{◌≡◌, ℕ, zero, suc, ◌+◌, ◌<◌, ◌≤◌, true, List, [], ◌∷◌, ◌++◌, length, take, drop, get_or, inl, inr, refl, sym, ap, subst, ◌∙◌, append_assoc, take-append-drop, arith}
use Rattle.std.specs.Prelude.{◌^◌, ◌-◌, ◌⊎◌, ◌&&◌, nat_le, nat_lt}
use Rattle.std.proofs.lemmas.Bool.{and_parts, and_from, ltb-true, leb-true, lt-ltb, le-leb}
use Rattle.std.proofs.lemmas.List.{length-append}
use Rattle.std.proofs.lemmas.List.Elements.{filter-append}
use Rattle.dots_gateway.specs.declared.exchange.Exchange.{Exchange}
use Rattle.dots_gateway.specs.Exchanges.{AreRising, AreRestorable, time_of}
use Rattle.gateway_agent.specs.Forms.{is_of_request}
use Rattle.gateway_agent.specs.Exchanges.{IsStore, is_young, young_at, number_or, last_number, next_number, last_time, joins}

-- ---- what it is to join

pub record Joined (most : ℕ) (before : List Exchange) (x : Exchange) : Type 0 where
  pub of_request : is_of_request x ≡ true
  pub above : last_number before < x.number
  pub below : x.number < 2 ^ 64 - 1
  pub later : last_time before ≤ x.time
  pub few : length (young_at x.time (before ++ x ∷ [])) ≤ most

pub joined : (most : ℕ) (before : List Exchange) (x : Exchange) → joins most before x ≡ true → Joined most before x
joined most before x is =
    let all = and_parts (is_of_request x) _ is in
    let rest = and_parts (nat_lt (last_number before) x.number && nat_lt x.number (2 ^ 64 - 1)) _ all.1 in
    let numbers = and_parts (nat_lt (last_number before) x.number) (nat_lt x.number (2 ^ 64 - 1)) rest.0 in
    let times = and_parts (nat_le (last_time before) x.time) (nat_le (length (young_at x.time (before ++ x ∷ []))) most) rest.1 in
    record {
      of_request = all.0;
      above = ltb-true (last_number before) x.number numbers.0;
      below = ltb-true x.number (2 ^ 64 - 1) numbers.1;
      later = leb-true (last_time before) x.time times.0;
      few = leb-true (length (young_at x.time (before ++ x ∷ []))) most times.1;
    }

pub joining : (most : ℕ) (before : List Exchange) (x : Exchange) → Joined most before x → joins most before x ≡ true
joining most before x is =
    and_from (is_of_request x) _ is.of_request
    (and_from (nat_lt (last_number before) x.number && nat_lt x.number (2 ^ 64 - 1)) _
    (and_from (nat_lt (last_number before) x.number) (nat_lt x.number (2 ^ 64 - 1)) (lt-ltb (last_number before) x.number is.above) (lt-ltb x.number (2 ^ 64 - 1) is.below))
    (and_from (nat_le (last_time before) x.time) (nat_le (length (young_at x.time (before ++ x ∷ []))) most) (le-leb (last_time before) x.time is.later) (le-leb (length (young_at x.time (before ++ x ∷ []))) most is.few)))

-- ---- the last one

pub number_more : (n : ℕ) (xs : List Exchange) (x : Exchange) → number_or n (xs ++ x ∷ []) ≡ x.number
number_more n [] x = refl
number_more n (y ∷ xs) x = number_more y.number xs x

pub time_more : (t : ℕ) (xs : List Exchange) (x : Exchange) → time_of t (xs ++ x ∷ []) ≡ x.time
time_more t [] x = refl
time_more t (y ∷ xs) x = time_more y.time xs x

number_behind : (n m : ℕ) (gone : List Exchange) (y : Exchange) (left : List Exchange) → number_or n (gone ++ y ∷ left) ≡ number_or m (y ∷ left)
number_behind n m [] y left = refl
number_behind n m (x ∷ gone) y left = number_behind x.number m gone y left

time_behind : (t s : ℕ) (gone : List Exchange) (y : Exchange) (left : List Exchange) → time_of t (gone ++ y ∷ left) ≡ time_of s (y ∷ left)
time_behind t s [] y left = refl
time_behind t s (x ∷ gone) y left = time_behind x.time s gone y left

pub number_dropped : (n m k : ℕ) (xs : List Exchange) → k < length xs → number_or n (drop k xs) ≡ number_or m xs
number_dropped n m k [] less = absurd (omega (arith, less))
number_dropped n m zero (x ∷ xs) less = refl
number_dropped n m (suc k) (x ∷ xs) less = number_dropped n x.number k xs (omega (arith, less))

pub time_dropped : (t s k : ℕ) (xs : List Exchange) → k < length xs → time_of t (drop k xs) ≡ time_of s xs
time_dropped t s k [] less = absurd (omega (arith, less))
time_dropped t s zero (x ∷ xs) less = refl
time_dropped t s (suc k) (x ∷ xs) less = time_dropped t x.time k xs (omega (arith, less))

pub number_at_last : (n : ℕ) (xs : List Exchange) (d : Exchange) → 0 < length xs → number_or n xs ≡ (get_or xs (length xs - 1) d).number
number_at_last n [] d some = absurd (omega (arith, some))
number_at_last n (x ∷ []) d some = refl
number_at_last n (x ∷ y ∷ xs) d some =
    let at : suc (suc (length xs)) - 1 ≡ suc (suc (length xs) - 1) = omega arith in
    number_at_last x.number (y ∷ xs) d (omega arith) ∙ ap (λ (i : ℕ). (get_or (x ∷ y ∷ xs) i d).number) (sym at)

pub time_at_last : (t : ℕ) (xs : List Exchange) (d : Exchange) → 0 < length xs → time_of t xs ≡ (get_or xs (length xs - 1) d).time
time_at_last t [] d some = absurd (omega (arith, some))
time_at_last t (x ∷ []) d some = refl
time_at_last t (x ∷ y ∷ xs) d some =
    let at : suc (suc (length xs)) - 1 ≡ suc (suc (length xs) - 1) = omega arith in
    time_at_last x.time (y ∷ xs) d (omega arith) ∙ ap (λ (i : ℕ). (get_or (x ∷ y ∷ xs) i d).time) (sym at)

-- ---- one more

pub none_is : (most : ℕ) → IsStore most []
none_is most before x later cut = let long = ap length cut ∙ length-append before (x ∷ later) in absurd (omega (arith, long))

last_cut : (xs before later : List Exchange) (x y : Exchange) → xs ++ x ∷ [] ≡ before ++ y ∷ later
    → ((xs ≡ before) × (x ≡ y)) ⊎ ((rest : List Exchange) × (xs ≡ before ++ y ∷ rest))
last_cut [] [] later x y cut = inl (refl, ap (λ l. get_or l 0 x) cut)
last_cut [] (b ∷ before) later x y cut =
    let long = ap length cut ∙ ap suc (length-append before (y ∷ later)) in
    absurd (omega (arith, long))
last_cut (e ∷ xs) [] later x y cut = inr (xs, ap (λ (z : Exchange). z ∷ xs) (ap (λ l. get_or l 0 x) cut))
last_cut (e ∷ xs) (b ∷ before) later x y cut =
    let head : e ≡ b = ap (λ l. get_or l 0 x) cut in
    elim (last_cut xs before later x y (ap (drop 1) cut)) [
      | inl same ↦ inl (ap (λ (z : Exchange). z ∷ xs) head ∙ ap (λ l. b ∷ l) same.0, same.1)
      | inr more ↦ inr (more.0, ap (λ (z : Exchange). z ∷ xs) head ∙ ap (λ l. b ∷ l) more.1)
    ]

pub one_more : (most : ℕ) (xs : List Exchange) (x : Exchange) → IsStore most xs → joins most xs x ≡ true → IsStore most (xs ++ x ∷ [])
one_more most xs x store joins_it before y later cut =
    elim (last_cut xs before later x y cut) [
      | inl same ↦ subst (λ z. joins most before z ≡ true) same.1 (subst (λ l. joins most l x ≡ true) same.0 joins_it)
      | inr more ↦ store before y more.0 more.1
    ]

-- ---- the later ones

later_joins : (most : ℕ) (gone before : List Exchange) (x : Exchange) → joins most (gone ++ before) x ≡ true → joins most before x ≡ true
later_joins most gone before x is =
    let all = joined most (gone ++ before) x is in
    joining most before x (record {
      of_request = all.of_request;
      above = above before all.above;
      below = all.below;
      later = later before all.later;
      few =
          let same = ap (λ l. length (young_at x.time l)) (append_assoc gone before (x ∷ []))
          ∙ ap length (filter-append (is_young x.time) gone (before ++ x ∷ []))
          ∙ length-append (young_at x.time gone) (young_at x.time (before ++ x ∷ [])) in
          let few = all.few in
          omega (arith, same, few);
    })
  where
    above : (before : List Exchange) → last_number (gone ++ before) < x.number → last_number before < x.number
    above [] less = omega (arith, less)
    above (y ∷ before) less = subst (λ n. n < x.number) (number_behind 0 0 gone y before) less

    later : (before : List Exchange) → last_time (gone ++ before) ≤ x.time → last_time before ≤ x.time
    later [] most = omega arith
    later (y ∷ before) most = subst (λ t. t ≤ x.time) (time_behind 0 0 gone y before) most

pub later_are : (most : ℕ) (gone left : List Exchange) → IsStore most (gone ++ left) → IsStore most left
later_are most gone left store before x later cut =
    later_joins most gone before x (store (gone ++ before) x later (ap (λ l. gone ++ l) cut ∙ sym (append_assoc gone before (x ∷ later))))

pub dropped_are : (most k : ℕ) (xs : List Exchange) → IsStore most xs → IsStore most (drop k xs)
dropped_are most k xs store = later_are most (take k xs) (drop k xs) (subst (IsStore most) (sym (take-append-drop k xs)) store)

pub first_are : (most : ℕ) (before : List Exchange) (x : Exchange) (later : List Exchange) → IsStore most (before ++ x ∷ later) → joins most before x ≡ true
first_are most before x later store = store before x later refl

-- ---- numbers rise, and times don't fall

abbrev pub AreOrdered : ℕ → ℕ → List Exchange → Type 0
AreOrdered number time [] = Unit {0}
AreOrdered number time (x ∷ xs) = (number < x.number) × (time ≤ x.time) × AreOrdered x.number x.time xs

ordered_behind : (most : ℕ) (before rest : List Exchange) → IsStore most (before ++ rest) → AreOrdered (last_number before) (last_time before) rest
ordered_behind most before [] store = record {}
ordered_behind most before (x ∷ rest) store =
    let is = joined most before x (store before x rest refl) in (
      is.above,
      is.later,
      subst (λ n. AreOrdered n x.time rest) (number_more 0 before x)
          (subst (λ t. AreOrdered (last_number (before ++ x ∷ [])) t rest) (time_more 0 before x)
          (ordered_behind most (before ++ x ∷ []) rest (subst (IsStore most) (sym (append_assoc before (x ∷ []) rest)) store))),
    )

pub ordered : (most : ℕ) (xs : List Exchange) → IsStore most xs → AreOrdered 0 0 xs
ordered most xs store = ordered_behind most [] xs store

pub number_above : (n t : ℕ) (x : Exchange) (xs : List Exchange) → AreOrdered n t (x ∷ xs) → n < number_or n (x ∷ xs)
number_above n t x [] order = order.0
number_above n t x (y ∷ xs) order =
    let first = order.0 in
    let rest = number_above x.number x.time y xs order.2 in
    omega (arith, first, rest)

rising : (n t : ℕ) (xs : List Exchange) → AreOrdered n t xs → AreRising n t xs (number_or n xs + 1)
rising n t [] order = omega arith
rising n t (x ∷ xs) order = (order.0, order.1, rising x.number x.time xs order.2)

pub restorable : (most : ℕ) (xs gone left : List Exchange) → IsStore most xs → xs ≡ gone ++ left → AreRestorable left (next_number xs)
restorable most xs gone [] store cut = omega arith
restorable most xs gone (y ∷ left) store cut =
    subst (AreRestorable (y ∷ left)) (ap (λ n. n + 1) (sym (ap last_number cut ∙ number_behind 0 0 gone y left)))
    (rising 0 0 (y ∷ left) (ordered most (y ∷ left) (later_are most gone (y ∷ left) (subst (IsStore most) cut store))))
