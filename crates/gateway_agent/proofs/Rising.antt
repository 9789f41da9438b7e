-- Exchanges whose numbers rise: no two have one number, and each is found again in a front, and among the young ones.
use Rattle.std.proofs.Common.{◌≡◌, ℕ, zero, suc, ◌<◌, ◌≤◌, ◌⊎◌, inl, inr, Bool, true, false, cond, List, [], ◌∷◌, ◌++◌, length, take, get_or, Contains, refl, sym, ap, subst, ◌∙◌, arith, le_refl}
use Rattle.std.specs.Prelude.{Some}
use Rattle.std.specs.List.{find}
use Rattle.std.proofs.lemmas.Option.{none-some, same_Some}
use Rattle.std.proofs.lemmas.List.{take_all, take-append-le}
use Rattle.std.proofs.lemmas.List.Elements.{All-contains, All-contains_itself, All-filter, All-take}
use Rattle.dots_gateway.specs.declared.exchange.Exchange.{Exchange}
use Rattle.gateway_agent.specs.Exchanges.{is_young, young_at, number_or}
use Rattle.gateway_agent.proofs.Orders.{AreOrdered}
use Rattle.gateway_agent.proofs.Young.{is_more, is_same}

-- ---- the elements of a list

in_none : {X : Type 0} (x : X) → Contains [] x → ⊥
in_none x has = let less = has.1 in omega (arith, less)

first_or : {X : Type 0} (y x : X) (xs : List X) → Contains (y ∷ xs) x → (y ≡ x) ⊎ Contains xs x
first_or y x xs has = by_place has.0 has.1 has.2
  where
    by_place : (k : ℕ) → k < length (y ∷ xs) → get_or (y ∷ xs) k x ≡ x → (y ≡ x) ⊎ Contains xs x
    by_place zero less is = inl is
    by_place (suc k) less is = inr (k, omega (arith, less), is)

in_first : {X : Type 0} (y x : X) (xs : List X) → y ≡ x → Contains (y ∷ xs) x
in_first y x xs is = (zero, omega arith, is)

in_rest : {X : Type 0} (y x : X) (xs : List X) → Contains xs x → Contains (y ∷ xs) x
in_rest y x xs has = let less = has.1 in (suc has.0, omega (arith, less), has.2)

-- what is found is one of them
pub found_in : {X : Type 0} (test : X → Bool) (xs : List X) (x : X) → find test xs ≡ Some x → Contains xs x
found_in test [] x found = absurd (none-some x found)
found_in test (y ∷ xs) x found = by_test (λ there. found_in test xs x there) (test y) found
  where
    by_test : (find test xs ≡ Some x → Contains xs x) → (b : Bool) → cond b (Some y) (find test xs) ≡ Some x → Contains (y ∷ xs) x
    by_test rest true is = in_first y x xs (same_Some y x is)
    by_test rest false is = in_rest y x xs (rest is)

-- ---- fronts

pub front_more : {X : Type 0} (n m : ℕ) (xs : List X) (x : X) → n ≤ m → Contains (take n xs) x → Contains (take m xs) x
front_more zero m xs x le has = absurd (in_none x has)
front_more (suc n) m [] x le has = absurd (in_none x has)
front_more (suc n) zero (y ∷ xs) x le has = absurd (omega (arith, le))
front_more (suc n) (suc m) (y ∷ xs) x le has = by_first (λ there. front_more n m xs x (omega (arith, le)) there) (first_or y x (take n xs) has)
  where
    by_first : (Contains (take n xs) x → Contains (take m xs) x) → (y ≡ x) ⊎ Contains (take n xs) x → Contains (y ∷ take m xs) x
    by_first more (inl is) = in_first y x (take m xs) is
    by_first more (inr there) = in_rest y x (take m xs) (more there)

pub front_whole : {X : Type 0} (xs ys : List X) (x : X) → Contains xs x → Contains (take (length xs) (xs ++ ys)) x
front_whole xs ys x has = subst (λ l. Contains l x) (sym (take-append-le (length xs) xs ys (le_refl (length xs)) ∙ take_all (length xs) xs (le_refl (length xs)))) has

pub in_front : {X : Type 0} (n : ℕ) (xs : List X) (x : X) → Contains (take n xs) x → Contains xs x
in_front n xs x has = All-contains (Contains xs) (take n xs) x (All-take (Contains xs) n xs (All-contains_itself xs)) has

-- ---- the young ones

pub young_in : (now : ℕ) (xs : List Exchange) (x : Exchange) → Contains xs x → is_young now x ≡ true → Contains (young_at now xs) x
young_in now [] x has young = absurd (in_none x has)
young_in now (y ∷ xs) x has young = by_first (λ there. young_in now xs x there young) (is_young now y) refl (first_or y x xs has)
  where
    as_more : is_young now y ≡ true → Contains (y ∷ young_at now xs) x → Contains (young_at now (y ∷ xs)) x
    as_more is there = subst (λ l. Contains l x) (sym (is_more now y xs is)) there

    by_first : (Contains xs x → Contains (young_at now xs) x) → (b : Bool) → is_young now y ≡ b → (y ≡ x) ⊎ Contains xs x → Contains (young_at now (y ∷ xs)) x
    by_first rest true is (inl same) = as_more is (in_first y x (young_at now xs) same)
    by_first rest true is (inr there) = as_more is (in_rest y x (young_at now xs) (rest there))
    by_first rest false is (inl same) =
        let other : true ≡ false = sym young ∙ ap (is_young now) (sym same) ∙ is in
        absurd (cc)
    by_first rest false is (inr there) = subst (λ l. Contains l x) (sym (is_same now y xs is)) (rest there)

pub young_from : (now : ℕ) (xs : List Exchange) (x : Exchange) → Contains (young_at now xs) x → Contains xs x
young_from now xs x has = All-contains (Contains xs) (young_at now xs) x (All-filter (is_young now) (Contains xs) xs (All-contains_itself xs)) has

-- ---- numbers that rise

abbrev pub AreUp : ℕ → List Exchange → Type 0
AreUp number [] = Unit {0}
AreUp number (x ∷ xs) = (number < x.number) × AreUp x.number xs

pub up_ordered : (n t : ℕ) (xs : List Exchange) → AreOrdered n t xs → AreUp n xs
up_ordered n t [] order = tt
up_ordered n t (x ∷ xs) order = (order.0, up_ordered x.number x.time xs order.2)

pub up_more : (n : ℕ) (xs : List Exchange) (x : Exchange) → AreUp n xs → number_or n xs < x.number → AreUp n (xs ++ x ∷ [])
up_more n [] x up less = (less, tt)
up_more n (y ∷ xs) x up less = (up.0, up_more y.number xs x up.1 less)

above_first : (n : ℕ) (xs : List Exchange) (x : Exchange) → AreUp n xs → Contains xs x → n < x.number
above_first n [] x up has = absurd (in_none x has)
above_first n (y ∷ xs) x up has = by_first (λ there. above_first y.number xs x up.1 there) (first_or y x xs has)
  where
    by_first : (Contains xs x → y.number < x.number) → (y ≡ x) ⊎ Contains xs x → n < x.number
    by_first rest (inl same) = subst (λ (z : Exchange). n < z.number) same up.0
    by_first rest (inr there) = let first = up.0 in let later = rest there in omega (arith, first, later)

from_first : (n : ℕ) (xs : List Exchange) → AreUp n xs → n ≤ number_or n xs
from_first n [] up = le_refl n
from_first n (x ∷ xs) up = let first = up.0 in let later = from_first x.number xs up.1 in omega (arith, first, later)

-- none is above the last one
pub to_last : (n : ℕ) (xs : List Exchange) (x : Exchange) → AreUp n xs → Contains xs x → x.number ≤ number_or n xs
to_last n [] x up has = absurd (in_none x has)
to_last n (y ∷ xs) x up has = by_first (λ there. to_last y.number xs x up.1 there) (first_or y x xs has)
  where
    by_first : (Contains xs x → x.number ≤ number_or y.number xs) → (y ≡ x) ⊎ Contains xs x → x.number ≤ number_or y.number xs
    by_first rest (inl same) = subst (λ (z : Exchange). z.number ≤ number_or y.number xs) same (from_first y.number xs up.1)
    by_first rest (inr there) = rest there

pub one_numbered : (n : ℕ) (xs : List Exchange) (x y : Exchange) → AreUp n xs → Contains xs x → Contains xs y → x.number ≡ y.number → x ≡ y
one_numbered n [] x y up has too same = absurd (in_none x has)
one_numbered n (z ∷ xs) x y up has too same =
    by_first (λ here there. one_numbered z.number xs x y up.1 here there same) (first_or z x xs has) (first_or z y xs too)
  where
    by_first : (Contains xs x → Contains xs y → x ≡ y) → (z ≡ x) ⊎ Contains xs x → (z ≡ y) ⊎ Contains xs y → x ≡ y
    by_first rest (inl is) (inl also) = sym is ∙ also
    by_first rest (inl is) (inr there) =
        let less = above_first z.number xs y up.1 there in
        let at = ap (λ (e : Exchange). e.number) is in
        absurd (omega (arith, less, at, same))
    by_first rest (inr here) (inl also) =
        let less = above_first z.number xs x up.1 here in
        let at = ap (λ (e : Exchange). e.number) also in
        absurd (omega (arith, less, at, same))
    by_first rest (inr here) (inr there) = rest here there

pub up_front : (n count : ℕ) (xs : List Exchange) → AreUp n xs → AreUp n (take count xs)
up_front n zero xs up = tt
up_front n (suc count) [] up = tt
up_front n (suc count) (x ∷ xs) up = (up.0, up_front x.number count xs up.1)
