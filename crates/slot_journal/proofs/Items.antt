-- Lists that are compared entry by entry.
use Rattle.std.proofs.Common.{◌≡◌, ℕ, zero, suc, ◌<◌, List, [], ◌∷◌, ◌++◌, length, take, get_or, refl, sym, ap, subst, ◌∙◌, arith}
use Rattle.std.specs.List.{AllByRecursion}

pub all_at : {A : Type 0} (P : A → Type 0) (xs : List A) (i : ℕ) (x : A) → AllByRecursion P xs → i < length xs → x ≡ get_or xs i x → P x
all_at P [] i x all under is = absurd (omega (arith, under))
all_at P (y ∷ xs) zero x all under is = subst P (sym is) all.0
all_at P (y ∷ xs) (suc i) x all under is = all_at P xs i x all.1 (omega (arith, under)) is

next_item : {A : Type 0} (i : ℕ) (xs : List A) (x : A) → i < length xs → x ≡ get_or xs i x → take (suc i) xs ≡ take i xs ++ (x ∷ [])
next_item i [] x few is = absurd (omega (arith, few))
next_item zero (y ∷ xs) x few is = ap (λ z. z ∷ []) (sym is)
next_item (suc i) (y ∷ xs) x few is = ap (λ l. y ∷ l) (next_item i xs x (omega (arith, few)) is)

pub same_more : {A : Type 0} (i : ℕ) (xs ys : List A) (x y : A) → i < length xs → i < length ys → x ≡ get_or xs i x → y ≡ get_or ys i y → x ≡ y → take i xs ≡ take i ys → take (suc i) xs ≡ take (suc i) ys
same_more i xs ys x y few many is other same before =
    next_item i xs x few is ∙ ap (λ front. front ++ x ∷ []) before ∙ ap (λ z. take i ys ++ z ∷ []) same ∙ sym (next_item i ys y many other)

pub take_whole : {A : Type 0} (n : ℕ) (xs : List A) → n ≡ length xs → take n xs ≡ xs
take_whole zero [] is = refl
take_whole (suc n) [] is = absurd (omega (arith, is))
take_whole zero (x ∷ xs) is = absurd (omega (arith, is))
take_whole (suc n) (x ∷ xs) is = ap (λ rest. x ∷ rest) (take_whole n xs (omega (arith, is)))

-- equal lists have equal items
pub same_item : {A : Type 0} (xs ys : List A) (i : ℕ) (x y : A) → xs ≡ ys → i < length xs → x ≡ get_or xs i x → y ≡ get_or ys i y → x ≡ y
same_item {A} xs ys i x y same few is other = is ∙ item xs i x y few ∙ ap (λ list. get_or list i y) same ∙ sym other
  where
    item : (xs : List A) (i : ℕ) (x y : A) → i < length xs → get_or xs i x ≡ get_or xs i y
    item [] i x y few = absurd (omega (arith, few))
    item (z ∷ xs) zero x y few = refl
    item (z ∷ xs) (suc i) x y few = item xs i x y (omega (arith, few))
