-- The lines of the numbers of a range, one after the other.
use Rattle.std.proofs.Common.{◌≡◌, ℕ, ◌+◌, zero, suc, add-one, List, [], ◌∷◌, ◌++◌, refl, sym, ap, subst, ◌∙◌, append_assoc, append-nil, arith, flat_map}
use Rattle.std.specs.List.{range_with_len}
use Rattle.server_figures.specs.Lines.{lines_from}

lines_more : (f : ℕ → List ℕ) (a n : ℕ) → flat_map f (range_with_len a (suc n)) ≡ flat_map f (range_with_len a n) ++ f (a + n)
lines_more f a zero = append-nil (f a) ∙ ap f (omega arith)
lines_more f a (suc n) =
    ap (λ (text : List ℕ). f a ++ text) (lines_more f (a + 1) n)
    ∙ sym (append_assoc (f a) (flat_map f (range_with_len (a + 1) n)) (f (a + 1 + n)))
    ∙ ap (λ k. (f a ++ flat_map f (range_with_len (a + 1) n)) ++ f k) (omega arith)

-- the lines of one number more
lines_at : (f : ℕ → List ℕ) (a n j m : ℕ) → a + n ≡ j → m ≡ n + 1 → flat_map f (range_with_len a m) ≡ flat_map f (range_with_len a n) ++ f j
lines_at f a n j m is next =
    ap (λ m. flat_map f (range_with_len a m)) (next ∙ add-one n) ∙ lines_more f a n ∙ ap (λ k. flat_map f (range_with_len a n) ++ f k) is

-- no number has no line
pub from_none : (f : ℕ → List ℕ) (a : ℕ) → lines_from f a 0 ≡ []
unfolding lines_from
from_none f a = refl

pub from_next : (f : ℕ → List ℕ) (a n j m : ℕ) (base before now : List ℕ) → a + n ≡ j → m ≡ n + 1 → before ≡ base ++ lines_from f a n → now ≡ before ++ f j → now ≡ base ++ lines_from f a m
unfolding lines_from
from_next f a n j m base before now is next old more =
    more ∙ ap (λ (text : List ℕ). text ++ f j) old ∙ append_assoc base (flat_map f (range_with_len a n)) (f j) ∙ ap (λ (text : List ℕ). base ++ text) (sym (lines_at f a n j m is next))
