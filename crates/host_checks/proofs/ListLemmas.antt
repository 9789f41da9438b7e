-- What is made of a list, while it is gone through.
use Rattle.std.proofs.Common.{◌≡◌, List, [], ◌∷◌, ◌++◌, map, ap, sym, ◌∙◌, append_assoc}

-- one more is made of one fewer to come
pub one_more : {A : Type 0} {B : Type 0} (f : A → B) (made added : List B) (x : A) (old new : List A) → old ≡ x ∷ new → added ≡ made ++ f x ∷ []
    → made ++ map f old ≡ added ++ map f new
one_more f made added x old new cut grown =
    ap (λ xs. made ++ map f xs) cut ∙ sym (append_assoc made (f x ∷ []) (map f new)) ∙ ap (λ ys. ys ++ map f new) (sym grown)
