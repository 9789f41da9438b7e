-- A list is copied item by item.
use Rattle.std.proofs.Common.{◌≡◌, ℕ, ◌+◌, ◌<◌, List, [], ◌∷◌, ◌++◌, length, take, get_or, sym, ap₂, ◌∙◌}
use Rattle.std.proofs.lemmas.List.{take_more}

-- one item more is copied
pub one_copied : {A : Type 0} (xs : List A) (i : ℕ) (x y : A) (done : List A) → i < length xs → x ≡ get_or xs i x → y ≡ x → done ≡ take i xs → done ++ y ∷ [] ≡ take (i + 1) xs
one_copied xs i x y done few is same before = ap₂ (λ zs z. zs ++ z ∷ []) before (same ∙ is) ∙ sym (take_more xs i x few)
