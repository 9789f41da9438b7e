-- When a path is that of the file which is made beside another.
use Rattle.std.proofs.Common.{◌≡◌, ◌≢◌, ℕ, Bool, true, false, List, ◌++◌, bytes_eq, codes, sym, ap, refl, ◌∙◌}
use Rattle.std.proofs.lemmas.Slice.Eq.{bytes_eq-Decides}
use Rattle.std.proofs.lemmas.List.{append_cancel_right}
use Rattle.dots_edge.specs.HostLine.{beside}

same_answer : (one other : Bool) → (one ≡ true → other ≡ true) → (other ≡ true → one ≡ true) → one ≡ other
same_answer true other to back = sym (to refl)
same_answer false true to back = back refl
same_answer false false to back = refl

no_answer : (b : Bool) → (b ≡ true → ⊥) → false ≡ b
no_answer true never = absurd (never refl)
no_answer false never = refl

-- of a path that has the ending, what stands before it tells
pub ends_beside : (path front other : List ℕ) → path ≡ front ++ codes ".new" → bytes_eq front other ≡ bytes_eq path (beside other)
ends_beside path front other is = same_answer (bytes_eq front other) (bytes_eq path (beside other)) to back
  where
    to : bytes_eq front other ≡ true → bytes_eq path (beside other) ≡ true
    to same = (bytes_eq-Decides path (beside other)).1 (is ∙ ap (λ text. text ++ codes ".new") ((bytes_eq-Decides front other).0 same))

    back : bytes_eq path (beside other) ≡ true → bytes_eq front other ≡ true
    back same = (bytes_eq-Decides front other).1 (append_cancel_right front other (codes ".new") (sym is ∙ (bytes_eq-Decides path (beside other)).0 same))

-- a path without the ending is beside none
pub ends_otherwise : (path other : List ℕ) → ((front : List ℕ) → path ≢ front ++ codes ".new") → false ≡ bytes_eq path (beside other)
ends_otherwise path other not = no_answer (bytes_eq path (beside other)) (λ same. not other ((bytes_eq-Decides path (beside other)).0 same))
