-- Slots that are put into a list part by part.
use Rattle.std.proofs.Common.{◌≡◌, ℕ, ◌≤◌, List, [], ◌∷◌, ◌++◌, length, refl, ap, ◌∙◌, le_trans, subst}
use Rattle.dots_history.specs.Slots.{placed}
use Rattle.dots_history.specs.KeptPlaces.{union}
use Rattle.dots_history.proofs.Unions.{union_longer}

union_append : (xs ys zs : List ℕ) → union (xs ++ ys) zs ≡ union xs (union ys zs)
union_append [] ys zs = refl
union_append (x ∷ xs) ys zs = ap (placed x) (union_append xs ys zs)

pub in_parts : (a b c d items : List ℕ) → union (a ++ (b ++ (c ++ d))) items ≡ union a (union b (union c (union d items)))
in_parts a b c d items =
    union_append a (b ++ (c ++ d)) items
    ∙ ap (union a) (union_append b (c ++ d) items)
    ∙ ap (λ xs. union a (union b xs)) (union_append c d items)

-- there is room for each part
pub room_for : (a b c d items : List ℕ) (room : ℕ) → length (union (a ++ (b ++ (c ++ d))) items) ≤ room
    → (length (union d items) ≤ room) × (length (union c (union d items)) ≤ room) × (length (union b (union c (union d items))) ≤ room)
    × (length (union a (union b (union c (union d items)))) ≤ room)
room_for a b c d items room fits =
    let whole : length (union a (union b (union c (union d items)))) ≤ room = subst (λ xs. length xs ≤ room) (in_parts a b c d items) fits in
    let three = le_trans (union_longer a (union b (union c (union d items)))) whole in
    let two = le_trans (union_longer b (union c (union d items))) three in
    (le_trans (union_longer c (union d items)) two, two, three, whole)
