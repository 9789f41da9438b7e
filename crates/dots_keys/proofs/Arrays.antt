-- The items of arrays.
use Rattle.std.proofs.Common.{◌≡◌, ◌≢◌, suc, List, [], ◌∷◌, ◌++◌, length, refl, ap, Result, Ok, None, Some}
use Rattle.cbor_profile.specs.Tree.{count}
use Rattle.cbor_profile.specs.declared.item.Item.{Item}
use Rattle.dots_keys.specs.declared.reject.Reject.{Reject}
use Rattle.dots_keys.specs.Configurations.{fraction_in}
use Rattle.dots_keys.specs.FieldValues.{items_seen}
use Rattle.dots_keys.specs.Mitigations.{only_item}
use Rattle.dots_keys.specs.Results.{◌>>=◌}

pub count_seen : (xs : List Item) → count (items_seen xs) ≡ length xs
count_seen [] = refl
count_seen (x ∷ xs) = ap suc (count_seen xs)

-- an array whose number of items is another
pub no_fraction : (xs : List Item) → length xs ≢ 2 → fraction_in (Some (items_seen xs)) ≡ None
no_fraction [] other = refl
no_fraction (x ∷ []) other = refl
no_fraction (x ∷ y ∷ []) other = absurd (other refl)
no_fraction (x ∷ y ∷ z ∷ xs) other = refl

pub not_only : (xs : List Item) → length xs ≢ 1 → only_item (Some (items_seen xs)) ≡ None
not_only [] other = refl
not_only (x ∷ []) other = absurd (other refl)
not_only (x ∷ y ∷ xs) other = refl

-- what is read of the items that are left, behind what was read of those before them
abbrev pub behind : {A : Type 0} → List A → Result (List A) Reject → Result (List A) Reject
behind done read = read >>= λ rest. Ok (done ++ rest)
