-- Slots put into a list one after the other.
use Rattle.std.proofs.Common.{◌≡◌, ℕ, zero, suc, ◌+◌, ◌<◌, List, [], refl, ◌∷◌, length, drop, get_or, sym, ap, ◌∙◌}
use Rattle.dots_history.specs.KeptPlaces.{union}
use Rattle.dots_history.proofs.Unions.{drop_next, union_swap, union_append}
use Rattle.live_mitigations.specs.declared.slots.MitigationSlots.{MitigationSlots}
use Rattle.live_mitigations.specs.Rows.{LiveTable}
use Rattle.live_mitigations.specs.Numbers.{numbers_of, numbers_in, all_numbers}

-- what stands at a place, whatever else were there past the end
pub get_twice : {A : Type 0} → (xs : List A) (i : ℕ) (other : A) → get_or xs i other ≡ get_or xs i (get_or xs i other)
get_twice [] i other = refl
get_twice (x ∷ xs) zero other = refl
get_twice (x ∷ xs) (suc i) other = get_twice xs i other

pub put_one : (slots : List MitigationSlots) (i : ℕ) (one : MitigationSlots) (items all : List ℕ) → i < length slots → one ≡ get_or slots i one
    → union (numbers_in (drop i slots)) items ≡ all → union (numbers_in (drop (i + 1) slots)) (union (numbers_of one) items) ≡ all
put_one slots i one items all less is same =
    union_swap (numbers_in (drop (i + 1) slots)) (numbers_of one) items
    ∙ sym (union_append (numbers_of one) (numbers_in (drop (i + 1) slots)) items)
    ∙ sym (ap (λ rest. union (numbers_in rest) items) (drop_next slots i one less is))
    ∙ same

pub put_list : (lists : List LiveTable) (i : ℕ) (list : LiveTable) (items all : List ℕ) → i < length lists → list ≡ get_or lists i list
    → union (all_numbers (drop i lists)) items ≡ all → union (all_numbers (drop (i + 1) lists)) (union (numbers_in list.slots) items) ≡ all
put_list lists i list items all less is same =
    union_swap (all_numbers (drop (i + 1) lists)) (numbers_in list.slots) items
    ∙ sym (union_append (numbers_in list.slots) (all_numbers (drop (i + 1) lists)) items)
    ∙ sym (ap (λ rest. union (all_numbers rest) items) (drop_next lists i list less is))
    ∙ same
