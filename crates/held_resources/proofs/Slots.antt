-- A slot put into a list.
use Rattle.std.proofs.Common.{◌≡◌, ℕ, ◌+◌, ◌<◌, List, [], ◌∷◌, length, drop, get_or, sym, ap, ◌∙◌}
use Rattle.dots_history.specs.Slots.{placed}
use Rattle.dots_history.specs.KeptPlaces.{union}
use Rattle.dots_history.proofs.Unions.{drop_next, union_swap}
use Rattle.held_resources.specs.declared.row.HeldSlot.{HeldSlot}
use Rattle.held_resources.specs.Rows.{slots_in}

pub put_row : (rows : List HeldSlot) (i : ℕ) (row : HeldSlot) (items all : List ℕ) → i < length rows → row ≡ get_or rows i row
    → union (slots_in (drop i rows)) items ≡ all → union (slots_in (drop (i + 1) rows)) (placed row.slot items) ≡ all
put_row rows i row items all less is same =
    union_swap (slots_in (drop (i + 1) rows)) (row.slot ∷ []) items
    ∙ sym (ap (λ rs. union (slots_in rs) items) (drop_next rows i row less is))
    ∙ same
