-- Rows of a mitigation that stand together, taken out at once.
use Rattle.std.specs.Prelude.{ℕ, Bool, not, List, [], ◌∷◌, Option, None, slice_set}
use Rattle.acl_lists.specs.declared.rows.ScrubRow.{ScrubRow}
use Rattle.filter_table.specs.Sifting.{is_between}
use Rattle.filter_table.specs.declared.turn.Turn.{Turn}
use Rattle.filter_table.specs.TableRows.{PlacedScrub}

abbrev pub slot_of_turn : Turn → ℕ
slot_of_turn turn = turn.slot

-- no row stands in the slots of these turns any more
abbrev pub emptied : List Turn → List (Option ScrubRow) → List (Option ScrubRow)
emptied [] rows = rows
emptied (turn ∷ turns) rows = emptied turns (slice_set rows turn.slot None)

-- but for the rows whose places are neither below the first number nor above the other
abbrev pub stays_outside : ℕ → ℕ → PlacedScrub → Bool
stays_outside low high scrub = not (is_between low high scrub.place)
