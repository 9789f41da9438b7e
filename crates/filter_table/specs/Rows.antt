-- The rows of mitigations as they are stored: by slot, and the slots in order of place.
use Rattle.std.specs.Prelude.{◌≡◌, ℕ, Bool, false, ◌&&◌, ◌==◌, if◌then◌else◌, List, [], ◌∷◌, Option, Some, None, slice_get, slice_set, option_map, filter}
use Rattle.ip_scope.specs.Prefix.{IsPrefix}
use Rattle.acl_lists.specs.declared.rows.ScrubRow.{ScrubRow}
use Rattle.filter_table.specs.declared.rank.Rank.{Rank}
use Rattle.filter_table.specs.Ranks.{is_of_kind, is_of_number}
use Rattle.filter_table.specs.declared.turn.Turn.{Turn}
use Rattle.filter_table.specs.TableRows.{PlacedScrub, row_is_of, row_woken}

abbrev pub or_empty : Option (Option ScrubRow) → Option ScrubRow
or_empty None = None
or_empty (Some row) = row

-- the row that stands in a slot
abbrev pub in_slot : List (Option ScrubRow) → ℕ → Option ScrubRow
in_slot rows slot = or_empty (slice_get rows slot)

abbrev pub added : Turn → Option ScrubRow → List PlacedScrub → List PlacedScrub
added turn None placed = placed
added turn (Some row) placed = record { slot = turn.slot; place = turn.place; row = row } ∷ placed

-- the rows of these turns, in their order
abbrev pub gathered : List (Option ScrubRow) → List Turn → List PlacedScrub
gathered rows [] = []
gathered rows (turn ∷ turns) = added turn (in_slot rows turn.slot) (gathered rows turns)

abbrev pub passes : (ScrubRow → Bool) → Option ScrubRow → Bool
passes p None = false
passes p (Some row) = p row

-- the row in a slot is one of this mitigation
abbrev pub slot_is_of : ℕ → List ℕ → ℕ → List (Option ScrubRow) → ℕ → Bool
slot_is_of domain cuid mid rows slot = passes (row_is_of domain cuid mid) (in_slot rows slot)

-- the row in a slot is active or not, as said, where it is one of this mitigation
abbrev pub woken_at : ℕ → List ℕ → ℕ → Bool → ℕ → List (Option ScrubRow) → List (Option ScrubRow)
woken_at domain cuid mid active slot rows = slice_set rows slot (option_map (row_woken domain cuid mid active) (in_slot rows slot))

-- the same of the rows in the slots of these ranks
abbrev pub woken_in : ℕ → List ℕ → ℕ → Bool → List Rank → List (Option ScrubRow) → List (Option ScrubRow)
woken_in domain cuid mid active [] rows = rows
woken_in domain cuid mid active (rank ∷ ranks) rows = woken_in domain cuid mid active ranks (woken_at domain cuid mid active rank.slot rows)

-- the mark of a row: its rank by domain and mid
abbrev pub mark_of : PlacedScrub → Rank
mark_of scrub = record { kind = scrub.row.domain; number = scrub.row.mid; place = scrub.place; slot = scrub.slot }

-- the marks of this domain and mid
abbrev pub marks_of : ℕ → ℕ → List Rank → List Rank
marks_of domain mid ranks = filter (is_of_number mid) (filter (is_of_kind domain) ranks)

-- the row in a slot, where it is active
abbrev pub only_active : Option ScrubRow → Option ScrubRow
only_active None = None
only_active (Some row) = if row.active then Some row else None

abbrev pub active_in : List (Option ScrubRow) → ℕ → Option ScrubRow
active_in rows slot = only_active (in_slot rows slot)

abbrev pub place_of_turn : Turn → ℕ
place_of_turn turn = turn.place

abbrev pub turn_at_place : ℕ → Turn → Turn
turn_at_place place turn = record { place = place; slot = turn.slot }

abbrev pub is_turn : ℕ → ℕ → Turn → Bool
is_turn place slot turn = (turn.place == place) && (turn.slot == slot)

-- the slot of a turn has a row
pub record IsTied (rows : List (Option ScrubRow)) (turn : Turn) : Type 0 where
  pub row : ScrubRow
  pub is : in_slot rows turn.slot ≡ Some row
  pub prefix : IsPrefix row.prefix
