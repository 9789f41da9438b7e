-- The greatest mid of the rows in some slots that scrub a packet.
use Rattle.std.specs.Prelude.{ℕ, if◌then◌else◌, List, [], ◌∷◌, Option, Some, None}
use Rattle.acl_lists.specs.declared.packet.Packet.{Packet}
use Rattle.acl_lists.specs.declared.rows.ScrubRow.{ScrubRow}
use Rattle.acl_lists.specs.Fates.{scrubs, greatest_from}
use Rattle.filter_table.specs.Rows.{in_slot}

-- the greater of two, where there are two
abbrev pub greater_of : Option ℕ → Option ℕ → Option ℕ
greater_of None other = other
greater_of (Some x) other = Some (greatest_from x other)

-- the greatest that there is for any of them
abbrev pub best : {A : Type 0} → (A → Option ℕ) → List A → Option ℕ
best of [] = None
best of (x ∷ xs) = greater_of (of x) (best of xs)

abbrev pub mid_of : Packet → Option ScrubRow → Option ℕ
mid_of packet None = None
mid_of packet (Some row) = if scrubs packet row then Some row.mid else None

-- the mid of the row in a slot, where it scrubs the packet
abbrev pub mid_in : Packet → List (Option ScrubRow) → ℕ → Option ℕ
mid_in packet rows slot = mid_of packet (in_slot rows slot)
