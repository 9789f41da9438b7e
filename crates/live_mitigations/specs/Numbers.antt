-- The slots of the live mitigations as numbers, and new numbers of them.
use Rattle.std.specs.Prelude.{ℕ, List, ◌∷◌, map, option_map, option_to_list}
use Rattle.std.specs.List.{flat_map}
use Rattle.dots_history.specs.Slots.{number_in}
use Rattle.live_mitigations.specs.declared.slots.MitigationSlots.{MitigationSlots}
use Rattle.live_mitigations.specs.Rows.{LiveTable}
use Rattle.live_mitigations.specs.LiveValues.{LiveValue}

abbrev pub numbers_of : MitigationSlots → List ℕ
numbers_of slots = slots.put ∷ option_to_list slots.withdrawal

abbrev pub numbers_in : List MitigationSlots → List ℕ
numbers_in list = flat_map numbers_of list

abbrev pub all_numbers : List LiveTable → List ℕ
all_numbers tables = flat_map (λ (table : LiveTable). numbers_in table.slots) tables

-- ---- a slot becomes its place among those that are kept
abbrev pub renumbered : List ℕ → MitigationSlots → MitigationSlots
renumbered keep slots = record { put = number_in keep slots.put; withdrawal = option_map (number_in keep) slots.withdrawal }

abbrev pub table_renumbered : List ℕ → LiveTable → LiveTable
table_renumbered keep table = record { room = table.room; rows = table.rows; slots = map (renumbered keep) table.slots }

abbrev pub live_renumbered : List ℕ → LiveValue → LiveValue
live_renumbered keep live = record {
  domains = live.domains;
  limits = live.limits;
  time = live.time;
  tables = map (table_renumbered keep) live.tables;
}
