-- The live mitigations of a domain, each with its slots: the mitigations alone, and the slots alone.
use Rattle.std.specs.Prelude.{List, map}
use Rattle.dots_history.specs.Histories.{Mitigation}
use Rattle.dots_history.specs.Keeping.{moved}
use Rattle.dots_history.specs.Filed.{Filed}
use Rattle.live_mitigations.specs.declared.slots.MitigationSlots.{MitigationSlots}
use Rattle.live_mitigations.specs.declared.live_row.LiveRow.{LiveRow}
use Rattle.live_mitigations.specs.Slots.{slots_moved}

abbrev pub mitigation_of : LiveRow → Mitigation
mitigation_of row = row.mitigation

abbrev pub own_slots : LiveRow → MitigationSlots
own_slots row = row.slots

abbrev pub mitigations_in : List LiveRow → List Mitigation
mitigations_in rows = map mitigation_of rows

abbrev pub slots_in : List LiveRow → List MitigationSlots
slots_in rows = map own_slots rows

-- what an entry that stands in a slot does to one
abbrev pub row_moved : Filed → LiveRow → LiveRow
row_moved x row = record { mitigation = moved x.entry row.mitigation; slots = slots_moved x row.mitigation row.slots }
