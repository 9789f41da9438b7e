-- The slots of the entries by which a mitigation is live.
use Rattle.std.specs.Prelude.{ℕ, ◌&&◌, ◌==◌, slice_get, if◌then◌else◌, List, [], ◌∷◌, ◌++◌, map, Option, Some, None, option_to_list}
use Rattle.std.specs.List.{position_or_len}
use Rattle.dots_history.specs.declared.entry.Entry.{Entry}
use Rattle.dots_history.specs.declared.status.Status.{Status}
use Rattle.dots_history.specs.declared.status.Status.TheVariants.{Open}
use Rattle.dots_history.specs.Entries.{withdraws}
use Rattle.dots_history.specs.Histories.{Mitigation, sieve, live, status, step}
use Rattle.dots_history.specs.Keeping.{is_open}
use Rattle.dots_history.specs.Filed.{Filed, entry_of}
use Rattle.live_mitigations.specs.declared.slots.MitigationSlots.{MitigationSlots}

-- The slot of the first of these that withdraws a mitigation of this status, where there is one; or that found before.
abbrev pub withdrawal_in : Entry → Status → Option ℕ → List Filed → Option ℕ
withdrawal_in put s found [] = found
withdrawal_in put s found (x ∷ later) =
    withdrawal_in put (step put s x.entry) (if is_open s && withdraws put x.entry then Some x.slot else found) later

-- of the mitigation of an entry, by those after it
abbrev pub slots_by : Filed → List Filed → MitigationSlots
slots_by x later = record { put = x.slot; withdrawal = withdrawal_in x.entry Open None later }

-- those of the live mitigations, in order of their entries
abbrev pub live_slots : ℕ → List Filed → List MitigationSlots
live_slots t filed =
    sieve (λ x later. if live t x.entry (status x.entry Open (map entry_of later)) then Some (slots_by x later) else None) filed

-- ---- by those that are kept beside the mitigations, each beside its own

-- what a test leaves of each, by the mitigation that it is beside
abbrev pub beside : (Mitigation → MitigationSlots → Option MitigationSlots) → List Mitigation → List MitigationSlots → List MitigationSlots
beside keep (m ∷ ms) (s ∷ ss) = option_to_list (keep m s) ++ beside keep ms ss
beside keep _ _ = []

-- of those that are live at the time
abbrev pub if_live_at : ℕ → Mitigation → MitigationSlots → Option MitigationSlots
if_live_at now m s = if live now m.put m.status then Some s else None

abbrev pub slots_at : ℕ → List Mitigation → List MitigationSlots → List MitigationSlots
slots_at now ms ss = beside (if_live_at now) ms ss

-- one more entry may withdraw the mitigation
abbrev pub slots_moved : Filed → Mitigation → MitigationSlots → MitigationSlots
slots_moved x m s =
    if is_open m.status && withdraws m.put x.entry then record { put = s.put; withdrawal = Some x.slot } else s

-- of those that are live after one more entry
abbrev pub if_left : Filed → Mitigation → MitigationSlots → Option MitigationSlots
if_left x m s = if live x.entry.time m.put (step m.put m.status x.entry) then Some (slots_moved x m s) else None

abbrev pub slots_left : Filed → List Mitigation → List MitigationSlots → List MitigationSlots
slots_left x ms ss = beside (if_left x) ms ss

-- of the entry's own mitigation, where it puts one that is live at its time
abbrev pub slots_first : Filed → List MitigationSlots
slots_first x = if live x.entry.time x.entry Open then record { put = x.slot; withdrawal = None } ∷ [] else []

-- the mitigation whose entry stands in a slot
abbrev pub put_in : ℕ → List Mitigation → List MitigationSlots → Option Mitigation
put_in slot ms ss = slice_get ms (position_or_len (λ (s : MitigationSlots). s.put == slot) ss)
