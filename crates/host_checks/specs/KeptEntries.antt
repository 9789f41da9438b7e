-- Entries of a journal that are kept, with their slots.
use Rattle.std.specs.Prelude.{ℕ, ◌+◌, Bool, not, ◌&&◌, ◌==◌, if◌then◌else◌, List, [], ◌∷◌, map, is_some, IsTrue}
use Rattle.std.specs.List.{list_any}
use Rattle.dots_settings.specs.Settings.{SettingsValue}
use Rattle.dots_history.specs.declared.entry.Entry.{Entry}
use Rattle.dots_history.specs.Entries.{same_client, put_of, ends}
use Rattle.dots_history.specs.Bounds.{within_bounds}
use Rattle.dots_history.specs.Filed.{Filed}
use Rattle.host_checks.specs.declared.kept_entry.KeptEntry.{KeptEntry}
use Rattle.host_checks.specs.Migrating.{is_still_own}

-- the slot is one of these
abbrev pub is_one_of : List ℕ → ℕ → Bool
is_one_of keep slot = list_any (λ other. other == slot) keep

-- the entries that stand in these slots, of entries in the slots from this one on
abbrev pub picked : List ℕ → ℕ → List Entry → List Filed
picked keep slot [] = []
picked keep slot (e ∷ later) =
    if is_one_of keep slot then record { entry = e; slot = slot } ∷ picked keep (slot + 1) later else picked keep (slot + 1) later

-- an entry with what the new settings say of it
abbrev pub judged : SettingsValue → SettingsValue → Filed → KeptEntry
judged old new x = record { slot = x.slot; entry = x.entry; own = is_still_own old new x.entry }

-- an entry that its client put later, and that isn't the new settings' own
abbrev pub is_lost : Entry → KeptEntry → Bool
is_lost e kept = same_client e kept.entry && (is_some (put_of kept.entry.change) && not kept.own)

-- it might stand again, with these behind it
abbrev pub might_return_by : Entry → List KeptEntry → Bool
might_return_by e later = list_any (λ (kept : KeptEntry). ends e kept.entry) later && list_any (is_lost e) later

-- of each whether it might stand again
abbrev pub flags_of : List KeptEntry → List Bool
flags_of [] = []
flags_of (kept ∷ later) = might_return_by kept.entry later ∷ flags_of later

-- an entry with its slot
abbrev pub filed_of : KeptEntry → Filed
filed_of kept = record { entry = kept.entry; slot = kept.slot }

-- the entry is within bounds
abbrev pub IsBounded : KeptEntry → Type 0
IsBounded kept = IsTrue (within_bounds kept.entry)
