-- What a crash may leave on the disk of a ledger.
use Rattle.std.specs.Prelude.{ℕ, ◌⊎◌, List, [], ◌∷◌, ◌++◌}
use Rattle.dots_settings.specs.Settings.{SettingsValue}
use Rattle.dots_history.specs.declared.entry.Entry.{Entry}
use Rattle.slot_journal.specs.DiskEntries.{HasEntries}
use Rattle.slot_journal.specs.Kept.{HasKept}

-- of the history, or of the history with one more entry, at the entry's time
abbrev pub HasEither : SettingsValue → ℕ → ℕ → List Entry → Entry → (ℕ → ℕ) → Type 0
HasEither settings n t history e image =
    HasKept settings n t history image ⊎ HasKept settings n e.time (history ++ e ∷ []) image

-- these entries, or others
abbrev pub HasOne : SettingsValue → List Entry → List Entry → (ℕ → ℕ) → Type 0
HasOne settings first second image = HasEntries settings image first ⊎ HasEntries settings image second
