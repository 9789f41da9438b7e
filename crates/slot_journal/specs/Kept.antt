-- What is left of a history on a disk.
use Rattle.std.specs.Prelude.{◌≡◌, ℕ, true, List}
use Rattle.dots_settings.specs.Settings.{SettingsValue}
use Rattle.dots_history.specs.declared.entry.Entry.{Entry}
use Rattle.dots_history.specs.Histories.{Kept}
use Rattle.dots_history.specs.Fits.{is_calm}
use Rattle.slot_journal.specs.DiskEntries.{HasEntries}

-- An image of a disk holds calm entries that are a part of this history with its view at this time, when n messages are remembered.
pub record HasKept (settings : SettingsValue) (n t : ℕ) (history : List Entry) (image : ℕ → ℕ) : Type 0 where
  pub entries : List Entry
  pub image_has : HasEntries settings image entries
  pub calm : is_calm settings entries ≡ true
  pub kept : Kept n t entries history
