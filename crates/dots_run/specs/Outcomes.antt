-- What a status of a run says of its words, of what the settings' source gives, and of what failed.
use Rattle.std.specs.Prelude.{◌≡◌, ◌≢◌, ◌⊎◌, ◌↔◌, ℕ, ◌<◌, List, true, false, Option, Some, IfSome}
use Rattle.dots_settings.specs.Settings.{SettingsValue, IsSettings}
use Rattle.dots_settings.specs.File.{SettingsAre}
use Rattle.slot_store.specs.Layout.{needed_of}
use Rattle.slot_journal.specs.Sizes.{slots_of}
use Rattle.dots_machine.specs.Commands.{is_served, is_show, second_of}
use Rattle.dots_machine.specs.Endings.{GivesFault, IsReady, IsReadable}
use Rattle.dots_machine.specs.Outside.{Outside, SourceFailed, WireFailed, DiskFailed, ReportFailed}
use Rattle.dots_run.specs.declared.topic.Topic.{Topic}
use Rattle.dots_run.specs.Reporting.{IsSound, IsAtFault}
use Rattle.dots_run.specs.Topics.{topic_of, is_known}

-- the disk has fewer bytes than these settings need, which are those that the source gives, where it tells its bytes
pub record IsTooSmall (left : Option (List ℕ)) (extent : ℕ) : Type 0 where
  pub settings : SettingsValue
  pub valid : IsSettings settings
  pub are : IfSome left (λ bytes. SettingsAre bytes settings)
  pub less : extent < needed_of (slots_of settings)

pub record Outcome (words : List (List ℕ)) (status : ℕ) (before now : Outside) : Type 0 where
  -- when the words are no line that the program knows; which faults there must have been, and where none was
  pub commands : (status ≡ 2) ↔ (is_known words ≡ false)
  pub read : status ≡ 5 → SourceFailed before now ⊎ WireFailed before now
  pub source_read : status ≢ 4 → status ≢ 5 → now.source_faults ≡ before.source_faults
  pub disk : status ≡ 6 → DiskFailed before now
  pub unfailed : status ≢ 6 → now.disk_faults ≡ before.disk_faults
  pub written : status ≡ 9 → ReportFailed before now
  -- when the disk is too small, whatever it tells of its content
  pub small : status ≡ 10 → IsTooSmall before.left before.extent
  -- when the settings are refused, and when a run must go well, want of memory and 2^40 events without End aside: where the disk holds what a server
  -- leaves there
  pub refused : is_served words ≡ true → GivesFault before.left
      → ((status ≡ 3) × (now.source_faults ≡ before.source_faults)) ⊎ (status ≡ 4) ⊎ ((status ≡ 5) × SourceFailed before now)
  pub complete : is_served words ≡ true → IsReady before.left before.media before.extent
      → ¬ (SourceFailed before now) → ¬ (WireFailed before now) → ¬ (DiskFailed before now) → ¬ (ReportFailed before now) → (status ≡ 0) ⊎ (status ≡ 4) ⊎ (status ≡ 11)
  -- when a message is shown, and when a fault is, want of memory aside
  pub readable : is_show words ≡ true → IsReadable (second_of words) → ¬ (ReportFailed before now) → (status ≡ 0) ⊎ (status ≡ 4)
  pub unreadable : is_show words ≡ true → ¬ (IsReadable (second_of words)) → (status ≡ 1) ⊎ (status ≡ 4)
  -- when what is checked has no fault, and when it has one, want of memory aside
  pub sound : (topic : Topic) → topic_of words ≡ Some topic → IsSound topic before.left → ¬ (SourceFailed before now) → ¬ (ReportFailed before now) → (status ≡ 0) ⊎ (status ≡ 4)
  pub at_fault : (topic : Topic) → topic_of words ≡ Some topic → IsAtFault topic before.left → ¬ (SourceFailed before now) → (status ≡ 3) ⊎ (status ≡ 4)
