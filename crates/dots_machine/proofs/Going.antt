-- A run goes on from what a crash of another left.
use Rattle.std.proofs.Common.{ℕ, ◌≤◌, List, length, take, Option, subst}
use Rattle.dots_host.specs.Acts.{Timed}
use Rattle.dots_host.specs.Media.{Media}
use Rattle.slot_store.specs.Gates.{Sees}
use Rattle.slot_store.specs.Layout.{needed_of}
use Rattle.slot_journal.specs.DiskEntries.{HasEntries}
use Rattle.slot_journal.specs.Sizes.{slots_of}
use Rattle.slot_journal.proofs.Crashing.{one_history}
use Rattle.dots_settings.specs.Settings.{SettingsValue}
use Rattle.dots_history.specs.declared.entry.Entry.{Entry}
use Rattle.dots_history.specs.Histories.{Kept}
use Rattle.dots_machine.specs.Machine.{State}
use Rattle.dots_machine.specs.Surviving.{MeansAt, shown, time_at}
use Rattle.dots_machine.specs.Endings.{GivesSettings, IsReady}

pub found_again : (settings : SettingsValue) (start : State) (acts : List Timed) (trace : List State) (history : List Entry) (m : ℕ) (image : ℕ → ℕ) (media : Option Media) (stored : List Entry)
    → MeansAt settings start acts trace history m image → Sees media image → ((seen : ℕ → ℕ) → Sees media seen → HasEntries settings seen stored)
    → (count : ℕ) × (count ≤ length history) × (shown m acts trace (length start.history) ≤ count) × Kept settings.limits.remembered (time_at m acts trace start.time) stored (take count history)
found_again settings start acts trace history m image media stored stands sees was_stored =
    let same = one_history settings image stands.image_has.entries stored stands.image_has.image_has (was_stored image sees) in (
      stands.count,
      stands.within,
      stands.has_shown,
      subst (λ es. Kept settings.limits.remembered (time_at m acts trace start.time) es (take stands.count history)) same stands.image_has.kept,
    )

pub ready_again : (start : State) (acts : List Timed) (trace : List State) (history : List Entry) (m : ℕ) (image : ℕ → ℕ) (left : Option (List ℕ)) (media : Option Media) (extent : ℕ)
    → (gives : GivesSettings left) → MeansAt gives.settings start acts trace history m image → Sees media image → needed_of (slots_of gives.settings) ≤ extent → IsReady left media extent
ready_again start acts trace history m image left media extent gives stands sees large = record {
  gives = gives;
  seen = image;
  sees = sees;
  stored = stands.image_has.entries;
  image_has = stands.image_has.image_has;
  calm = stands.image_has.calm;
  large = large;
}
