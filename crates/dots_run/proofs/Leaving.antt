-- A run over what a crash of another left goes on from there.
use Rattle.std.proofs.Common.{◌≡◌, ℕ, ◌+◌, ◌≤◌, List, [], ◌∷◌, ◌++◌, length, Option, Some, None, sym, ◌∙◌, subst, arith}
use Rattle.std.proofs.lemmas.List.{append_cancel_left}
use Rattle.dots_host.specs.Acts.{Timed}
use Rattle.dots_host.specs.Runs.{Added}
use Rattle.dots_host.specs.Media.{Medium, Media, IsImage, all_media}
use Rattle.dots_host.specs.Becoming.{EachMedium, Leaves, RestsWith}
use Rattle.slot_store.specs.Gates.{Sees}
use Rattle.slot_store.specs.Opening.{Is}
use Rattle.slot_store.specs.Layout.{needed_of}
use Rattle.slot_journal.specs.Sizes.{slots_of}
use Rattle.slot_journal.specs.declared.fault.JournalFault.{JournalFault}
use Rattle.slot_journal.specs.DiskEntries.{HasEntries}
use Rattle.slot_journal.proofs.Crashing.{one_history}
use Rattle.dots_history.specs.declared.entry.Entry.{Entry}
use Rattle.dots_settings.specs.Settings.{SettingsValue}
use Rattle.dots_machine.specs.Machine.{begun_from}
use Rattle.dots_machine.specs.Outside.{Outside}
use Rattle.dots_machine.specs.Surviving.{MeansAt, EachFrom, LeavesAt}
use Rattle.dots_machine.specs.Endings.{HasRun, Unrecovers, GivesSettings, IsReady}
use Rattle.dots_machine.proofs.Going.{found_again, ready_again}
use Rattle.dots_run.specs.Leaving.{CrashLeaves, HasServed, GoesOn}

each_split : (n : ℕ) (earlier : List Medium) (medium : Medium) (later : List Medium) (P : ℕ → (ℕ → ℕ) → Type 0) (image : ℕ → ℕ) → EachFrom n (earlier ++ medium ∷ later) P → IsImage medium image
    → P (n + length earlier) image
each_split n [] medium later P image each is = subst (λ k. P k image) (omega arith) (each.0 image is)
each_split n (first ∷ earlier) medium later P image each is = subst (λ k. P k image) (omega arith) (each_split (n + 1) earlier medium later P image each.1 is)

-- what holds of each image at each moment holds of what a crash leaves
leaves_there : (m : ℕ) (old new : Option Media) (P : ℕ → (ℕ → ℕ) → Type 0) (image : ℕ → ℕ) → LeavesAt old new P → CrashLeaves m old new image → P m image
leaves_there m None new P image leaves left = absurd leaves
leaves_there m (Some old) None P image leaves left = absurd leaves
leaves_there m (Some old) (Some new) P image leaves left =
    let same = append_cancel_left (all_media old) leaves.0 left.added (sym leaves.1 ∙ left.grown) ∙ left.split in
    let each = subst (λ media. EachFrom (length old.past + 1) media P) same leaves.2 in
    subst (λ k. P k image) (sym left.moment) (each_split (length old.past + 1) left.earlier left.medium left.later P image each left.is)

-- the same of images of which no moment is spoken
leaves_each : (earlier : List Medium) (medium : Medium) (later : List Medium) (P : (ℕ → ℕ) → Type 0) (image : ℕ → ℕ) → EachMedium (earlier ++ medium ∷ later) (λ medium. (image : ℕ → ℕ) → IsImage medium image → P image)
    → IsImage medium image → P image
leaves_each [] medium later P image each is = each.0 image is
leaves_each (first ∷ earlier) medium later P image each is = leaves_each earlier medium later P image each.1 is

leaves_any : (m : ℕ) (old new : Option Media) (P : (ℕ → ℕ) → Type 0) (image : ℕ → ℕ) → Leaves old new P → CrashLeaves m old new image → P image
leaves_any m None new P image leaves left = absurd left
leaves_any m (Some old) None P image leaves left = absurd left
leaves_any m (Some old) (Some new) P image leaves left =
    let same = append_cancel_left (all_media old) leaves.0 left.added (sym leaves.1 ∙ left.grown) ∙ left.split in
    let each = subst (λ media. EachMedium media (λ medium. (image : ℕ → ℕ) → IsImage medium image → P image)) same leaves.2 in
    leaves_each left.earlier left.medium left.later P image each left.is

-- a run over what a crash left of one that recovered nothing finds what that could have found
pub opens : (settings : SettingsValue) (fault : JournalFault) (before now : Outside) (first : Unrecovers settings fault before now) (seen : ℕ → ℕ) (entries : List Entry) → RestsWith before.media (Is seen)
    → HasEntries settings seen entries → (m : ℕ) (image : ℕ → ℕ) → CrashLeaves m before.media now.media image → (then after : Outside) (second : HasServed settings then after) → Sees then.media image → second.stored ≡ entries
opens settings fault before now first seen entries rests holds m image left then after second there =
    let stored = leaves_any m before.media now.media (λ image. HasEntries settings image entries) image (first.moments seen entries rests holds) left in
    one_history settings image second.stored entries (second.was_stored image there) stored

module _ (settings : SettingsValue) (before now : Outside) (first : HasServed settings before now)
    (seen : ℕ → ℕ) (sees : Sees before.media seen) (rests : RestsWith before.media (Is seen)) (xs ys : List Timed) (old : before.acts ≡ Some xs) (new : now.acts ≡ Some ys)
    (m : ℕ) (image : ℕ → ℕ) (left : CrashLeaves m before.media now.media image) where
  has_run : Added (Some xs) (Some ys) (HasRun settings (begun_from settings first.stored) (first.runs_from seen sees).how before now (first.runs_from seen sees).trace (first.runs_from seen sees).end)
  has_run =
      subst (λ acts. Added acts (Some ys) (HasRun settings (begun_from settings first.stored) (first.runs_from seen sees).how before now (first.runs_from seen sees).trace (first.runs_from seen sees).end)) old
      (subst (λ acts. Added before.acts acts (HasRun settings (begun_from settings first.stored) (first.runs_from seen sees).how before now (first.runs_from seen sees).trace (first.runs_from seen sees).end)) new (first.runs_from seen sees).has_run)

  is_meant : MeansAt settings (begun_from settings first.stored) has_run.0 (first.runs_from seen sees).trace (first.runs_from seen sees).end.last.history m image
  is_meant =
      leaves_there m before.media now.media (MeansAt settings (begun_from settings first.stored) has_run.0 (first.runs_from seen sees).trace (first.runs_from seen sees).end.last.history) image
      (has_run.2.survives seen rests) left

  pub goes_on : (then after : Outside) (second : HasServed settings then after) → Sees then.media image
      → (acts : List Timed) × (ys ≡ xs ++ acts)
      × GoesOn settings (begun_from settings first.stored) acts (first.runs_from seen sees).trace (first.runs_from seen sees).end.last.history m second.stored
  goes_on then after second there =
      let found = found_again settings (begun_from settings first.stored) has_run.0 (first.runs_from seen sees).trace (first.runs_from seen sees).end.last.history m image then.media second.stored is_meant there second.was_stored in
      (has_run.0, has_run.1, record { count = found.0; within = found.1; has_shown = found.2; kept = found.3 })

  pub is_ready : (left_then : Option (List ℕ)) (then : Option Media) (extent : ℕ) (gives : GivesSettings left_then) → gives.settings ≡ settings → Sees then image
      → needed_of (slots_of settings) ≤ extent → IsReady left_then then extent
  is_ready left_then then extent gives same there large =
      ready_again (begun_from settings first.stored) has_run.0 (first.runs_from seen sees).trace (first.runs_from seen sees).end.last.history m image left_then then extent gives
      (subst (λ s. MeansAt s (begun_from settings first.stored) has_run.0 (first.runs_from seen sees).trace (first.runs_from seen sees).end.last.history m image) (sym same) is_meant) there
      (subst (λ s. needed_of (slots_of s) ≤ extent) (sym same) large)
