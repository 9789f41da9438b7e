-- A journal that is made holds what goes over.
use Rattle.std.proofs.Common.{◌≡◌, ℕ, ◌≤◌, List, [], ◌++◌, map, max, length, Option, Some, None, refl, ap, ◌∙◌, subst, arith}
use Rattle.std.specs.Prelude.{codes}
use Rattle.std.proofs.lemmas.List.{length-map}
use Rattle.dots_host.specs.Media.{Media}
use Rattle.dots_host.specs.Becoming.{RestsWith}
use Rattle.dots_settings.specs.declared.limits.Limits.{Limits}
use Rattle.dots_settings.specs.Settings.{SettingsValue}
use Rattle.dots_history.specs.declared.entry.Entry.{Entry}
use Rattle.dots_history.specs.Histories.{Kept, Within}
use Rattle.dots_history.specs.Keeping.{kept}
use Rattle.dots_history.specs.Slots.{Rises}
use Rattle.dots_history.specs.Fits.{last_time}
use Rattle.dots_history.specs.Filed.{Filed, entry_of, slot_of}
use Rattle.dots_history.proofs.Composing.{kept_later}
use Rattle.slot_store.specs.Gates.{Sees}
use Rattle.slot_store.proofs.Steps.{rests_as}
use Rattle.slot_journal.specs.DiskEntries.{HasEntries}
use Rattle.slot_journal.specs.DiskEntries as journal
use Rattle.slot_journal.specs.Kept.{HasKept}
use Rattle.slot_journal.proofs.Crashing.{one_history, represents_has}
use Rattle.dots_registry.specs.Beginning.{HasBegun}
use Rattle.dots_registry.specs.Kept.{filed, filed_kept, named_slots}
use Rattle.dots_registry.specs.Filed.{RepresentsFiled}
use Rattle.dots_registry.specs.RegistryValues.{time_of, number_remembered}
use Rattle.dots_registry.specs.LedgerValues.{LedgerValue}
use Rattle.dots_registry.proofs.Numbering.{filed_rise}
use Rattle.dots_script.specs.Summary.{count_line}
use Rattle.host_checks.specs.declared.kept_entry.KeptEntry.{KeptEntry}
use Rattle.host_checks.specs.KeptEntries.{judged, picked}
use Rattle.host_checks.specs.Migrating.{migrated}
use Rattle.host_checks.specs.Leavings.{left_after}
use Rattle.host_checks.specs.Making.{HasTakenAll, HasNamed, HasCounting, IsFilledWith, IsMadeFrom}
use Rattle.host_checks.proofs.NamedEntries.{named_picked, kept_of_filed, named_times}

-- the slots that a ledger names, of the disk that it began with
pub named_of : (settings : SettingsValue) (now : ℕ) (start media : Option Media) (ledger : LedgerValue) (slots : List ℕ) → HasBegun settings now start media ledger
    → ((all : List Filed) → RepresentsFiled ledger.registry all → Rises (map slot_of all) → slots ≡ named_slots (number_remembered ledger.registry) (time_of ledger.registry) all)
    → (seen : ℕ → ℕ) → Sees start seen → HasNamed settings now seen media slots
named_of settings now start media ledger slots begun named seen sees = record {
  entries = begun.entries;
  image_has = begun.stored seen sees;
  calm = begun.represents.calm;
  named = named (filed begun.entries) begun.represents.represents_filed (filed_rise begun.entries)
      ∙ ap (λ n. named_slots n (time_of ledger.registry) (filed begun.entries)) (ap (λ (l : Limits). l.remembered) begun.represents.is_of.limits)
      ∙ ap (λ t. named_slots settings.limits.remembered t (filed begun.entries)) begun.time;
  rests = rests_as
      media
      (journal.Represents ledger.journal settings begun.entries)
      (λ image. HasEntries settings image begun.entries)
      (λ image is. represents_has ledger.journal settings begun.entries image is)
      (begun.rests seen sees);
}

-- what is picked by them, of the entries that are read again
pub counting_of : (old new : SettingsValue) (now : ℕ) (seen : ℕ → ℕ) (media : Option Media) (keep : List ℕ) (found : List Entry) (list : List KeptEntry) → HasNamed old now seen media keep
    → ((image : ℕ → ℕ) → Sees media image → HasEntries old image found) → list ≡ map (judged old new) (picked keep 0 found) → HasCounting old new now seen list
counting_of old new now seen None keep found list named again are = absurd named.rests
counting_of old new now seen (Some media) keep found list named again are =
    let n = old.limits.remembered in
    let t = max now (last_time named.entries) in
    let same : found ≡ named.entries = one_history old media.now.seen found named.entries (again media.now.seen refl) named.rests.1 in
    record {
      entries = named.entries;
      image_has = named.image_has;
      calm = named.calm;
      counting = are
          ∙ ap (λ es. map (judged old new) (picked keep 0 es)) same
          ∙ ap (λ slots. map (judged old new) (picked slots 0 named.entries)) named.named
          ∙ ap (map (judged old new)) (named_picked n t named.entries);
    }

-- what a ledger took is what goes over
pub filled_with : (old new : SettingsValue) (t : ℕ) (list : List KeptEntry) (filed : List Filed) (ledger : LedgerValue) (media : Option Media) (front text : List ℕ) → list ≡ map (judged old new) filed
    → front ≡ count_line (codes "entries that count") (length list) → HasTakenAll old new [] filed t ledger media front text → IsFilledWith old new t filed media text
filled_with old new t list filed ledger media front text are count all =
    let taken = all.taken in
    let history = migrated old new (map entry_of filed) in
    record {
      disk = rests_as
          media
          (journal.Represents ledger.journal new taken.few)
          (HasKept new new.limits.remembered t history)
          (λ image is.
          record {
            entries = taken.few;
            image_has = represents_has ledger.journal new taken.few image is;
            calm = taken.represents.calm;
            kept = kept_later
                new.limits.remembered
                (time_of ledger.registry)
                t
                taken.few
                history
                all.early
                (subst (λ n. Kept n (time_of ledger.registry) taken.few history) (ap (λ (l : Limits). l.remembered) taken.represents.is_of.limits) taken.represents.kept);
          })
          taken.rests;
      told = all.told
          ∙ ap (λ zs. zs ++ left_after old new [] filed) count
          ∙ ap (λ n. count_line (codes "entries that count") n ++ left_after old new [] filed) (ap (length {A = KeptEntry}) are ∙ length-map filed (judged old new));
    }

-- of the entries that count
pub made_from : (old new : SettingsValue) (now : ℕ) (seen : ℕ → ℕ) (list : List KeptEntry) (media : Option Media) (text : List ℕ) → HasCounting old new now seen list
    → ((few : List Filed) (t : ℕ) → list ≡ map (judged old new) few → Within 0 (map entry_of few) t → IsFilledWith old new t few media text) → IsMadeFrom old new now seen media text
made_from old new now seen list media text counting fill =
    let entries = counting.entries in
    let n = old.limits.remembered in
    let t = max now (last_time entries) in
    let few = filed_kept n t (filed entries) in
    let so = fill few t counting.counting (named_times old n t entries counting.calm (later now (last_time entries))) in
    record {
      entries = entries;
      image_has = counting.image_has;
      calm = counting.calm;
      made = record {
        disk = subst (λ es. RestsWith media (HasKept new new.limits.remembered t (migrated old new es))) (kept_of_filed n t entries) so.disk;
        told = so.told;
      };
    }
  where
    later : (a b : ℕ) → b ≤ max a b
    later a b = omega arith
