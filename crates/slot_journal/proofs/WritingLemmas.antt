-- What a call that writes leaves, said of entries.
use Rattle.std.proofs.Common.{◌≡◌, inl, inr, ℕ, List, [], ◌∷◌, ◌++◌, length, map, Option, refl, sym, ap, subst, ◌∙◌}
use Rattle.std.specs.List.{AllByRecursion}
use Rattle.std.proofs.lemmas.List.{length-map}
use Rattle.dots_host.specs.Media.{Media}
use Rattle.dots_host.specs.Becoming.{Leaves, RestsWith}
use Rattle.dots_settings.specs.Settings.{SettingsValue}
use Rattle.slot_store.specs.declared.format.Format.{Format}
use Rattle.slot_store.specs.declared.format.Format.TheVariants.{Two}
use Rattle.slot_store.specs.Formats.{rewritten}
use Rattle.dots_history.specs.declared.entry.Entry.{Entry}
use Rattle.slot_journal.specs.Layout.{record_bytes}
use Rattle.slot_journal.specs.Records.{IsRecord}
use Rattle.slot_store.specs.Layout.{HasRecords}
use Rattle.slot_store.specs.Copying.{AreSlots, kept_of}
use Rattle.slot_store.specs.StoreValues.{JournalValue, RepresentsRecords, HasEither as RecordsEither}
use Rattle.slot_store.proofs.Steps.{leaves_as, seen_at_rest, rests_as}
use Rattle.slot_journal.specs.Sizes.{slots_of}
use Rattle.slot_journal.specs.DiskEntries.{HasRecord, HasEntries, HasEither, Represents, records_of, entries_at}
use Rattle.slot_journal.proofs.Listed.{all_push, records_push, are_kept}

-- the records are those of these entries, in this format
pub record AreOf (format : Format) (records : List (List ℕ)) (entries : List Entry) : Type 0 where
  pub same : records ≡ records_of format entries
  pub each : AllByRecursion HasRecord entries

pub image_has : (settings : SettingsValue) (slots : ℕ) (format : Format) (image : ℕ → ℕ) (records : List (List ℕ)) (entries : List Entry) → slots ≡ slots_of settings → AreOf format records entries → HasRecords slots settings.digest format image records → HasEntries settings image entries
image_has settings slots format image records entries size are is = record {
  format = format;
  records = subst (λ slots. HasRecords slots settings.digest format image (records_of format entries)) size (subst (HasRecords slots settings.digest format image) are.same is);
  each = are.each;
}

either : (settings : SettingsValue) (slots : ℕ) (format next : Format) (image : ℕ → ℕ) (records : List (List ℕ)) (first second : List Entry) → slots ≡ slots_of settings → AllByRecursion HasRecord first → AreOf next records second
    → RecordsEither slots settings.digest format (records_of format first) next records image → HasEither settings first second image
either settings slots format next image records first second size all are (inl is) = inl (image_has settings slots format image (records_of format first) first size (record { same = refl; each = all }) is)
either settings slots format next image records first second size all are (inr is) = inr (image_has settings slots next image records second size are is)

-- each image holds the one list or the other
pub leaves_either : (start new : Option Media) (journal : JournalValue) (next : Format) (settings : SettingsValue) (records : List (List ℕ)) (first second : List Entry)
    → ((image : ℕ → ℕ) → Represents journal settings first image → AreOf next records second) → RestsWith start (Represents journal settings first)
    → (RestsWith start (RepresentsRecords journal settings.digest (records_of journal.format first)) → Leaves start new (RecordsEither journal.slots settings.digest journal.format (records_of journal.format first) next records))
    → Leaves start new (HasEither settings first second)
leaves_either start new journal next settings records first second are rests leaves =
    let found = seen_at_rest start (Represents journal settings first) rests in
    leaves_as start new (RecordsEither journal.slots settings.digest journal.format (records_of journal.format first) next records) (HasEither settings first second)
    (λ image is. either settings journal.slots journal.format next image records first second found.2.slots found.2.each (are found.0 found.2) is)
    (leaves (rests_as start (Represents journal settings first) (RepresentsRecords journal settings.digest (records_of journal.format first)) (λ image is. is.represents) rests))

-- in the end the journal represents the other list
pub rests_second : (start new : Option Media) (journal next : JournalValue) (format : Format) (settings : SettingsValue) (records : List (List ℕ)) (first second : List Entry) → next.slots ≡ journal.slots → next.format ≡ format
    → ((image : ℕ → ℕ) → Represents journal settings first image → AreOf format records second) → RestsWith start (Represents journal settings first)
    → (RestsWith start (RepresentsRecords journal settings.digest (records_of journal.format first)) → RestsWith new (RepresentsRecords next settings.digest records))
    → RestsWith new (Represents next settings second)
rests_second start new journal next format settings records first second same formats are rests goes =
    let found = seen_at_rest start (Represents journal settings first) rests in
    let of = are found.0 found.2 in
    rests_as new (RepresentsRecords next settings.digest records) (Represents next settings second)
    (λ image is. record { slots = same ∙ found.2.slots; represents = subst (λ records. RepresentsRecords next settings.digest records image) (of.same ∙ ap (λ format. records_of format second) (sym formats)) is; each = of.each })
    (goes (rests_as start (Represents journal settings first) (RepresentsRecords journal settings.digest (records_of journal.format first)) (λ image is. is.represents) rests))

pub has_record : (format : Format) (bytes : List ℕ) (entry : Entry) → IsRecord format bytes entry → HasRecord entry
has_record format bytes entry is = record { typed = is.typed; within = is.within }

-- one entry more
pub appended : (journal : JournalValue) (settings : SettingsValue) (entries : List Entry) (entry : Entry) (bytes : List ℕ) (image : ℕ → ℕ) → bytes ≡ record_bytes journal.format entry → HasRecord entry → Represents journal settings entries image
    → AreOf journal.format (records_of journal.format entries ++ bytes ∷ []) (entries ++ entry ∷ [])
appended journal settings entries entry bytes image is has represents = record { same = records_push journal.format entries entry bytes is; each = all_push HasRecord entries entry represents.each has }

-- the kept entries
pub kept : (journal : JournalValue) (settings : SettingsValue) (entries : List Entry) (keep : List ℕ) (image : ℕ → ℕ) → AreSlots journal.used keep → Represents journal settings entries image
    → AreOf Two (map (rewritten journal.format) (kept_of (records_of journal.format entries) keep)) (entries_at entries keep)
kept journal settings entries keep image slots represents =
    let count : journal.used ≡ length entries = represents.represents.used ∙ length-map entries (record_bytes journal.format) in
    let are = are_kept journal.format entries keep (subst (λ used. AreSlots used keep) count slots) represents.each in
    record { same = are.records; each = are.each }
