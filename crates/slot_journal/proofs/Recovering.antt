-- How a disk is recovered: what was opened and read is what the disk held.
use Rattle.std.proofs.Common.{◌≡◌, ◌≢◌, ◌⊎◌, inl, inr, ℕ, ◌%◌, ◌<◌, ◌≤◌, List, [], length, Option, refl, sym, ap, subst, ◌∙◌, arith}
use Rattle.std.specs.Prelude.{⊤, Err}
use Rattle.std.specs.List.{AllByRecursion}
use Rattle.std.proofs.lemmas.List.{length-map}
use Rattle.dots_host.specs.Media.{Media}
use Rattle.dots_host.specs.Becoming.{KeepsMedia, Leaves, RestsWith}
use Rattle.dots_settings.specs.Settings.{SettingsValue}
use Rattle.slot_store.specs.declared.format.Format.{Format}
use Rattle.slot_store.specs.declared.format.Format.TheVariants.{Two}
use Rattle.dots_history.specs.declared.entry.Entry.{Entry}
use Rattle.slot_journal.specs.Layout.{record_bytes}
use Rattle.slot_store.specs.declared.fault.OpenFault.{OpenFault}
use Rattle.slot_store.specs.declared.fault.OpenFault.TheVariants as opening
use Rattle.slot_store.specs.Layout.{place_of, IsHeader, HasFormat, IsHalf, IsBlank, IsJournal, HasRecords}
use Rattle.slot_store.specs.Opening.{Is}
use Rattle.slot_store.specs.Gates.{Sees}
use Rattle.slot_store.specs.Refusing.{Refuses as RefusesStore, IsSmallBy as IsSmallStore, IsOpen, IsCount, Caused as CausedOpening}
use Rattle.slot_store.specs.StoreValues.{JournalValue, IsKnown}
use Rattle.slot_store.proofs.Steps.{leaves_as, leaves_then, seen_at_rest, rests_as}
use Rattle.slot_store.proofs.DiskReading.{sees_at_rest, rests_unchanged, leaves_unchanged}
use Rattle.slot_store.proofs.Counting.{opened_format, opened_journal}
use Rattle.slot_store.proofs.SameRecords.{one_list}
use Rattle.slot_journal.specs.declared.fault.JournalFault.{JournalFault}
use Rattle.slot_journal.specs.declared.fault.JournalFault.TheVariants as fault
use Rattle.slot_journal.specs.Sizes.{slots_of}
use Rattle.slot_journal.specs.DiskEntries.{HasRecord, HasEntries, Represents, records_of}
use Rattle.slot_journal.specs.Refused.{Refuses, RefusesHalf, IsBadSlot, IsGap, IsSmallBy, IsNoSize, IsFaultFor, Caused}
use Rattle.slot_journal.proofs.WritingLemmas.{image_has}

-- ---- the faults of the slots

pub fault_refuses : (settings : SettingsValue) (extent : ℕ) (seen : ℕ → ℕ) (why : OpenFault) (answer : JournalFault) → IsFaultFor why settings.digest answer → RefusesStore (slots_of settings) settings.digest extent seen why → Refuses settings extent seen answer
fault_refuses settings extent seen (opening.TooSmall needed found) answer is refuses = subst (Refuses settings extent seen) (sym is) refuses
fault_refuses settings extent seen (opening.NotOurs at) answer is refuses = subst (Refuses settings extent seen) (sym is) (inl refuses)
fault_refuses settings extent seen (opening.SettingsChanged stored) answer is refuses = subst (Refuses settings extent seen) (sym is) (refuses, refl)
fault_refuses settings extent seen opening.DiskFault answer is refuses = subst (Refuses settings extent seen) (sym is) tt
fault_refuses settings extent seen opening.NoMemory answer is refuses = subst (Refuses settings extent seen) (sym is) tt

pub fault_other : (why : OpenFault) (given : List ℕ) (answer : JournalFault) → IsFaultFor why given answer → answer ≢ fault.DiskFault → why ≢ opening.DiskFault
fault_other why given answer is other same = other (subst (λ why. IsFaultFor why given answer) same is)

pub fault_caused : (why : OpenFault) (given : List ℕ) (answer : JournalFault) (before now : ℕ) → IsFaultFor why given answer → CausedOpening {A = ⊤} before now (Err why) → Caused {A = ⊤} before now (Err answer)
fault_caused (opening.TooSmall needed found) given answer before now is cause = subst (λ answer. Caused {A = ⊤} before now (Err answer)) (sym is) cause
fault_caused (opening.NotOurs at) given answer before now is cause = subst (λ answer. Caused {A = ⊤} before now (Err answer)) (sym is) cause
fault_caused (opening.SettingsChanged stored) given answer before now is cause = subst (λ answer. Caused {A = ⊤} before now (Err answer)) (sym is) cause
fault_caused opening.DiskFault given answer before now is cause = subst (λ answer. Caused {A = ⊤} before now (Err answer)) (sym is) cause
fault_caused opening.NoMemory given answer before now is cause = subst (λ answer. Caused {A = ⊤} before now (Err answer)) (sym is) cause

pub fault_small : (settings : SettingsValue) (extent : ℕ) (given : List ℕ) (why : OpenFault) (answer : JournalFault) → IsFaultFor why given answer → IsSmallStore (slots_of settings) extent why → IsSmallBy settings extent answer
fault_small settings extent given (opening.TooSmall needed found) answer is small = subst (IsSmallBy settings extent) (sym is) small
fault_small settings extent given (opening.NotOurs at) answer is small = subst (IsSmallBy settings extent) (sym is) tt
fault_small settings extent given (opening.SettingsChanged stored) answer is small = subst (IsSmallBy settings extent) (sym is) tt
fault_small settings extent given opening.DiskFault answer is small = subst (IsSmallBy settings extent) (sym is) tt
fault_small settings extent given opening.NoMemory answer is small = subst (IsSmallBy settings extent) (sym is) tt

pub other_size : (settings : SettingsValue) (extent : ℕ) (why : JournalFault) → IsNoSize why → IsSmallBy settings extent why
other_size settings extent (fault.TooSmall needed found) other = absurd other
other_size settings extent (fault.NotOurs at) other = tt
other_size settings extent (fault.SettingsChanged stored given) other = tt
other_size settings extent fault.DiskFault other = tt
other_size settings extent fault.NoMemory other = tt

-- ---- a half that was read of a disk that was opened

half_of : (slots half other : ℕ) (image : ℕ → ℕ) (records : List (List ℕ)) → half ≡ other → IsHalf slots half image records → IsHalf slots other image records
half_of slots half other image records same is = subst (λ half. IsHalf slots half image records) same is

pub record IsRead (settings : SettingsValue) (store : JournalValue) (entries : List Entry) (seen image : ℕ → ℕ) : Type 0 where
  pub journal : IsJournal store.slots settings.digest store.format image (records_of store.format entries)
  pub filled : HasRecords store.slots settings.digest store.format seen (records_of store.format entries)

pub is_read : (settings : SettingsValue) (store : JournalValue) (entries : List Entry) (seen image : ℕ → ℕ) → IsKnown store settings.digest seen image → IsHalf store.slots (store.selector % 2) image (records_of store.format entries) → IsRead settings store entries seen image
is_read settings store entries seen image known half = by_cases known.opened.cases
  where
    here : IsHalf store.slots (image 48 % 2) image (records_of store.format entries)
    here = half_of store.slots (store.selector % 2) (image 48 % 2) image (records_of store.format entries) (ap (λ n. n % 2) (sym known.opened.selector_there)) half

    by_cases : (IsHeader store.slots settings.digest seen × (image ≡ seen)) ⊎ (IsBlank store.slots seen [] × IsJournal store.slots settings.digest Two image []) → IsRead settings store entries seen image
    by_cases (inl as_it_was) =
        let journal : IsJournal store.slots settings.digest store.format image (records_of store.format entries) =
        record { header = subst (IsHeader store.slots settings.digest) (sym as_it_was.1) as_it_was.0; format_there = known.opened.format_there; half = here } in
        record { journal = journal; filled = inr (subst (λ image. IsJournal store.slots settings.digest store.format image (records_of store.format entries)) as_it_was.1 journal) }
    by_cases (inr formatted) =
        let journal : IsJournal store.slots settings.digest store.format image (records_of store.format entries) =
        record { header = formatted.1.header; format_there = known.opened.format_there; half = here } in
        let none = one_list store.slots settings.digest store.format Two image (records_of store.format entries) [] (inr journal) (inr formatted.1) in
        record { journal = journal; filled = inl (record { gate = formatted.0.gate; gates = formatted.0.gates; none = none.1 }, none.0) }

pub record IsRecovered (settings : SettingsValue) (store : JournalValue) (entries : List Entry) (seen : ℕ → ℕ) (new : Option Media) : Type 0 where
  pub filled : HasEntries settings seen entries
  pub rests : RestsWith new (Represents store settings entries)

pub recovered : (between new : Option Media) (settings : SettingsValue) (store : JournalValue) (entries : List Entry) (seen : ℕ → ℕ) → store.slots ≡ slots_of settings → RestsWith between (IsKnown store settings.digest seen) → KeepsMedia between new
    → length entries ≡ store.used → AllByRecursion HasRecord entries
    → ((image : ℕ → ℕ) → Sees between image → IsCount store.slots (store.selector % 2) image store.used → IsHalf store.slots (store.selector % 2) image (records_of store.format entries))
    → IsRecovered settings store entries seen new
recovered between new settings store entries seen size known keeps count each half =
    let found = seen_at_rest between (IsKnown store settings.digest seen) known in
    let read = is_read settings store entries seen found.0 found.2 (half found.0 (sees_at_rest between found.0 found.1) found.2.count) in
    let used : store.used ≡ length (records_of store.format entries) = sym count ∙ sym (length-map entries (record_bytes store.format)) in
    let represents : Represents store settings entries found.0 = record {
      slots = size;
      represents = record { journal = read.journal; used = used; selector = found.2.opened.selector_there };
      each = each;
    } in
    record {
      filled = image_has settings store.slots store.format seen (records_of store.format entries) entries size (record { same = refl; each = each }) read.filled;
      rests = rests_unchanged between new (Represents store settings entries) keeps (rests_as between (Is found.0) (Represents store settings entries) (λ image same. subst (Represents store settings entries) (sym same) represents) found.1);
    }

-- a disk that had a header is as it was
pub stays : (between new : Option Media) (digest : List ℕ) (store : JournalValue) (seen : ℕ → ℕ) → RestsWith between (IsKnown store digest seen) → KeepsMedia between new → seen 0 ≡ 165 → RestsWith new (Is seen)
stays between new digest store seen known keeps gate =
    let found = seen_at_rest between (IsKnown store digest seen) known in
    rests_unchanged between new (Is seen) keeps (rests_as between (Is found.0) (Is seen) (λ image same. same ∙ was found.0 found.2.opened.cases) found.1)
  where
    was : (image : ℕ → ℕ) → (IsHeader store.slots digest seen × (image ≡ seen)) ⊎ (IsBlank store.slots seen [] × IsJournal store.slots digest Two image []) → image ≡ seen
    was image (inl same) = same.1
    was image (inr formatted) = absurd (formatted.0.gate gate)

-- ---- what is held stays held

pub has_opening : (start between : Option Media) (settings : SettingsValue) (format : Format) (entries : List Entry) → AllByRecursion HasRecord entries → Leaves start between (λ image. HasRecords (slots_of settings) settings.digest format image (records_of format entries)) → Leaves start between (λ image. HasEntries settings image entries)
has_opening start between settings format entries each leaves =
    leaves_as start between (λ image. HasRecords (slots_of settings) settings.digest format image (records_of format entries)) (λ image. HasEntries settings image entries)
    (λ image is. record { format = format; records = is; each = each }) leaves

pub has_reading : (start between new : Option Media) (settings : SettingsValue) (store : JournalValue) (entries : List Entry) (seen : ℕ → ℕ) → store.slots ≡ slots_of settings → (is : HasEntries settings seen entries) → RestsWith between (IsKnown store settings.digest seen) → KeepsMedia between new
    → Leaves start between (λ image. HasRecords (slots_of settings) settings.digest is.format image (records_of is.format entries)) → Leaves start new (λ image. HasEntries settings image entries)
has_reading start between new settings store entries seen size is known keeps leaves =
    let found = seen_at_rest between (IsKnown store settings.digest seen) known in
    let opened : IsOpen (slots_of settings) settings.digest seen store.selector store.format found.0 = subst (λ slots. IsOpen slots settings.digest seen store.selector store.format found.0) size found.2.opened in
    let same = opened_format (slots_of settings) settings.digest seen found.0 store.selector store.format is.format (records_of is.format entries) opened is.records in
    let journal = subst (λ format. IsJournal (slots_of settings) settings.digest format found.0 (records_of is.format entries)) same
    (opened_journal (slots_of settings) settings.digest seen found.0 store.selector store.format is.format (records_of is.format entries) opened is.records) in
    leaves_then start between new (λ image. HasEntries settings image entries) (has_opening start between settings is.format entries is.each leaves)
    (leaves_unchanged between new found.0 (λ image. HasEntries settings image entries) keeps found.1 (record { format = is.format; records = inr journal; each = is.each }))

-- ---- why a half is refused

-- a half of a disk that was just formatted has no open gate
none_open : (slots : ℕ) (digest : List ℕ) (image : ℕ → ℕ) (selector slot : ℕ) → IsJournal slots digest Two image [] → image 48 ≡ selector → slot < slots → image (place_of slots (selector % 2) slot) ≢ 165
none_open slots digest image selector slot journal there under =
    let low : 0 ≤ slot = omega arith in
    subst (λ half. image (place_of slots half slot) ≢ 165) (ap (λ n. n % 2) there) (journal.half.closed slot low under)

-- so a disk with an open gate is as it was
as_it_was : (store : JournalValue) (digest : List ℕ) (seen image : ℕ → ℕ) (slot : ℕ) → IsKnown store digest seen image → slot < store.slots → image (place_of store.slots (store.selector % 2) slot) ≡ 165 → IsHeader store.slots digest seen × (image ≡ seen)
as_it_was store digest seen image slot known under gate = by_cases known.opened.cases
  where
    by_cases : (IsHeader store.slots digest seen × (image ≡ seen)) ⊎ (IsBlank store.slots seen [] × IsJournal store.slots digest Two image []) → IsHeader store.slots digest seen × (image ≡ seen)
    by_cases (inl same) = same
    by_cases (inr formatted) = absurd (none_open store.slots digest image store.selector slot formatted.1 known.opened.selector_there under gate)

abbrev Bad : ℕ → ℕ → Format → (ℕ → ℕ) → ℕ → Type 0
Bad slots half format seen at = IsBadSlot slots half format seen at ⊎ IsGap slots half format seen at

open_of : (slots half : ℕ) (format : Format) (seen : ℕ → ℕ) (at : ℕ) → Bad slots half format seen at → (slot : ℕ) × (slot < slots) × (seen (place_of slots half slot) ≡ 165)
open_of slots half format seen at (inl bad) = (length bad.before, bad.within, ap seen (sym bad.there) ∙ bad.gate)
open_of slots half format seen at (inr gap) = (gap.slot, gap.within, ap seen (sym gap.there) ∙ gap.gate)

pub half_refuses : (between : Option Media) (settings : SettingsValue) (store : JournalValue) (extent : ℕ) (seen : ℕ → ℕ) (why : JournalFault) → store.slots ≡ slots_of settings → RestsWith between (IsKnown store settings.digest seen)
    → ((image : ℕ → ℕ) → Sees between image → IsCount store.slots (store.selector % 2) image store.used → RefusesHalf store.slots (store.selector % 2) store.format image why) → Refuses settings extent seen why
half_refuses between settings store extent seen why size known refuses =
    let found = seen_at_rest between (IsKnown store settings.digest seen) known in
    by_fault why found.0 found.2 (refuses found.0 (sees_at_rest between found.0 found.1) found.2.count)
  where
    by_fault : (why : JournalFault) (image : ℕ → ℕ) → IsKnown store settings.digest seen image → RefusesHalf store.slots (store.selector % 2) store.format image why → Refuses settings extent seen why
    by_fault (fault.NotOurs at) image is bad =
        let opened = open_of store.slots (store.selector % 2) store.format image at bad in
        let was = as_it_was store settings.digest seen image opened.0 is opened.1 opened.2 in
        let half : store.selector % 2 ≡ seen 48 % 2 = ap (λ n. n % 2) (sym is.opened.selector_there ∙ ap (λ image. image 48) was.1) in
        inr (
          subst (λ slots. IsHeader slots settings.digest seen) size was.0,
          (
            store.format,
            subst (HasFormat store.format) was.1 is.opened.format_there,
            subst (λ slots. Bad slots (seen 48 % 2) store.format seen at) size
                (subst (λ half. Bad store.slots half store.format seen at) half (subst (λ image. Bad store.slots (store.selector % 2) store.format image at) was.1 bad)),
          ),
        )
    by_fault fault.DiskFault image is bad = tt
    by_fault fault.NoMemory image is bad = tt
    by_fault (fault.TooSmall needed bytes) image is bad = absurd bad
    by_fault (fault.SettingsChanged stored given) image is bad = absurd bad

-- a disk of which a half was refused was not written
pub not_written : (between new : Option Media) (digest : List ℕ) (store : JournalValue) (seen : ℕ → ℕ) (why : JournalFault) → why ≢ fault.DiskFault → RestsWith between (IsKnown store digest seen) → KeepsMedia between new → (why ≡ fault.NoMemory → 0 < store.used)
    → ((image : ℕ → ℕ) → Sees between image → IsCount store.slots (store.selector % 2) image store.used → RefusesHalf store.slots (store.selector % 2) store.format image why) → RestsWith new (Is seen)
not_written between new digest store seen why other known keeps some refuses =
    let found = seen_at_rest between (IsKnown store digest seen) known in
    let opened = by_fault why found.0 found.2 other some (refuses found.0 (sees_at_rest between found.0 found.1) found.2.count) in
    let was = as_it_was store digest seen found.0 opened.0 found.2 opened.1 opened.2 in
    rests_unchanged between new (Is seen) keeps (rests_as between (Is found.0) (Is seen) (λ image same. same ∙ was.1) found.1)
  where
    by_fault : (why : JournalFault) (image : ℕ → ℕ) → IsKnown store digest seen image → why ≢ fault.DiskFault → (why ≡ fault.NoMemory → 0 < store.used) → RefusesHalf store.slots (store.selector % 2) store.format image why
        → (slot : ℕ) × (slot < store.slots) × (image (place_of store.slots (store.selector % 2) slot) ≡ 165)
    by_fault (fault.NotOurs at) image is other some bad = open_of store.slots (store.selector % 2) store.format image at bad
    by_fault fault.DiskFault image is other some bad = absurd (other refl)
    by_fault fault.NoMemory image is other some bad =
        let low = some refl in
        let fits = is.count.fits in
        (0, omega (arith, low, fits), is.count.gates 0 low)
    by_fault (fault.TooSmall needed bytes) image is other some bad = absurd bad
    by_fault (fault.SettingsChanged stored given) image is other some bad = absurd bad
