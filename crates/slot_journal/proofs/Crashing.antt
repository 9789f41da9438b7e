-- What is left of a disk at a moment of calls, and what is recovered of it.
use Rattle.std.proofs.Common.{◌≡◌, ◌⊎◌, inl, inr, ℕ, zero, suc, ◌%◌, ◌<◌, ◌≤◌, List, [], ◌∷◌, ◌++◌, length, get_or, Option, Some, None, Result, Ok, Err, refl, sym, ap, subst, ◌∙◌, arith}
use Rattle.std.specs.Prelude.{OnOk}
use Rattle.std.specs.List.{AllByRecursion}
use Rattle.std.proofs.lemmas.List.{append_cancel_left, length-map}
use Rattle.std.proofs.lemmas.Bool.{cases_lt}
use Rattle.std.proofs.Math.Path.{fun_ext}
use Rattle.dots_host.specs.Media.{Medium, Media, all_media, byte_of}
use Rattle.dots_host.specs.Becoming.{EachMedium, Leaves, RestsWith}
use Rattle.dots_settings.specs.Settings.{SettingsValue}
use Rattle.slot_store.specs.declared.format.Format.{Format}
use Rattle.slot_store.specs.declared.format.Format.TheVariants.{One, Two}
use Rattle.dots_history.specs.declared.entry.Entry.{Entry}
use Rattle.slot_journal.specs.Layout.{record_bytes}
use Rattle.slot_journal.specs.Records.{IsRecord}
use Rattle.slot_journal.proofs.Places.{one_entry}
use Rattle.slot_store.specs.Layout.{place_of, IsHeader, HasFormat, IsSlot, IsHalf, IsBlank, IsJournal, HasRecords}
use Rattle.slot_store.specs.StoreValues.{JournalValue}
use Rattle.slot_store.specs.Refusing.{IsOtherHeader, IsStrayGate, FirstWrong, front, format as no_format, rest, size}
use Rattle.slot_store.proofs.Steps.{Images, image_at_rest, rests_as}
use Rattle.slot_store.proofs.SameRecords.{gate_of_header, one_format, one_list}
use Rattle.slot_journal.specs.declared.fault.JournalFault.{JournalFault}
use Rattle.slot_journal.specs.declared.fault.JournalFault.TheVariants as fault
use Rattle.slot_journal.specs.Sizes.{slots_of}
use Rattle.slot_journal.specs.DiskEntries.{HasRecord, HasEntries, HasEither, Represents, records_of}
use Rattle.slot_journal.specs.Left.{IsLeft}
use Rattle.slot_journal.proofs.WritingLemmas.{image_has}
use Rattle.slot_journal.specs.Refused.{Refuses, IsRefusal, IsBadSlot, IsGap}

-- ---- an image at a moment

among : (earlier : List Medium) (medium : Medium) (later : List Medium) (P : Medium → Type 0) → EachMedium (earlier ++ medium ∷ later) P → P medium
among [] medium later P each = each.0
among (first ∷ earlier) medium later P each = among earlier medium later P each.1

pub left_has : (old new : Option Media) (P : (ℕ → ℕ) → Type 0) (image : ℕ → ℕ) → RestsWith old P → Leaves old new P → IsLeft old new image → P image
left_has None new P image rests leaves left = absurd rests
left_has (Some old) None P image rests leaves left = absurd leaves
left_has (Some old) (Some new) P image rests leaves left =
    let same : leaves.0 ≡ left.added = append_cancel_left (all_media old) leaves.0 left.added (sym leaves.1 ∙ left.grown) in
    let each : EachMedium (old.now ∷ left.added) (Images P) = (first, subst (λ media. EachMedium media (Images P)) same leaves.2) in
    among left.earlier left.medium left.later (Images P) (subst (λ media. EachMedium media (Images P)) left.moment each) image left.is
  where
    first : Images P old.now
    first image of = subst P (sym (fun_ext (image_at_rest old.now image rests.0 of))) rests.1

-- ---- one list of entries

pub same_entries : (format : Format) (first second : List Entry) → AllByRecursion HasRecord first → AllByRecursion HasRecord second → records_of format first ≡ records_of format second
    → ((bytes : List ℕ) (one other : Entry) → IsRecord format bytes one → IsRecord format bytes other → one ≡ other) → first ≡ second
same_entries format [] [] all each same unique = refl
same_entries format [] (other ∷ second) all each same unique = absurd (no_nil (sym same))
  where
    no_nil : records_of format (other ∷ second) ≡ [] → ⊥
    no_nil is = let size : length (records_of format (other ∷ second)) ≡ 0 = ap (length {A = List ℕ}) is in omega (arith, size)
same_entries format (one ∷ first) [] all each same unique = absurd (no_nil same)
  where
    no_nil : records_of format (one ∷ first) ≡ [] → ⊥
    no_nil is = let size : length (records_of format (one ∷ first)) ≡ 0 = ap (length {A = List ℕ}) is in omega (arith, size)
same_entries format (one ∷ first) (other ∷ second) all each same unique =
    let here : record_bytes format one ≡ record_bytes format other = ap head same in
    let later : records_of format first ≡ records_of format second = ap tail same in
    let entry : one ≡ other = unique (record_bytes format one) one other (record { typed = all.0.typed; within = all.0.within; is = refl }) (record { typed = each.0.typed; within = each.0.within; is = here }) in
    ap (λ entry. entry ∷ first) entry ∙ ap (λ rest. other ∷ rest) (same_entries format first second all.1 each.1 later unique)
  where
    head : List (List ℕ) → List ℕ
    head [] = []
    head (x ∷ xs) = x

    tail : List (List ℕ) → List (List ℕ)
    tail [] = []
    tail (x ∷ xs) = xs

-- ---- a disk that holds a list isn't refused

blank_refused : (slots : ℕ) (image : ℕ → ℕ) (at : ℕ) → IsBlank slots image [] → IsStrayGate slots image at → ⊥
blank_refused slots image at blank stray = stray.wrong (ap image stray.slot.4 ∙ blank.gates stray.slot.0 stray.slot.1 stray.slot.2 stray.slot.3)

fits_not : (slots : ℕ) (digest : List ℕ) (image : ℕ → ℕ) (from to at : ℕ) → to ≤ 48 → IsHeader slots digest image → FirstWrong slots digest image from to at → ⊥
fits_not slots digest image from to at low header wrong =
    let high = wrong.high in
    wrong.wrong (header at (omega (arith, high, low)) (inl (omega (arith, high, low))))

rest_not : (slots : ℕ) (digest : List ℕ) (image : ℕ → ℕ) (at : ℕ) → IsHeader slots digest image → FirstWrong slots digest image 51 64 at → ⊥
rest_not slots digest image at header wrong =
    let high = wrong.high in
    let low = wrong.low in
    wrong.wrong (header at (omega (arith, high)) (inr low))

header_refused : (slots : ℕ) (digest : List ℕ) (this : Format) (image : ℕ → ℕ) (at : ℕ) → IsHeader slots digest image → HasFormat this image → IsOtherHeader slots digest image at → ⊥
header_refused slots digest this image at header there (front wrong) = fits_not slots digest image 1 12 at (omega arith) header wrong
header_refused slots digest this image at header there (no_format fits wrong) = wrong.none this there
header_refused slots digest this image at header there (rest fits some wrong) = rest_not slots digest image at header wrong
header_refused slots digest this image at header there (size form fits wrong) = fits_not slots digest image 12 16 at (omega arith) header wrong

bad_refused : (slots half : ℕ) (format : Format) (image : ℕ → ℕ) (entries : List Entry) (at : ℕ) → IsHalf slots half image (records_of format entries) → AllByRecursion HasRecord entries → IsBadSlot slots half format image at → ⊥
bad_refused slots half format image entries at is each bad = elim (cases_lt (length bad.before) (length (records_of format entries))) [
  | inl under ↦
      let few = under in
      let low : length bad.before < length entries = omega (arith, few, length-map entries (record_bytes format)) in
      let found = entry_of_slot entries (length bad.before) low each in
      bad.stray (record_bytes format found.0) found.0 (subst (λ place. IsSlot image place (record_bytes format found.0)) (sym bad.there) (subst (IsSlot image (place_of slots half (length bad.before))) found.1 (is.filled (length bad.before) under))) (record { typed = found.2.typed; within = found.2.within; is = refl })
  | inr over ↦ is.closed (length bad.before) (omega (arith, over)) bad.within (ap image (sym bad.there) ∙ bad.gate)
]
  where
    entry_of_slot : (entries : List Entry) (slot : ℕ) → slot < length entries → AllByRecursion HasRecord entries → (entry : Entry) × (get_or (records_of format entries) slot [] ≡ record_bytes format entry) × HasRecord entry
    entry_of_slot [] slot under all = absurd (omega (arith, under))
    entry_of_slot (entry ∷ entries) zero under all = (entry, refl, all.0)
    entry_of_slot (entry ∷ entries) (suc slot) under all = entry_of_slot entries slot (omega (arith, under)) all.1

gap_refused : (slots half : ℕ) (format : Format) (image : ℕ → ℕ) (records : List (List ℕ)) (at : ℕ) → IsHalf slots half image records → IsGap slots half format image at → ⊥
gap_refused slots half format image records at is gap = elim (cases_lt gap.slot (length records)) [
  | inl under ↦
      let behind = gap.behind in
      let low : length gap.before < length records = omega (arith, behind, under) in
      gap.closed (length gap.before) (omega arith) behind (is.filled (length gap.before) low).gate
  | inr over ↦ is.closed gap.slot (omega (arith, over)) gap.within (ap image (sym gap.there) ∙ gap.gate)
]

journal_refused : (settings : SettingsValue) (image : ℕ → ℕ) (format other : Format) (entries : List Entry) (at : ℕ) → IsJournal (slots_of settings) settings.digest format image (records_of format entries) → AllByRecursion HasRecord entries → HasFormat other image
    → IsBadSlot (slots_of settings) (image 48 % 2) other image at ⊎ IsGap (slots_of settings) (image 48 % 2) other image at → ⊥
journal_refused settings image format other entries at journal each there bad = by_cases (subst (λ format. IsBadSlot (slots_of settings) (image 48 % 2) format image at ⊎ IsGap (slots_of settings) (image 48 % 2) format image at) (one_format other format image there journal.format_there) bad)
  where
    by_cases : IsBadSlot (slots_of settings) (image 48 % 2) format image at ⊎ IsGap (slots_of settings) (image 48 % 2) format image at → ⊥
    by_cases (inl bad) = bad_refused (slots_of settings) (image 48 % 2) format image entries at journal.half each bad
    by_cases (inr gap) = gap_refused (slots_of settings) (image 48 % 2) format image (records_of format entries) at journal.half gap

pub has_not_refused : (settings : SettingsValue) (extent : ℕ) (image : ℕ → ℕ) (entries : List Entry) (why : JournalFault) → HasEntries settings image entries → Refuses settings extent image why → IsRefusal why → ⊥
has_not_refused settings extent image entries (fault.NotOurs at) image_has refuses refusal = by_cases image_has.records refuses
  where
    by_cases : HasRecords (slots_of settings) settings.digest image_has.format image (records_of image_has.format entries) → Refuses settings extent image (fault.NotOurs at) → ⊥
    by_cases (inl (blank, two)) (inl (inl gates)) = blank_refused (slots_of settings) image at (record { gate = blank.gate; gates = blank.gates; none = refl }) gates.1
    by_cases (inl (blank, two)) (inl (inr header)) = blank.gate header.0
    by_cases (inl (blank, two)) (inr half) = blank.gate (gate_of_header (slots_of settings) settings.digest image half.0)
    by_cases (inr journal) (inl (inl gates)) = gates.0 (gate_of_header (slots_of settings) settings.digest image journal.header)
    by_cases (inr journal) (inl (inr header)) = header_refused (slots_of settings) settings.digest image_has.format image at journal.header journal.format_there header.1
    by_cases (inr journal) (inr half) = journal_refused settings image image_has.format half.1.0 entries at journal image_has.each half.1.1 half.1.2
has_not_refused settings extent image entries (fault.SettingsChanged stored given) image_has refuses refusal = by_cases image_has.records
  where
    by_cases : HasRecords (slots_of settings) settings.digest image_has.format image (records_of image_has.format entries) → ⊥
    by_cases (inl (blank, two)) = blank.gate refuses.0.0
    by_cases (inr journal) = fits_not (slots_of settings) settings.digest image 16 48 refuses.0.1.wrong.0 (omega arith) journal.header refuses.0.1.wrong.1
has_not_refused settings extent image entries (fault.TooSmall needed bytes) image_has refuses refusal = absurd refusal
has_not_refused settings extent image entries fault.DiskFault image_has refuses refusal = absurd refusal
has_not_refused settings extent image entries fault.NoMemory image_has refuses refusal = absurd refusal

-- ---- what is recovered after a crash

-- a journal that represents entries on an image: the image holds them
pub represents_has : (journal : JournalValue) (settings : SettingsValue) (entries : List Entry) (image : ℕ → ℕ) → Represents journal settings entries image → HasEntries settings image entries
represents_has journal settings entries image is = image_has settings journal.slots journal.format image (records_of journal.format entries) entries is.slots (record { same = refl; each = is.each }) (inr is.represents.journal)

-- a blank disk holds no entry, nor does one that was formatted in the first format
pub none_held : (settings : SettingsValue) (image : ℕ → ℕ) → IsBlank (slots_of settings) image [] ⊎ IsJournal (slots_of settings) settings.digest One image [] → HasEntries settings image []
none_held settings image (inl blank) = record { format = Two; records = inl (blank, refl); each = tt }
none_held settings image (inr journal) = record { format = One; records = inr journal; each = tt }

-- a disk of zeros holds no entry
pub zeros_have_nothing : (settings : SettingsValue) → HasEntries settings (byte_of []) []
zeros_have_nothing settings = none_held settings (byte_of []) (inl (record { gate = λ is. cc is; gates = λ half slot low under. refl; none = refl }))

pub left_has_entries : (old new : Option Media) (journal : JournalValue) (settings : SettingsValue) (before after : List Entry) (image : ℕ → ℕ) → RestsWith old (Represents journal settings before) → Leaves old new (HasEither settings before after) → IsLeft old new image → HasEither settings before after image
left_has_entries old new journal settings before after image rests leaves left =
    left_has old new (HasEither settings before after) image (rests_as old (Represents journal settings before) (HasEither settings before after) (λ image is. inl (represents_has journal settings before image is)) rests) leaves left

pub one_history : (settings : SettingsValue) (image : ℕ → ℕ) (first second : List Entry) → HasEntries settings image first → HasEntries settings image second → first ≡ second
one_history settings image first second one other =
    let same = one_list (slots_of settings) settings.digest one.format other.format image (records_of one.format first) (records_of other.format second) one.records other.records in
    same_entries one.format first second one.each other.each (same.1 ∙ ap (λ format. records_of format second) (sym same.0)) (one_entry one.format)

pub survived : (settings : SettingsValue) (before after found : List Entry) (image : ℕ → ℕ) → HasEither settings before after image → HasEntries settings image found → (found ≡ before) ⊎ (found ≡ after)
survived settings before after found image (inl is) filled = inl (one_history settings image found before filled is)
survived settings before after found image (inr is) filled = inr (one_history settings image found after filled is)

pub left_not_refused : (settings : SettingsValue) (extent : ℕ) (before after : List Entry) (image : ℕ → ℕ) (why : JournalFault) → HasEither settings before after image → Refuses settings extent image why → IsRefusal why → ⊥
left_not_refused settings extent before after image why (inl is) refuses refusal = has_not_refused settings extent image before why is refuses refusal
left_not_refused settings extent before after image why (inr is) refuses refusal = has_not_refused settings extent image after why is refuses refusal

pub on_ok_as : {A E : Type 0} {P R : Type 0} (result : Result A E) → (P → R) → OnOk result P → OnOk result R
on_ok_as (Ok x) made is = made is
on_ok_as (Err fault) made is = tt
