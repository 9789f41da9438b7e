-- Images of a disk while its kept slots are copied to the other half, and the selector is changed.
use Rattle.std.proofs.Common.{zero, suc, ◌≡◌, ◌≢◌, ◌⊎◌, inl, inr, ℕ, ◌+◌, ◌-◌, ◌%◌, ◌<◌, ◌≤◌, List, [], length, map, get_or, eqb, Option, sym, ap, subst, ◌∙◌, arith}
use Rattle.std.proofs.lemmas.Bool.{cases_eq, cond_both, eqb-true, eqb-false}
use Rattle.std.proofs.lemmas.List.{get_or-map, length-map}
use Rattle.slot_store.specs.declared.format.Format.{Format}
use Rattle.slot_store.specs.declared.format.Format.TheVariants.{Two}
use Rattle.slot_store.specs.Formats.{format_byte, rewritten}
use Rattle.slot_store.specs.Layout.{place_of, format_place, IsHeader, HasFormat, IsSlot, IsHalf, IsJournal}
use Rattle.slot_store.specs.StoreValues.{JournalValue, RepresentsRecords, HasEither}
use Rattle.slot_store.specs.Copying.{Elsewhere, BesideHalf, IsCopy, AreSlots, HalfIsCopied, IsMoving, IsMoved, kept_of, other_selector}
use Rattle.slot_store.specs.Opening.{Is}
use Rattle.slot_store.proofs.Steps.{leaves_as, seen_at_rest, rests_as}
use Rattle.dots_host.specs.Media.{Media}
use Rattle.dots_host.specs.Becoming.{Leaves, RestsWith}
use Rattle.slot_store.proofs.SameRecords.{same_half}
use Rattle.slot_store.proofs.Places.{same_slot}
use Rattle.slot_store.proofs.CopyStages.{halves_apart}

-- a half by its number
journal_by : (slots : ℕ) (digest : List ℕ) (format : Format) (image : ℕ → ℕ) (records : List (List ℕ)) (half : ℕ) → IsHeader slots digest image → image (format_place half) ≡ format_byte format → half ≡ image 48 % 2 → IsHalf slots half image records
    → IsJournal slots digest format image records
journal_by slots digest format image records half header says is filled = record {
  header = header;
  format_there = subst (λ half. image (format_place half) ≡ format_byte format) is says;
  half = subst (λ half. IsHalf slots half image records) is filled;
}

-- the header's places lie before both halves
pub header_apart : (slots half place : ℕ) → place < 64 → (place < place_of slots half 0 ⊎ place_of slots half slots ≤ place)
header_apart slots half place low = inl (omega arith)

-- the formats' bytes are others than those of the header that is always the same
formats_apart : (half place : ℕ) → half < 2 → (place < 48 ⊎ 51 ≤ place) → (place < format_place (1 - half) ⊎ format_place (1 - half) + 1 ≤ place)
formats_apart half place two (inl low) = inl (omega arith)
formats_apart half place two (inr high) = inr (omega arith)

-- each half has a byte of its own
format_apart : (half : ℕ) → half < 2 → (format_place half < format_place (1 - half) ⊎ format_place (1 - half) + 1 ≤ format_place half)
format_apart zero two = inl (omega arith)
format_apart (suc zero) two = inr (omega arith)
format_apart (suc (suc n)) two = absurd (omega arith)

-- the format that the header says of a half, where the other half was written
format_stays : (slots half : ℕ) (format : Format) (seen image : ℕ → ℕ) → half < 2 → half ≡ seen 48 % 2 → HasFormat format seen → BesideHalf slots (1 - half) seen image → image (format_place half) ≡ format_byte format
format_stays slots half format seen image two is says elsewhere =
    elsewhere (format_place half) (format_apart half two) (header_apart slots (1 - half) (format_place half) (omega arith)) ∙ subst (λ half. seen (format_place half) ≡ format_byte format) (sym is) says

-- the half in use, where its slots are as they were
pub old_half : (slots half : ℕ) (seen image : ℕ → ℕ) (records : List (List ℕ)) → IsHalf slots half seen records → ((slot offset : ℕ) → slot < slots → offset < 8192 → image (place_of slots half slot + offset) ≡ seen (place_of slots half slot + offset))
    → IsHalf slots half image records
old_half slots half seen image records is same = same_half slots half seen image records filled closed is
  where
    fits : length records ≤ slots
    fits = is.fits

    filled : (slot : ℕ) → slot < length records → (place : ℕ) → place_of slots half slot ≤ place → place < place_of slots half slot + 8192 → image place ≡ seen place
    filled slot under place low high =
        let within : slot < slots = omega (arith, fits) in
        let offset : place - place_of slots half slot < 8192 = omega arith in
        let there : place_of slots half slot + (place - place_of slots half slot) ≡ place = omega arith in
        ap image (sym there) ∙ same slot (place - place_of slots half slot) within offset ∙ ap seen there

    closed : (slot : ℕ) → length records ≤ slot → slot < slots → image (place_of slots half slot) ≢ 165
    closed slot low high = λ opened.
        let here : place_of slots half slot ≡ place_of slots half slot + 0 = omega arith in
        let none : 0 < 8192 = omega arith in
        is.closed slot low high (ap seen here ∙ sym (same slot 0 high none) ∙ ap image (sym here) ∙ opened)

-- the other half, where it is a copy
pub new_half : (slots half : ℕ) (format : Format) (keep : List ℕ) (seen image : ℕ → ℕ) (records : List (List ℕ)) → length keep ≤ slots → AreSlots (length records) keep → IsHalf slots half seen records
    → ((slot : ℕ) → slot < slots → IsCopy slots half format keep seen slot image (place_of slots (1 - half) slot)) → IsHalf slots (1 - half) image (map (rewritten format) (kept_of records keep))
new_half slots half format keep seen image records few are is copies = record {
  fits = size_fits;
  filled = filled;
  closed = closed;
}
  where
    size : length (map (rewritten format) (kept_of records keep)) ≡ length keep
    size = length-map (kept_of records keep) (rewritten format) ∙ length-map keep (λ slot. get_or records slot [])

    size_fits : length (map (rewritten format) (kept_of records keep)) ≤ slots
    size_fits = omega (arith, size)

    record_of : (slot : ℕ) → slot < length keep → get_or (map (rewritten format) (kept_of records keep)) slot [] ≡ rewritten format (get_or records (get_or keep slot 0) [])
    record_of slot inside =
        let kept : slot < length (kept_of records keep) = let same = length-map keep (λ slot. get_or records slot []) in omega arith in
        get_or-map (rewritten format) (kept_of records keep) slot [] [] kept ∙ ap (rewritten format) (get_or-map (λ slot. get_or records slot []) keep slot 0 [] inside)

    filled : (slot : ℕ) → slot < length (map (rewritten format) (kept_of records keep)) → IsSlot image (place_of slots (1 - half) slot) (get_or (map (rewritten format) (kept_of records keep)) slot [])
    filled slot under =
        let inside : slot < length keep = omega (arith, size) in
        let within : slot < slots = omega arith in
        subst (IsSlot image (place_of slots (1 - half) slot)) (sym (record_of slot inside))
        ((copies slot within).kept inside (get_or records (get_or keep slot 0) []) (is.filled (get_or keep slot 0) (are slot inside)))

    closed : (slot : ℕ) → length (map (rewritten format) (kept_of records keep)) ≤ slot → slot < slots → image (place_of slots (1 - half) slot) ≢ 165
    closed slot low high = λ opened.
        let behind : length keep ≤ slot = omega (arith, size) in
        let zero_gate : image (place_of slots (1 - half) slot) ≡ 0 = (copies slot high).closed behind in
        absurd (omega arith)

-- ---- while the other half is written

-- the slots of the half in use lie beside the other half and its byte
old_slots : (slots half : ℕ) (seen image : ℕ → ℕ) → half < 2 → BesideHalf slots (1 - half) seen image → (slot offset : ℕ) → slot < slots → offset < 8192 → image (place_of slots half slot + offset) ≡ seen (place_of slots half slot + offset)
old_slots slots half seen image two elsewhere slot offset within under = elsewhere (place_of slots half slot + offset) (inr (omega arith)) (halves_apart slots half slot offset two within under)

header_stays : (slots : ℕ) (digest : List ℕ) (half : ℕ) (seen image : ℕ → ℕ) → half < 2 → BesideHalf slots (1 - half) seen image → IsHeader slots digest seen → IsHeader slots digest image
header_stays slots digest half seen image two elsewhere header = λ place low other. elsewhere place (formats_apart half place two other) (header_apart slots (1 - half) place low) ∙ header place low other

selector_stays : (slots half : ℕ) (seen image : ℕ → ℕ) → BesideHalf slots (1 - half) seen image → image 48 ≡ seen 48
selector_stays slots half seen image elsewhere = elsewhere 48 (inl (omega arith)) (header_apart slots (1 - half) 48 (omega arith))

pub while_copied : (slots : ℕ) (digest : List ℕ) (format : Format) (half : ℕ) (seen image : ℕ → ℕ) (records : List (List ℕ)) → half < 2 → half ≡ seen 48 % 2 → IsJournal slots digest format seen records → BesideHalf slots (1 - half) seen image
    → IsJournal slots digest format image records
while_copied slots digest format half seen image records two is journal elsewhere =
    let filled : IsHalf slots half seen records = subst (λ half. IsHalf slots half seen records) (sym is) journal.half in
    journal_by slots digest format image records half (header_stays slots digest half seen image two elsewhere journal.header) (format_stays slots half format seen image two is journal.format_there elsewhere)
    (is ∙ ap (λ n. n % 2) (sym (selector_stays slots half seen image elsewhere)))
    (old_half slots half seen image records filled (old_slots slots half seen image two elsewhere))

-- ---- while the selector is changed

-- the selector is another byte than the slots'
past_header : (slots half slot offset : ℕ) → (place_of slots half slot + offset < 48 ⊎ 48 + 1 ≤ place_of slots half slot + offset)
past_header slots half slot offset = inr (omega arith)

pub selected_header : (slots : ℕ) (digest : List ℕ) (half : ℕ) (seen copied image : ℕ → ℕ) → half < 2 → IsHeader slots digest seen → BesideHalf slots (1 - half) seen copied → Elsewhere copied 48 1 image → IsHeader slots digest image
selected_header slots digest half seen copied image two header beside elsewhere = λ place low other.
    elsewhere place (but_selector place other) ∙ header_stays slots digest half seen copied two beside header place low other
  where
    but_selector : (place : ℕ) → (place < 48 ⊎ 51 ≤ place) → (place < 48 ⊎ 48 + 1 ≤ place)
    but_selector place (inl low) = inl low
    but_selector place (inr high) = inr (omega arith)

pub selected_old : (slots half : ℕ) (seen copied image : ℕ → ℕ) (records : List (List ℕ)) → half < 2 → IsHalf slots half seen records → BesideHalf slots (1 - half) seen copied → Elsewhere copied 48 1 image → IsHalf slots half image records
selected_old slots half seen copied image records two filled beside elsewhere =
    old_half slots half seen image records filled (λ slot offset within under.
    elsewhere (place_of slots half slot + offset) (past_header slots half slot offset) ∙ old_slots slots half seen copied two beside slot offset within under)

pub selected_new : (slots half : ℕ) (format : Format) (keep : List ℕ) (seen copied image : ℕ → ℕ) (records : List (List ℕ)) → length keep ≤ slots → AreSlots (length records) keep → IsHalf slots half seen records → HalfIsCopied slots half format keep seen copied
    → Elsewhere copied 48 1 image → IsHalf slots (1 - half) image (map (rewritten format) (kept_of records keep))
selected_new slots half format keep seen copied image records few are filled is elsewhere =
    new_half slots half format keep seen image records few are filled (λ slot within. record {
      kept = λ inside filled there.
          same_slot copied image (place_of slots (1 - half) slot) (place_of slots (1 - half) slot) (rewritten format filled) (λ offset under. elsewhere (place_of slots (1 - half) slot + offset) (past_header slots (1 - half) slot offset))
          ((is.copies slot within).kept inside filled there);
      closed = λ behind. elsewhere (place_of slots (1 - half) slot) (inr (omega arith)) ∙ (is.copies slot within).closed behind;
    })

-- a half's byte is another than the selector
says_still : (half : ℕ) (format : Format) (copied image : ℕ → ℕ) → copied (format_place half) ≡ format_byte format → Elsewhere copied 48 1 image → image (format_place half) ≡ format_byte format
says_still half format copied image says elsewhere = elsewhere (format_place half) (inr (omega arith)) ∙ says

pub while_selected : (slots : ℕ) (digest : List ℕ) (format : Format) (half : ℕ) (keep : List ℕ) (seen copied image : ℕ → ℕ) (records : List (List ℕ)) → half < 2 → half ≡ seen 48 % 2 → length keep ≤ slots → AreSlots (length records) keep
    → IsJournal slots digest format seen records → HalfIsCopied slots half format keep seen copied → Elsewhere copied 48 1 image → HasEither slots digest format records Two (map (rewritten format) (kept_of records keep)) image
while_selected slots digest format half keep seen copied image records two is few are journal copy elsewhere =
    elim (cases_eq half (image 48 % 2)) [
      | inl old ↦ inl (inr (journal_by slots digest format image records half header (says_still half format copied image (format_stays slots half format seen copied two is journal.format_there copy.elsewhere) elsewhere) old
          (selected_old slots half seen copied image records two filled copy.elsewhere elsewhere)))
      | inr other ↦ inr (inr (journal_by slots digest Two image (map (rewritten format) (kept_of records keep)) (1 - half) header (says_still (1 - half) Two copied image copy.format_there elsewhere) (the_other half (image 48) two other)
          (selected_new slots half format keep seen copied image records few are filled copy elsewhere)))
    ]
  where
    filled : IsHalf slots half seen records
    filled = subst (λ half. IsHalf slots half seen records) (sym is) journal.half

    header : IsHeader slots digest image
    header = selected_header slots digest half seen copied image two journal.header copy.elsewhere elsewhere

    the_other : (half byte : ℕ) → half < 2 → (half ≡ byte % 2 → ⊥) → 1 - half ≡ byte % 2
    the_other half byte low differs = omega arith

pub other_half_of : (selector : ℕ) → 1 - selector % 2 ≡ other_selector selector % 2
other_half_of selector = cond_both (eqb (selector % 2) 0) (selector + 1) (selector - 1) (λ n. 1 - selector % 2 ≡ n % 2) (λ e. let even : selector % 2 ≡ 0 = eqb-true (selector % 2) 0 e in omega arith)
    (λ e. let odd : selector % 2 ≡ 0 → ⊥ = eqb-false (selector % 2) 0 e in omega arith)

-- ---- the calls

pub moving_either : (slots : ℕ) (digest : List ℕ) (format : Format) (half : ℕ) (keep : List ℕ) (seen image : ℕ → ℕ) (records : List (List ℕ)) → half < 2 → half ≡ seen 48 % 2 → length keep ≤ slots → AreSlots (length records) keep
    → IsJournal slots digest format seen records → IsMoving slots half format keep seen image → HasEither slots digest format records Two (map (rewritten format) (kept_of records keep)) image
moving_either slots digest format half keep seen image records two is few are journal (inl elsewhere) = inl (inr (while_copied slots digest format half seen image records two is journal elsewhere))
moving_either slots digest format half keep seen image records two is few are journal (inr moving) = while_selected slots digest format half keep seen moving.0 image records two is few are journal moving.1 moving.2

pub moved_journal : (slots : ℕ) (digest : List ℕ) (format : Format) (half : ℕ) (keep : List ℕ) (seen image : ℕ → ℕ) (selector : ℕ) (records : List (List ℕ)) → half < 2 → half ≡ seen 48 % 2 → length keep ≤ slots → AreSlots (length records) keep
    → IsJournal slots digest format seen records → 1 - half ≡ selector % 2 → IsMoved slots half format keep seen selector image → IsJournal slots digest Two image (map (rewritten format) (kept_of records keep))
moved_journal slots digest format half keep seen image selector records two is few are journal other moved =
    let filled : IsHalf slots half seen records = subst (λ half. IsHalf slots half seen records) (sym is) journal.half in
    journal_by slots digest Two image (map (rewritten format) (kept_of records keep)) (1 - half) (selected_header slots digest half seen moved.0 image two journal.header moved.1.elsewhere moved.2.elsewhere)
    (says_still (1 - half) Two moved.0 image moved.1.format_there moved.2.elsewhere) (other ∙ ap (λ n. n % 2) (sym moved.2.here))
    (selected_new slots half format keep seen moved.0 image records few are filled moved.1 moved.2.elsewhere)

two_halves : (selector : ℕ) → selector % 2 < 2
two_halves selector = omega arith

pub compact_leaves : (start new : Option Media) (store : JournalValue) (digest : List ℕ) (records : List (List ℕ)) (keep : List ℕ) → length keep ≤ store.slots → AreSlots store.used keep
    → ((seen : ℕ → ℕ) → RestsWith start (Is seen) → Leaves start new (IsMoving store.slots (store.selector % 2) store.format keep seen)) → RestsWith start (RepresentsRecords store digest records)
    → Leaves start new (HasEither store.slots digest store.format records Two (map (rewritten store.format) (kept_of records keep)))
compact_leaves start new store digest records keep few are moments rests =
    let found = seen_at_rest start (RepresentsRecords store digest records) rests in
    leaves_as start new (IsMoving store.slots (store.selector % 2) store.format keep found.0) (HasEither store.slots digest store.format records Two (map (rewritten store.format) (kept_of records keep))) (λ image moving.
    moving_either store.slots digest store.format (store.selector % 2) keep found.0 image records (two_halves store.selector) (ap (λ n. n % 2) (sym found.2.selector)) few (subst (λ used. AreSlots used keep) found.2.used are) found.2.journal moving)
    (moments found.0 found.1)

pub compact_rests : (start new : Option Media) (store : JournalValue) (digest : List ℕ) (records : List (List ℕ)) (keep : List ℕ) → length keep ≤ store.slots → AreSlots store.used keep
    → ((seen : ℕ → ℕ) → RestsWith start (Is seen) → RestsWith new (IsMoved store.slots (store.selector % 2) store.format keep seen (other_selector store.selector))) → RestsWith start (RepresentsRecords store digest records)
    → RestsWith new (RepresentsRecords (record store { selector = other_selector store.selector; used = length keep; format = Two }) digest (map (rewritten store.format) (kept_of records keep)))
compact_rests start new store digest records keep few are moved rests =
    let found = seen_at_rest start (RepresentsRecords store digest records) rests in
    rests_as new (IsMoved store.slots (store.selector % 2) store.format keep found.0 (other_selector store.selector))
    (RepresentsRecords (record store { selector = other_selector store.selector; used = length keep; format = Two }) digest (map (rewritten store.format) (kept_of records keep))) (λ image is. record {
      journal = moved_journal store.slots digest store.format (store.selector % 2) keep found.0 image (other_selector store.selector) records (two_halves store.selector) (ap (λ n. n % 2) (sym found.2.selector)) few
          (subst (λ used. AreSlots used keep) found.2.used are) found.2.journal (other_half_of store.selector) is;
      used = sym (length-map (kept_of records keep) (rewritten store.format) ∙ length-map keep (λ slot. get_or records slot []));
      selector = is.2.here;
    }) (moved found.0 found.1)
