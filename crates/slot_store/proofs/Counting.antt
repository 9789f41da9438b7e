-- How many slots of the half in use hold a record.
use Rattle.std.proofs.Common.{◌≡◌, ◌≢◌, ◌⊎◌, inl, inr, ℕ, ◌+◌, ◌*◌, ◌%◌, ◌<◌, ◌≤◌, List, [], length, Option, refl, sym, ap, subst, ◌∙◌, arith}
use Rattle.std.specs.Prelude.{true, false}
use Rattle.std.proofs.lemmas.Bool.{cases_order, eqb-true, eqb-false, not-true, not-false}
use Rattle.dots_host.specs.Media.{Media}
use Rattle.dots_host.specs.Becoming.{KeepsMedia, Leaves, RestsWith}
use Rattle.slot_store.specs.declared.wanted.Wanted.TheVariants as wanted
use Rattle.slot_store.specs.declared.format.Format.{Format}
use Rattle.slot_store.specs.declared.format.Format.TheVariants.{Two}
use Rattle.slot_store.specs.Layout.{place_of, IsHeader, IsHalf, IsBlank, IsJournal, HasRecords}
use Rattle.slot_store.specs.Gates.{is_wanted}
use Rattle.slot_store.specs.Gates.{NoneIs, IsFirst, Sees}
use Rattle.slot_store.specs.StoreValues.{RepresentsRecords, IsKnown}
use Rattle.slot_store.specs.Refusing.{IsOpen, IsCount}
use Rattle.slot_store.specs.Opening.{Is}
use Rattle.slot_store.proofs.Steps.{seen_at_rest, rests_as, leaves_then}
use Rattle.slot_store.proofs.DiskReading.{sees_at_rest, leaves_unchanged}
use Rattle.slot_store.proofs.SameRecords.{gate_of_header, one_format, one_list}

gate_at : (slots half slot : ℕ) → place_of slots half 0 + 8192 * slot ≡ place_of slots half slot
gate_at slots half slot = omega arith

open_gate_of : (byte : ℕ) → is_wanted wanted.NotOpen byte ≡ false → byte ≡ 165
open_gate_of byte is = eqb-true byte 165 (not-false _ is)

closed_gate_of : (byte : ℕ) → is_wanted wanted.NotOpen byte ≡ true → byte ≢ 165
closed_gate_of byte is = eqb-false byte 165 (not-true _ is)

pub count_all : (slots half : ℕ) (seen : ℕ → ℕ) → NoneIs wanted.NotOpen seen (place_of slots half 0) 0 slots → IsCount slots half seen slots
count_all slots half seen none = record {
  fits = omega arith;
  gates = λ slot under. ap seen (sym (gate_at slots half slot)) ∙ open_gate_of _ (none slot (omega arith) under);
  next = λ under. absurd (omega arith);
}

pub count_some : (slots half : ℕ) (seen : ℕ → ℕ) (count : ℕ) → IsFirst wanted.NotOpen seen (place_of slots half 0) 0 slots count → IsCount slots half seen count
count_some slots half seen count is =
    let high = is.high in
    let fits : count ≤ slots = omega arith in
    record {
      fits = fits;
      gates = λ slot under. ap seen (sym (gate_at slots half slot)) ∙ open_gate_of _ (is.before slot (omega arith) under);
      next = λ under opened. closed_gate_of _ is.is (ap seen (gate_at slots half count) ∙ opened);
    }

-- the number of open gates is the number of records
pub used_is : (slots half : ℕ) (image : ℕ → ℕ) (records : List (List ℕ)) (used : ℕ) → IsHalf slots half image records → IsCount slots half image used → used ≡ length records
used_is slots half image records used is count = elim (cases_order used (length records)) [
  | inl same ↦ same
  | inr (inl fewer) ↦
      let fits = is.fits in
      let within : used < slots = omega arith in
      absurd (count.next within (is.filled used fewer).gate)
  | inr (inr more) ↦
      let fits = count.fits in
      let within : length records < slots = omega arith in
      absurd (is.closed (length records) (omega arith) within (count.gates (length records) more))
]

-- the list that a disk held is that of the disk that was opened
opened_as : (slots : ℕ) (digest : List ℕ) (seen image : ℕ → ℕ) (selector : ℕ) (format other : Format) (records : List (List ℕ)) → IsOpen slots digest seen selector format image → HasRecords slots digest other seen records → IsJournal slots digest other image records
opened_as slots digest seen image selector format other records opened image_has = by_cases opened.cases image_has
  where
    by_cases : (IsHeader slots digest seen × (image ≡ seen)) ⊎ (IsBlank slots seen [] × IsJournal slots digest Two image []) → HasRecords slots digest other seen records → IsJournal slots digest other image records
    by_cases (inl as_it_was) (inl blank) = absurd (blank.0.gate (gate_of_header slots digest seen as_it_was.0))
    by_cases (inl as_it_was) (inr journal) = subst (λ image. IsJournal slots digest other image records) (sym as_it_was.1) journal
    by_cases (inr formatted) image_has =
        let one = one_list slots digest Two other seen [] records (inl (formatted.0, refl)) image_has in
        subst (λ format. IsJournal slots digest format image records) one.0 (subst (IsJournal slots digest Two image) one.1 formatted.1)

-- .. and so is its format
pub opened_format : (slots : ℕ) (digest : List ℕ) (seen image : ℕ → ℕ) (selector : ℕ) (format other : Format) (records : List (List ℕ)) → IsOpen slots digest seen selector format image → HasRecords slots digest other seen records → format ≡ other
opened_format slots digest seen image selector format other records opened image_has =
    one_format format other image opened.format_there (opened_as slots digest seen image selector format other records opened image_has).format_there

pub opened_journal : (slots : ℕ) (digest : List ℕ) (seen image : ℕ → ℕ) (selector : ℕ) (format other : Format) (records : List (List ℕ)) → IsOpen slots digest seen selector format image → HasRecords slots digest other seen records → IsJournal slots digest format image records
opened_journal slots digest seen image selector format other records opened image_has =
    subst (λ format. IsJournal slots digest format image records) (sym (opened_format slots digest seen image selector format other records opened image_has))
    (opened_as slots digest seen image selector format other records opened image_has)

pub opened_is_there : (new : Option Media) (slots : ℕ) (digest : List ℕ) (seen : ℕ → ℕ) (selector : ℕ) (format other : Format) (used : ℕ) (records : List (List ℕ)) → RestsWith new (IsOpen slots digest seen selector format) → HasRecords slots digest other seen records
    → ((image : ℕ → ℕ) → Sees new image → IsCount slots (selector % 2) image used) → RestsWith new (RepresentsRecords (record { slots = slots; selector = selector; used = used; format = format }) digest records)
opened_is_there new slots digest seen selector format other used records rests image_has count =
    let found = seen_at_rest new (IsOpen slots digest seen selector format) rests in
    let counted = count found.0 (sees_at_rest new found.0 found.1) in
    rests_as new (Is found.0) (RepresentsRecords (record { slots = slots; selector = selector; used = used; format = format }) digest records)
    (λ image same. stands image (subst (IsOpen slots digest seen selector format) (sym same) found.2) (subst (λ image. IsCount slots (selector % 2) image used) (sym same) counted)) found.1
  where
    stands : (image : ℕ → ℕ) → IsOpen slots digest seen selector format image → IsCount slots (selector % 2) image used → RepresentsRecords (record { slots = slots; selector = selector; used = used; format = format }) digest records image
    stands image opened counted =
        let journal = opened_journal slots digest seen image selector format other records opened image_has in
        let half : IsHalf slots (selector % 2) image records = subst (λ n. IsHalf slots (n % 2) image records) opened.selector_there journal.half in
        record { journal = journal; used = used_is slots (selector % 2) image records used half counted; selector = opened.selector_there }

pub opened_in_format : (new : Option Media) (slots : ℕ) (digest : List ℕ) (seen : ℕ → ℕ) (selector : ℕ) (format other : Format) (records : List (List ℕ)) → RestsWith new (IsOpen slots digest seen selector format) → HasRecords slots digest other seen records → format ≡ other
opened_in_format new slots digest seen selector format other records rests image_has =
    let found = seen_at_rest new (IsOpen slots digest seen selector format) rests in
    opened_format slots digest seen found.0 selector format other records found.2 image_has

pub opened_known : (new : Option Media) (slots : ℕ) (digest : List ℕ) (seen : ℕ → ℕ) (selector : ℕ) (format : Format) (used : ℕ) → RestsWith new (IsOpen slots digest seen selector format)
    → ((image : ℕ → ℕ) → Sees new image → IsCount slots (selector % 2) image used) → RestsWith new (IsKnown (record { slots = slots; selector = selector; used = used; format = format }) digest seen)
opened_known new slots digest seen selector format used rests count =
    let found = seen_at_rest new (IsOpen slots digest seen selector format) rests in
    let counted = count found.0 (sees_at_rest new found.0 found.1) in
    rests_as new (Is found.0) (IsKnown (record { slots = slots; selector = selector; used = used; format = format }) digest seen)
    (λ image same. record { opened = subst (IsOpen slots digest seen selector format) (sym same) found.2; count = subst (λ image. IsCount slots (selector % 2) image used) (sym same) counted }) found.1

-- while the gates are read, the disk holds what it held
pub opened_reads : (start between new : Option Media) (slots : ℕ) (digest : List ℕ) (seen : ℕ → ℕ) (selector : ℕ) (format other : Format) (records : List (List ℕ)) → Leaves start between (λ image. HasRecords slots digest other image records)
    → RestsWith between (IsOpen slots digest seen selector format) → HasRecords slots digest other seen records → KeepsMedia between new → Leaves start new (λ image. HasRecords slots digest other image records)
opened_reads start between new slots digest seen selector format other records leaves rests image_has keeps =
    let found = seen_at_rest between (IsOpen slots digest seen selector format) rests in
    leaves_then start between new (λ image. HasRecords slots digest other image records) leaves
    (leaves_unchanged between new found.0 (λ image. HasRecords slots digest other image records) keeps found.1 (inr (opened_as slots digest seen found.0 selector format other records found.2 image_has)))
