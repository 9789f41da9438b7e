-- A record more in the half in use.
use Rattle.std.proofs.Common.{◌≡◌, ◌≢◌, ℕ, ◌+◌, ◌*◌, ◌/◌, ◌%◌, ◌<◌, ◌≤◌, ◌⊎◌, inl, inr, List, [], ◌∷◌, ◌++◌, length, get_or, drop, sym, ap, subst, ◌∙◌, arith}
use Rattle.std.proofs.lemmas.Bool.{cases_eq}
use Rattle.dots_host.specs.Media.{bytes_at}
use Rattle.slot_store.specs.declared.format.Format.{Format}
use Rattle.slot_store.specs.Layout.{place_of, IsSlot, IsHalf, IsJournal}
use Rattle.slot_store.specs.StoreValues.{HasEither, sized}
use Rattle.slot_store.specs.Opening.{IsOpening, IsOpened}
use Rattle.slot_store.proofs.Places.{Agree, same_header, same_slot}
use Rattle.slot_store.proofs.SameRecords.{same_format, journal_same, half_more}

-- slots of a half lie behind the header and behind each other
pub behind_header : (slots half slot place : ℕ) → place < 64 → place < place_of slots half slot
behind_header slots half slot place low = omega arith

pub slots_apart : (slots half slot other : ℕ) → slot < other → place_of slots half slot + 8192 ≤ place_of slots half other
slots_apart slots half slot other below = omega arith

-- the record that stands behind a gate
pub slot_of : (image : ℕ → ℕ) (at : ℕ) (added : List ℕ) → image at ≡ 165 → length added ≤ 8189 → bytes_at image (at + 1) (length (sized added)) ≡ sized added → IsSlot image at added
slot_of image at added gate fits bytes =
    let high : image (at + 1) ≡ length added / 256 = ap (λ bytes. get_or bytes 0 0) bytes in
    let second : at + 2 ≡ at + 1 + 1 = omega arith in
    let low : image (at + 2) ≡ length added % 256 = ap image second ∙ ap (λ bytes. get_or bytes 1 0) bytes in
    let third : at + 3 ≡ at + 1 + 1 + 1 = omega arith in
    let rest : bytes_at image (at + 3) (length added) ≡ added = ap (λ at. bytes_at image at (length added)) third ∙ ap (λ bytes. drop 2 bytes) bytes in
    let size : 256 * image (at + 1) + image (at + 2) ≡ length added = omega arith in
    record { gate = gate; fits = fits; size = size; bytes = rest }

-- what stays while a slot behind the records is written
agree_front : (slots half used count : ℕ) (seen image : ℕ → ℕ) → ((place : ℕ) → (place < place_of slots half used ⊎ place_of slots half used + count ≤ place) → image place ≡ seen place) → Agree seen image 0 64
agree_front slots half used count seen image kept place low high = kept place (inl (behind_header slots half used place high))

agree_used : (slots half used count : ℕ) (seen image : ℕ → ℕ) → ((place : ℕ) → (place < place_of slots half used ⊎ place_of slots half used + count ≤ place) → image place ≡ seen place)
    → (slot : ℕ) → slot < used → Agree seen image (place_of slots half slot) 8192
agree_used slots half used count seen image kept slot below place low high =
    let apart = slots_apart slots half slot used below in
    kept place (inl (omega arith))

agree_gate : (slots half used count : ℕ) (seen image : ℕ → ℕ) → ((place : ℕ) → (place < place_of slots half used ⊎ place_of slots half used + count ≤ place) → image place ≡ seen place) → count ≤ 8192
    → (slot : ℕ) → used < slot → image (place_of slots half slot) ≡ seen (place_of slots half slot)
agree_gate slots half used count seen image kept small slot above =
    let apart = slots_apart slots half used slot above in
    kept (place_of slots half slot) (inr (omega arith))

-- ---- the gate is closed

pub still_closed : (slots : ℕ) (digest : List ℕ) (format : Format) (records : List (List ℕ)) (count : ℕ) (seen image : ℕ → ℕ) → IsJournal slots digest format seen records → count ≤ 8192
    → ((place : ℕ) → (place < place_of slots (seen 48 % 2) (length records) ⊎ place_of slots (seen 48 % 2) (length records) + count ≤ place) → image place ≡ seen place)
    → image (place_of slots (seen 48 % 2) (length records)) ≢ 165 → IsJournal slots digest format image records
still_closed slots digest format records count seen image is small kept gate =
    journal_same slots digest format seen image records (agree_front slots (seen 48 % 2) (length records) count seen image kept) (agree_used slots (seen 48 % 2) (length records) count seen image kept) closed is
  where
    closed : (slot : ℕ) → length records ≤ slot → slot < slots → image (place_of slots (seen 48 % 2) slot) ≢ 165
    closed slot low high = elim (cases_eq (length records) slot) [
      | inl same ↦ subst (λ slot. image (place_of slots (seen 48 % 2) slot) ≢ 165) same gate
      | inr other ↦ λ opened. is.half.closed slot low high (sym (agree_gate slots (seen 48 % 2) (length records) count seen image kept small slot (omega arith)) ∙ opened)
    ]

-- ---- the gate is open, and the record stands behind it

pub now_open : (slots : ℕ) (digest : List ℕ) (format : Format) (records : List (List ℕ)) (added : List ℕ) (count : ℕ) (seen image : ℕ → ℕ) → IsJournal slots digest format seen records → length records < slots → count ≤ 8192
    → ((place : ℕ) → (place < place_of slots (seen 48 % 2) (length records) ⊎ place_of slots (seen 48 % 2) (length records) + count ≤ place) → image place ≡ seen place)
    → IsSlot image (place_of slots (seen 48 % 2) (length records)) added → IsJournal slots digest format image (records ++ added ∷ [])
now_open slots digest format records added count seen image is room small kept last =
    let front = agree_front slots (seen 48 % 2) (length records) count seen image kept in
    let selector : image 48 ≡ seen 48 = front 48 (omega arith) (omega arith) in
    let half : seen 48 % 2 ≡ image 48 % 2 = ap (λ n. n % 2) (sym selector) in
    record {
      header = same_header slots digest seen image front is.header;
      format_there = same_format format seen image front is.format_there;
      half = subst (λ half. IsHalf slots half image (records ++ added ∷ [])) half (half_more slots (seen 48 % 2) image records added room filled last closed);
    }
  where
    filled : (slot : ℕ) → slot < length records → IsSlot image (place_of slots (seen 48 % 2) slot) (get_or records slot [])
    filled slot below =
        let agree = agree_used slots (seen 48 % 2) (length records) count seen image kept slot below in
        same_slot seen image (place_of slots (seen 48 % 2) slot) (place_of slots (seen 48 % 2) slot) (get_or records slot [])
        (λ offset within. agree (place_of slots (seen 48 % 2) slot + offset) (omega arith) (omega arith)) (is.half.filled slot below)

    closed : (slot : ℕ) → length records < slot → slot < slots → image (place_of slots (seen 48 % 2) slot) ≢ 165
    closed slot low high = λ opened. is.half.closed slot (omega arith) high (sym (agree_gate slots (seen 48 % 2) (length records) count seen image kept small slot low) ∙ opened)

-- ---- an image while a gate is opened holds the records, or one more

pub either : (slots : ℕ) (digest : List ℕ) (format : Format) (records : List (List ℕ)) (added : List ℕ) (seen image : ℕ → ℕ) → IsJournal slots digest format seen records → length records < slots → length added ≤ 8189
    → IsOpening seen (place_of slots (seen 48 % 2) (length records)) (sized added) image → HasEither slots digest format records format (records ++ added ∷ []) image
either slots digest format records added seen image is room fits opening = elim (cases_eq (image (place_of slots (seen 48 % 2) (length records))) 165) [
  | inl opened ↦ inr (inr (now_open slots digest format records added (1 + length (sized added)) seen image is room (omega arith) kept (slot_of image (place_of slots (seen 48 % 2) (length records)) added opened fits (stands opened opening.gate))))
  | inr closed ↦ inl (inr (still_closed slots digest format records (1 + length (sized added)) seen image is (omega arith) kept closed))
]
  where
    kept : (place : ℕ) → (place < place_of slots (seen 48 % 2) (length records) ⊎ place_of slots (seen 48 % 2) (length records) + (1 + length (sized added)) ≤ place) → image place ≡ seen place
    kept place (inl below) = opening.kept place (inl below)
    kept place (inr past) = opening.kept place (inr (omega arith))

    stands : image (place_of slots (seen 48 % 2) (length records)) ≡ 165
        → (image (place_of slots (seen 48 % 2) (length records)) ≡ seen (place_of slots (seen 48 % 2) (length records))) ⊎ (bytes_at image (place_of slots (seen 48 % 2) (length records) + 1) (length (sized added)) ≡ sized added)
        → bytes_at image (place_of slots (seen 48 % 2) (length records) + 1) (length (sized added)) ≡ sized added
    stands opened (inl same) = absurd (is.half.closed (length records) (omega arith) room (sym same ∙ opened))
    stands opened (inr bytes) = bytes

pub one_more : (slots : ℕ) (digest : List ℕ) (format : Format) (records : List (List ℕ)) (added : List ℕ) (seen image : ℕ → ℕ) → IsJournal slots digest format seen records → length records < slots → length added ≤ 8189
    → IsOpened seen (place_of slots (seen 48 % 2) (length records)) (sized added) image → IsJournal slots digest format image (records ++ added ∷ [])
one_more slots digest format records added seen image is room fits opened =
    now_open slots digest format records added (1 + length (sized added)) seen image is room (omega arith) kept (slot_of image (place_of slots (seen 48 % 2) (length records)) added opened.gate fits opened.bytes)
  where
    kept : (place : ℕ) → (place < place_of slots (seen 48 % 2) (length records) ⊎ place_of slots (seen 48 % 2) (length records) + (1 + length (sized added)) ≤ place) → image place ≡ seen place
    kept place (inl below) = opened.kept place (inl below)
    kept place (inr past) = opened.kept place (inr (omega arith))
