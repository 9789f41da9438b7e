-- Images that hold the records that another image holds, or one more.
use Rattle.std.proofs.Common.{◌≡◌, ◌≢◌, ℕ, ◌+◌, ◌%◌, ◌<◌, ◌≤◌, inl, inr, List, [], ◌∷◌, ◌++◌, length, get_or, refl, sym, ap, subst, ◌∙◌, arith, length-append}
use Rattle.std.proofs.lemmas.List.{get_or_append_left, get_or_push, ext_get_or}
use Rattle.std.proofs.lemmas.Bool.{cases_lt}
use Rattle.dots_host.specs.Media.{bytes_at}
use Rattle.slot_store.specs.declared.format.Format.{Format}
use Rattle.slot_store.specs.declared.format.Format.TheVariants.{One, Two}
use Rattle.slot_store.specs.Formats.{format_byte}
use Rattle.slot_store.specs.Layout.{place_of, format_place, IsHeader, HasFormat, IsSlot, IsHalf, IsJournal, HasRecords}
use Rattle.slot_store.proofs.Places.{Agree, same_header, same_slot}

-- the half in use of another image, with the slots of its records as they were and no other gate open
pub same_half : (slots half : ℕ) (old new : ℕ → ℕ) (records : List (List ℕ)) → ((slot : ℕ) → slot < length records → Agree old new (place_of slots half slot) 8192)
    → ((slot : ℕ) → length records ≤ slot → slot < slots → new (place_of slots half slot) ≢ 165) → IsHalf slots half old records → IsHalf slots half new records
same_half slots half old new records filled closed is = record {
  fits = is.fits;
  filled = λ slot under. same_slot old new (place_of slots half slot) (place_of slots half slot) (get_or records slot []) (λ offset within. filled slot under (place_of slots half slot + offset) (omega arith) (omega arith)) (is.filled slot under);
  closed = closed;
}

-- the format that the header says, where it stays
pub same_format : (format : Format) (old new : ℕ → ℕ) → Agree old new 0 64 → HasFormat format old → HasFormat format new
same_format format old new front is =
    let selector : new 48 ≡ old 48 = front 48 (omega arith) (omega arith) in
    ap (λ n. new (format_place (n % 2))) selector ∙ front (format_place (old 48 % 2)) (omega arith) (omega arith) ∙ is

pub journal_same : (slots : ℕ) (digest : List ℕ) (format : Format) (old new : ℕ → ℕ) (records : List (List ℕ)) → Agree old new 0 64
    → ((slot : ℕ) → slot < length records → Agree old new (place_of slots (old 48 % 2) slot) 8192)
    → ((slot : ℕ) → length records ≤ slot → slot < slots → new (place_of slots (old 48 % 2) slot) ≢ 165) → IsJournal slots digest format old records → IsJournal slots digest format new records
journal_same slots digest format old new records front filled closed is =
    let selector : new 48 ≡ old 48 = front 48 (omega arith) (omega arith) in
    let half : old 48 % 2 ≡ new 48 % 2 = ap (λ n. n % 2) (sym selector) in
    record {
      header = same_header slots digest old new front is.header;
      format_there = same_format format old new front is.format_there;
      half = subst (λ half. IsHalf slots half new records) half (same_half slots (old 48 % 2) old new records filled closed is.half);
    }

-- one record more
pub half_more : (slots half : ℕ) (image : ℕ → ℕ) (records : List (List ℕ)) (added : List ℕ) → length records < slots
    → ((slot : ℕ) → slot < length records → IsSlot image (place_of slots half slot) (get_or records slot []))
    → IsSlot image (place_of slots half (length records)) added
    → ((slot : ℕ) → length records < slot → slot < slots → image (place_of slots half slot) ≢ 165) → IsHalf slots half image (records ++ added ∷ [])
half_more slots half image records added room filled last closed =
    let more : length (records ++ added ∷ []) ≡ length records + 1 = length-append records (added ∷ []) in
    record {
      fits = omega arith;
      filled = λ slot under. slot_of slot (omega arith);
      closed = λ slot low high. closed slot (omega arith) high;
    }
  where
    slot_of : (slot : ℕ) → slot < length records + 1 → IsSlot image (place_of slots half slot) (get_or (records ++ added ∷ []) slot [])
    slot_of slot under = elim (cases_lt slot (length records)) [
      | inl below ↦ subst (IsSlot image (place_of slots half slot)) (sym (get_or_append_left records (added ∷ []) [] slot below)) (filled slot below)
      | inr above ↦
          let is : length records ≡ slot = omega arith in
          subst (IsSlot image (place_of slots half slot)) (sym (get_or_push records added [] slot is)) (subst (λ slot. IsSlot image (place_of slots half slot) added) is last)
    ]

-- ---- an image holds at most one list

one_record : (image : ℕ → ℕ) (at : ℕ) (first second : List ℕ) → IsSlot image at first → IsSlot image at second → first ≡ second
one_record image at first second a b =
    let size : length first ≡ length second = sym a.size ∙ b.size in
    sym a.bytes ∙ ap (bytes_at image (at + 3)) size ∙ b.bytes

no_longer : (slots half : ℕ) (image : ℕ → ℕ) (first second : List (List ℕ)) → IsHalf slots half image first → IsHalf slots half image second → length first < length second → ⊥
no_longer slots half image first second a b longer =
    let fits = b.fits in
    let room : length first < slots = omega arith in
    let same : length first ≤ length first = omega arith in
    a.closed (length first) same room (b.filled (length first) longer).gate

pub one_half : (slots half : ℕ) (image : ℕ → ℕ) (first second : List (List ℕ)) → IsHalf slots half image first → IsHalf slots half image second → first ≡ second
one_half slots half image first second a b =
    let below = no_longer slots half image first second a b in
    let above = no_longer slots half image second first b a in
    let same : length first ≡ length second = same_length below above in
    ext_get_or [] first second same (λ slot under.
    let other : slot < length second = omega arith in
    one_record image (place_of slots half slot) _ _ (a.filled slot under) (b.filled slot other))
  where
    same_length : (length first < length second → ⊥) → (length second < length first → ⊥) → length first ≡ length second
    same_length below above = elim (cases_lt (length first) (length second)) [
      | inl under ↦ absurd (below under)
      | inr not_under ↦ elim (cases_lt (length second) (length first)) [
        | inl over ↦ absurd (above over)
        | inr not_over ↦ omega arith
      ]
    ]

pub gate_of_header : (slots : ℕ) (digest : List ℕ) (image : ℕ → ℕ) → IsHeader slots digest image → image 0 ≡ 165
gate_of_header slots digest image is = is 0 (omega arith) (inl (omega arith))

-- a byte says one format at most
one_byte : (format other : Format) → format_byte format ≡ format_byte other → format ≡ other
one_byte One One is = refl
one_byte One Two is = absurd (omega (arith, is))
one_byte Two One is = absurd (omega (arith, is))
one_byte Two Two is = refl

pub one_format : (format other : Format) (image : ℕ → ℕ) → HasFormat format image → HasFormat other image → format ≡ other
one_format format other image a b = one_byte format other (sym a ∙ b)

pub one_list : (slots : ℕ) (digest : List ℕ) (format other : Format) (image : ℕ → ℕ) (first second : List (List ℕ)) → HasRecords slots digest format image first → HasRecords slots digest other image second → (format ≡ other) × (first ≡ second)
one_list slots digest format other image first second (inl a) (inl b) = (a.1 ∙ sym b.1, a.0.none ∙ sym b.0.none)
one_list slots digest format other image first second (inl a) (inr b) = absurd (a.0.gate (gate_of_header slots digest image b.header))
one_list slots digest format other image first second (inr a) (inl b) = absurd (b.0.gate (gate_of_header slots digest image a.header))
one_list slots digest format other image first second (inr a) (inr b) = (one_format format other image a.format_there b.format_there, one_half slots (image 48 % 2) image first second a.half b.half)
