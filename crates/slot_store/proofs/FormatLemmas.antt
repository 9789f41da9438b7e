-- A disk without a header, and the writing of one.
use Rattle.std.proofs.Common.{zero, suc, ◌≡◌, ◌≢◌, ◌⊎◌, inl, inr, ℕ, ◌+◌, ◌-◌, ◌*◌, ◌%◌, ◌<◌, ◌≤◌, List, [], length, get_or, Option, refl, sym, ap, subst, ◌∙◌, arith}
use Rattle.std.specs.Prelude.{true, false}
use Rattle.std.proofs.lemmas.Bool.{cases_eq, cases_lt, eqb-true, eqb-false, not-true, not-false}
use Rattle.dots_host.specs.Media.{Media, byte_of, bytes_at}
use Rattle.dots_host.specs.Becoming.{KeepsMedia, Leaves, RestsWith}
use Rattle.dots_host.proofs.WrittenLemmas.{byte_of_bytes_at}
use Rattle.slot_store.specs.declared.wanted.Wanted.TheVariants as wanted
use Rattle.slot_store.specs.declared.format.Format.{Format}
use Rattle.slot_store.specs.declared.format.Format.TheVariants.{Two}
use Rattle.slot_store.specs.Formats.{format_byte}
use Rattle.slot_store.specs.Layout.{place_of, format_place, header_of, IsHalf, IsBlank, IsJournal, HasRecords, IsZeroFrom}
use Rattle.slot_store.specs.Opening.{IsOpening, IsOpened, Is}
use Rattle.slot_store.specs.Gates.{is_wanted}
use Rattle.slot_store.specs.Gates.{NoneIs, IsFirst}
use Rattle.slot_store.specs.Refusing.{IsStrayGate}
use Rattle.slot_store.proofs.Steps.{leaves_as, leaves_then, seen_at_rest, rests_as}
use Rattle.slot_store.proofs.DiskReading.{leaves_unchanged, rests_unchanged}

-- ---- gates of both halves

is_zero : (byte : ℕ) → is_wanted wanted.NotZero byte ≡ false → byte ≡ 0
is_zero byte is = eqb-true byte 0 (not-false _ is)

is_not_zero : (byte : ℕ) → is_wanted wanted.NotZero byte ≡ true → byte ≢ 0
is_not_zero byte is = eqb-false byte 0 (not-true _ is)

within_both : (slots half slot : ℕ) → half < 2 → slot < slots → half * slots + slot < 2 * slots
within_both slots zero slot two under = omega arith
within_both slots (suc zero) slot two under = omega arith
within_both slots (suc (suc n)) slot two under = absurd (omega arith)

gate_place : (slots half slot : ℕ) → 8192 + 8192 * (half * slots + slot) ≡ place_of slots half slot
gate_place slots half slot = omega arith

pub all_zero : (slots : ℕ) (seen : ℕ → ℕ) → seen 0 ≢ 165 → NoneIs wanted.NotZero seen 8192 0 (2 * slots) → IsBlank slots seen []
all_zero slots seen gate none = record {
  gate = gate;
  gates = λ half slot two under. ap seen (sym (gate_place slots half slot)) ∙ is_zero _ (none (half * slots + slot) (omega arith) (within_both slots half slot two under));
  none = refl;
}

slot_of : (slots index : ℕ) → index < 2 * slots → (half slot : ℕ) × (half < 2) × (slot < slots) × (8192 * (1 + index) ≡ place_of slots half slot)
slot_of slots index under = elim (cases_lt index slots) [
  | inl first ↦ (0, index, (let two : 0 < 2 = omega arith in two), first, (let place : 8192 * (1 + index) ≡ place_of slots 0 index = omega arith in place))
  | inr second ↦ (1, index - slots, (let two : 1 < 2 = omega arith in two), (let low : index - slots < slots = omega arith in low), (let place : 8192 * (1 + index) ≡ place_of slots 1 (index - slots) = omega arith in place))
]

pub stray : (slots : ℕ) (seen : ℕ → ℕ) (index : ℕ) → IsFirst wanted.NotZero seen 8192 0 (2 * slots) index → IsStrayGate slots seen (8192 * (1 + index))
stray slots seen index is =
    let place : 8192 + 8192 * index ≡ 8192 * (1 + index) = omega arith in
    record {
      slot = slot_of slots index is.high;
      wrong = subst (λ place. seen place ≢ 0) place (is_not_zero _ is.is);
      before = λ half slot two under low.
          let earlier : half * slots + slot < index = omega arith in
          ap seen (sym (gate_place slots half slot)) ∙ is_zero _ (is.before (half * slots + slot) (omega arith) earlier);
    }

-- ---- the header is written

-- the bytes behind the header's gate
pub record IsRest (slots : ℕ) (digest : List ℕ) (format : Format) (bytes : List ℕ) : Type 0 where
  pub size : length bytes ≡ 63
  pub each : (offset : ℕ) → offset < 63 → (offset < 47 ⊎ 50 ≤ offset) → get_or bytes offset 0 ≡ byte_of (header_of slots digest) (1 + offset)
  pub selector : get_or bytes 47 0 ≡ 0
  pub format_there : get_or bytes 48 0 ≡ format_byte format

is_there : (slots : ℕ) (digest : List ℕ) (format : Format) (bytes : List ℕ) (image : ℕ → ℕ) → IsRest slots digest format bytes → bytes_at image (0 + 1) (length bytes) ≡ bytes → (offset : ℕ) → offset < 63 → image (1 + offset) ≡ get_or bytes offset 0
is_there slots digest format bytes image rest stands offset under =
    let size = rest.size in
    let inside : offset < length bytes = omega arith in
    let place : 1 + offset ≡ 0 + 1 + offset = omega arith in
    ap image place ∙ sym (byte_of_bytes_at image (0 + 1) (length bytes) offset inside) ∙ ap (λ bytes. get_or bytes offset 0) stands

pub formatted : (slots : ℕ) (digest : List ℕ) (format : Format) (bytes : List ℕ) (seen image : ℕ → ℕ) → IsRest slots digest format bytes → IsBlank slots seen [] → ((place : ℕ) → 64 ≤ place → image place ≡ seen place) → image 0 ≡ 165
    → bytes_at image (0 + 1) (length bytes) ≡ bytes → IsJournal slots digest format image [] × (image 48 ≡ 0)
formatted slots digest format bytes seen image rest blank kept gate stands = (
  record {
    header = header;
    format_there = ap (λ n. image (format_place (n % 2))) selector ∙ is_there slots digest format bytes image rest stands 48 (omega arith) ∙ rest.format_there;
    half = subst (λ half. IsHalf slots half image []) half empty;
  },
  selector,
)
  where
    selector : image 48 ≡ 0
    selector = is_there slots digest format bytes image rest stands 47 (omega arith) ∙ rest.selector

    half : 0 ≡ image 48 % 2
    half = sym (ap (λ n. n % 2) selector)

    before : (place : ℕ) → (suc place < 48 ⊎ 51 ≤ suc place) → (place < 47 ⊎ 50 ≤ place)
    before place (inl low) = inl (omega arith)
    before place (inr high) = inr (omega arith)

    header : (place : ℕ) → place < 64 → (place < 48 ⊎ 51 ≤ place) → image place ≡ byte_of (header_of slots digest) place
    header zero low other = gate
    header (suc place) low other =
        let offset : place < 63 = omega arith in
        let here : suc place ≡ 1 + place = omega arith in
        ap image here ∙ is_there slots digest format bytes image rest stands place offset ∙ rest.each place offset (before place other) ∙ ap (byte_of (header_of slots digest)) (sym here)

    empty : IsHalf slots 0 image []
    empty = record {
      fits = omega arith;
      filled = λ slot under. absurd (omega arith);
      closed = λ slot low high opened.
          let zero_gate : image (place_of slots 0 slot) ≡ 0 = kept (place_of slots 0 slot) (omega arith) ∙ blank.gates 0 slot (omega arith) high in
          absurd (omega arith);
    }

pub format_image : (slots : ℕ) (digest : List ℕ) (format : Format) (bytes : List ℕ) (seen image : ℕ → ℕ) → IsRest slots digest format bytes → IsBlank slots seen [] → IsOpening seen 0 bytes image → IsBlank slots image [] ⊎ IsJournal slots digest format image []
format_image slots digest format bytes seen image rest blank opening = elim (cases_eq (image 0) 165) [
  | inl opened ↦ inr (formatted slots digest format bytes seen image rest blank kept opened (stands opened opening.gate)).0
  | inr closed ↦ inl (record {
    gate = closed;
    gates = λ half slot two under. kept (place_of slots half slot) (omega arith) ∙ blank.gates half slot two under;
    none = refl;
  })
]
  where
    size : length bytes ≡ 63
    size = rest.size

    kept : (place : ℕ) → 64 ≤ place → image place ≡ seen place
    kept place high = opening.kept place (inr (omega (arith, size)))

    stands : image 0 ≡ 165 → (image 0 ≡ seen 0) ⊎ (bytes_at image (0 + 1) (length bytes) ≡ bytes) → bytes_at image (0 + 1) (length bytes) ≡ bytes
    stands opened (inl same) = absurd (blank.gate (sym same ∙ opened))
    stands opened (inr bytes) = bytes

-- ---- the calls

blank_has : (slots : ℕ) (digest : List ℕ) (image : ℕ → ℕ) → IsBlank slots image [] → HasRecords slots digest Two image []
blank_has slots digest image blank = inl (blank, refl)

either_has : (slots : ℕ) (digest : List ℕ) (image : ℕ → ℕ) → IsBlank slots image [] ⊎ IsJournal slots digest Two image [] → HasRecords slots digest Two image []
either_has slots digest image (inl blank) = blank_has slots digest image blank
either_has slots digest image (inr journal) = inr journal

pub format_reads : (start new : Option Media) (slots : ℕ) (digest : List ℕ) (seen : ℕ → ℕ) → KeepsMedia start new → RestsWith start (Is seen) → IsBlank slots seen [] → Leaves start new (λ image. HasRecords slots digest Two image [])
format_reads start new slots digest seen keeps rests blank = leaves_unchanged start new seen (λ image. HasRecords slots digest Two image []) keeps rests (blank_has slots digest seen blank)

pub format_leaves : (start between new : Option Media) (slots : ℕ) (digest : List ℕ) (bytes : List ℕ) (seen : ℕ → ℕ) → IsRest slots digest Two bytes → KeepsMedia start between → ((seen : ℕ → ℕ) → RestsWith between (Is seen) → Leaves between new (IsOpening seen 0 bytes))
    → RestsWith start (Is seen) → IsBlank slots seen [] → Leaves start new (λ image. HasRecords slots digest Two image [])
format_leaves start between new slots digest bytes seen rest keeps moments rests blank =
    leaves_then start between new (λ image. HasRecords slots digest Two image []) (format_reads start between slots digest seen keeps rests blank)
    (leaves_as between new (IsOpening seen 0 bytes) (λ image. HasRecords slots digest Two image []) (λ image opening. either_has slots digest image (format_image slots digest Two bytes seen image rest blank opening))
    (moments seen (rests_unchanged start between (Is seen) keeps rests)))

pub format_rests : (start between new : Option Media) (slots : ℕ) (digest : List ℕ) (bytes : List ℕ) (seen : ℕ → ℕ) → IsRest slots digest Two bytes → KeepsMedia start between → ((seen : ℕ → ℕ) → RestsWith between (Is seen) → RestsWith new (IsOpened seen 0 bytes))
    → RestsWith start (Is seen) → IsBlank slots seen [] → RestsWith new (λ image. IsJournal slots digest Two image [] × (image 48 ≡ 0))
format_rests start between new slots digest bytes seen rest keeps opened rests blank =
    rests_as new (IsOpened seen 0 bytes) (λ image. IsJournal slots digest Two image [] × (image 48 ≡ 0))
    (λ image is. formatted slots digest Two bytes seen image rest blank (λ place high. is.kept place (inr (let size = rest.size in omega arith))) is.gate is.bytes) (opened seen (rests_unchanged start between (Is seen) keeps rests))

-- ---- a disk of zeros

zeros_blank : (slots : ℕ) (seen : ℕ → ℕ) → IsZeroFrom 0 seen → IsBlank slots seen []
zeros_blank slots seen zeros = record {
  gate = λ opened. let none : seen 0 ≡ 0 = zeros 0 (omega arith) in absurd (omega arith);
  gates = λ half slot two under. zeros (place_of slots half slot) (omega arith);
  none = refl;
}

pub zeros_leave : (start new : Option Media) (slots : ℕ) (digest : List ℕ) (format : Format) (bytes : List ℕ) → IsRest slots digest format bytes → ((seen : ℕ → ℕ) → RestsWith start (Is seen) → Leaves start new (IsOpening seen 0 bytes)) → RestsWith start (IsZeroFrom 0)
    → Leaves start new (λ image. IsBlank slots image [] ⊎ IsJournal slots digest format image [])
zeros_leave start new slots digest format bytes rest moments rests =
    let found = seen_at_rest start (IsZeroFrom 0) rests in
    leaves_as start new (IsOpening found.0 0 bytes) (λ image. IsBlank slots image [] ⊎ IsJournal slots digest format image []) (λ image opening. format_image slots digest format bytes found.0 image rest (zeros_blank slots found.0 found.2) opening)
    (moments found.0 found.1)

pub zeros_rest : (start new : Option Media) (slots : ℕ) (digest : List ℕ) (format : Format) (bytes : List ℕ) → IsRest slots digest format bytes → ((seen : ℕ → ℕ) → RestsWith start (Is seen) → RestsWith new (IsOpened seen 0 bytes)) → RestsWith start (IsZeroFrom 0)
    → RestsWith new (λ image. IsJournal slots digest format image [] × IsZeroFrom 64 image)
zeros_rest start new slots digest format bytes rest opened rests =
    let found = seen_at_rest start (IsZeroFrom 0) rests in
    rests_as new (IsOpened found.0 0 bytes) (λ image. IsJournal slots digest format image [] × IsZeroFrom 64 image)
    (λ image is.
    let kept : (place : ℕ) → 64 ≤ place → image place ≡ found.0 place = λ place high. is.kept place (inr (let size = rest.size in omega arith)) in
    ((formatted slots digest format bytes found.0 image rest (zeros_blank slots found.0 found.2) kept is.gate is.bytes).0, λ place high. kept place high ∙ found.2 place (omega arith)))
    (opened found.0 found.1)
