-- The slots of a half that was read.
use Rattle.std.proofs.Common.{◌≡◌, ◌≢◌, inl, inr, ℕ, zero, suc, ◌+◌, ◌*◌, ◌%◌, ◌^◌, ◌<◌, ◌≤◌, List, [], ◌∷◌, ◌++◌, length, length-drop, take, drop, get_or, Some, None, refl, sym, ap, subst, ◌∙◌, arith}
use Rattle.std.specs.Prelude.{true, false}
use Rattle.std.specs.List.{AllByRecursion}
use Rattle.std.proofs.lemmas.Bool.{cases_eq, eqb-true, eqb-false}
use Rattle.std.proofs.lemmas.List.{length-map, length-append, length-take}
use Rattle.dots_host.specs.Media.{bytes_at}
use Rattle.slot_store.specs.declared.format.Format.{Format}
use Rattle.dots_history.specs.declared.entry.Entry.{Entry}
use Rattle.slot_journal.specs.Layout.{record_bytes}
use Rattle.slot_journal.specs.Records.{IsRecord}
use Rattle.slot_store.specs.declared.wanted.Wanted.TheVariants as wanted
use Rattle.slot_store.specs.Layout.{place_of, needed_of, IsSlot, IsHalf}
use Rattle.slot_store.specs.Gates.{is_wanted}
use Rattle.slot_store.specs.Gates.{NoneIs, IsFirst}
use Rattle.slot_store.specs.Refusing.{IsCount}
use Rattle.slot_store.specs.StoreValues.{IsFound}
use Rattle.slot_journal.specs.declared.fault.JournalFault.{JournalFault}
use Rattle.slot_journal.specs.declared.fault.JournalFault.TheVariants as fault
use Rattle.slot_journal.specs.DiskEntries.{HasRecord, records_of}
use Rattle.slot_journal.specs.Refused.{IsNoRecord, RefusesSlot, RefusesRest, RefusesHalf, HasFirst, IsStray, AreClosed}
use Rattle.slot_journal.proofs.Listed.{records_push}

-- ---- one slot

-- the bytes that were read stand in the slot, where its gate is open
pub slot_found : (seen : ℕ → ℕ) (at : ℕ) (room : List ℕ) (len : ℕ) → IsFound seen at room (Some len) → seen at ≡ 165 → length (take len (drop 3 room)) ≡ len → IsSlot seen at (take len (drop 3 room))
slot_found seen at room len found gate size =
    let low : len ≤ 8189 = found.1 in
    record {
      gate = gate;
      fits = omega (arith, size, low);
      size = found.0 ∙ sym size;
      bytes = ap (bytes_at seen (at + 3)) size ∙ sym found.2;
    }

-- a slot holds one record
pub one_slot : (seen : ℕ → ℕ) (at : ℕ) (first second : List ℕ) → IsSlot seen at first → IsSlot seen at second → first ≡ second
one_slot seen at first second one other = sym one.bytes ∙ ap (bytes_at seen (at + 3)) (sym one.size ∙ other.size) ∙ other.bytes

pub stray_bytes : (format : Format) (seen : ℕ → ℕ) (at : ℕ) (room : List ℕ) (len : ℕ) → IsFound seen at room (Some len) → length (take len (drop 3 room)) ≡ len → ((entry : Entry) → ¬ (IsRecord format (take len (drop 3 room)) entry)) → IsStray format seen at
stray_bytes format seen at room len found size none filled entry is record_is =
    none entry (subst (λ filled. IsRecord format filled entry) (one_slot seen at filled (take len (drop 3 room)) is (slot_found seen at room len found is.gate size)) record_is)

pub stray_long : (format : Format) (seen : ℕ → ℕ) (at : ℕ) (room : List ℕ) → IsFound seen at room None → IsStray format seen at
stray_long format seen at room found filled entry is record_is =
    let long : 8189 < 256 * seen (at + 1) + seen (at + 2) = found in
    let fits = is.fits in
    absurd (omega (arith, long, is.size, fits))

pub slot_refused : (format : Format) (seen : ℕ → ℕ) (at : ℕ) (room : List ℕ) (len : ℕ) (why : JournalFault) → IsFound seen at room (Some len) → length (take len (drop 3 room)) ≡ len → IsNoRecord format (take len (drop 3 room)) at why → RefusesSlot format seen at why
slot_refused format seen at room len (fault.NotOurs place) found size none = (none.0, stray_bytes format seen at room len found size none.1)
slot_refused format seen at room len fault.NoMemory found size none = tt
slot_refused format seen at room len fault.DiskFault found size none = tt
slot_refused format seen at room len (fault.TooSmall needed bytes) found size none = absurd none
slot_refused format seen at room len (fault.SettingsChanged stored given) found size none = absurd none

size_of : (room : List ℕ) (len : ℕ) → length room ≡ 8192 → len ≤ 8189 → length (take len (drop 3 room)) ≡ len
size_of room len whole fits = let taken = length-take len (drop 3 room) in let dropped = length-drop 3 room in omega (arith, whole, fits, taken, dropped)

-- the entry that was read of the bytes stands in the slot
pub entry_found : (format : Format) (seen : ℕ → ℕ) (at : ℕ) (room : List ℕ) (len : ℕ) (bytes : List ℕ) (entry : Entry) → IsFound seen at room (Some len) → seen at ≡ 165 → length room ≡ 8192 → take len (drop 3 room) ≡ bytes → bytes ≡ record_bytes format entry → IsSlot seen at (record_bytes format entry)
entry_found format seen at room len bytes entry found gate whole same is = subst (IsSlot seen at) (same ∙ is) (slot_found seen at room len found gate (size_of room len whole found.1))

pub read_refused : (format : Format) (seen : ℕ → ℕ) (at : ℕ) (room : List ℕ) (len : ℕ) (bytes : List ℕ) (why : JournalFault) → IsFound seen at room (Some len) → length room ≡ 8192 → take len (drop 3 room) ≡ bytes → IsNoRecord format bytes at why → RefusesSlot format seen at why
read_refused format seen at room len bytes why found whole same none = slot_refused format seen at room len why found (size_of room len whole found.1) (subst (λ bytes. IsNoRecord format bytes at why) (sym same) none)

-- ---- the entries, one after the other

pub has_none : (slots half : ℕ) (format : Format) (seen : ℕ → ℕ) → HasFirst slots half format seen []
has_none slots half format seen slot under = absurd (omega (arith, under))

pub has_one_more : (slots half : ℕ) (format : Format) (seen : ℕ → ℕ) (entries : List Entry) (entry : Entry) → HasFirst slots half format seen entries → IsSlot seen (place_of slots half (length entries)) (record_bytes format entry)
    → HasFirst slots half format seen (entries ++ entry ∷ [])
has_one_more slots half format seen entries entry first next slot under = elim (cases_eq slot (length entries)) [
  | inl same ↦
      let count : length (records_of format entries) ≡ slot = length-map entries (record_bytes format) ∙ sym same in
      let last : get_or (records_of format (entries ++ entry ∷ [])) slot [] ≡ record_bytes format entry = ap (λ records. get_or records slot []) (sym (records_push format entries entry (record_bytes format entry) refl)) ∙ last_of (records_of format entries) (record_bytes format entry) slot count in
      subst (IsSlot seen (place_of slots half slot)) (sym last) (subst (λ slot. IsSlot seen (place_of slots half slot) (record_bytes format entry)) (sym same) next)
  | inr other ↦
      let size : length (entries ++ entry ∷ []) ≡ length entries + 1 = length-append entries (entry ∷ []) in
      let low : slot < length entries = omega (arith, under, size, other) in
      let within : slot < length (records_of format entries) = omega (arith, low, length-map entries (record_bytes format)) in
      let earlier : get_or (records_of format (entries ++ entry ∷ [])) slot [] ≡ get_or (records_of format entries) slot [] = ap (λ records. get_or records slot []) (sym (records_push format entries entry (record_bytes format entry) refl)) ∙ front_of (records_of format entries) (record_bytes format entry) slot within in
      subst (IsSlot seen (place_of slots half slot)) (sym earlier) (first slot low)
]
  where
    last_of : (records : List (List ℕ)) (bytes : List ℕ) (slot : ℕ) → length records ≡ slot → get_or (records ++ bytes ∷ []) slot [] ≡ bytes
    last_of [] bytes zero is = refl
    last_of [] bytes (suc slot) is = absurd (omega (arith, is))
    last_of (x ∷ records) bytes zero is = absurd (omega (arith, is))
    last_of (x ∷ records) bytes (suc slot) is = last_of records bytes slot (omega (arith, is))

    front_of : (records : List (List ℕ)) (bytes : List ℕ) (slot : ℕ) → slot < length records → get_or (records ++ bytes ∷ []) slot [] ≡ get_or records slot []
    front_of [] bytes slot under = absurd (omega (arith, under))
    front_of (x ∷ records) bytes zero under = refl
    front_of (x ∷ records) bytes (suc slot) under = front_of records bytes slot (omega (arith, under))

-- a slot that is refused is one of the half
pub bad_slot : (slots half used : ℕ) (format : Format) (seen : ℕ → ℕ) (entries : List Entry) (at : ℕ) (why : JournalFault) → IsCount slots half seen used → length entries < used → at ≡ place_of slots half (length entries) → HasFirst slots half format seen entries → AllByRecursion HasRecord entries
    → RefusesSlot format seen at why → RefusesHalf slots half format seen why
bad_slot slots half used format seen entries at (fault.NotOurs place) count under there first each refuses =
    let fits = count.fits in
    inl (record {
      before = entries;
      front = first;
      each = each;
      within = omega (arith, under, fits);
      there = refuses.0 ∙ there;
      gate = ap seen (refuses.0 ∙ there) ∙ count.gates (length entries) under;
      stray = subst (IsStray format seen) (sym refuses.0) refuses.1;
    })
bad_slot slots half used format seen entries at fault.DiskFault count under there first each refuses = tt
bad_slot slots half used format seen entries at fault.NoMemory count under there first each refuses = tt
bad_slot slots half used format seen entries at (fault.TooSmall needed bytes) count under there first each refuses = absurd refuses
bad_slot slots half used format seen entries at (fault.SettingsChanged stored given) count under there first each refuses = absurd refuses

-- ---- what stands behind the entries

gate_at : (slots half slot : ℕ) → place_of slots half 0 + 8192 * slot ≡ place_of slots half slot
gate_at slots half slot = omega arith

closed_gate : (byte : ℕ) → is_wanted wanted.Open byte ≡ false → byte ≢ 165
closed_gate byte is = eqb-false byte 165 is

open_gate : (byte : ℕ) → is_wanted wanted.Open byte ≡ true → byte ≡ 165
open_gate byte is = eqb-true byte 165 is

pub all_closed : (slots half : ℕ) (seen : ℕ → ℕ) (from to : ℕ) → NoneIs wanted.Open seen (place_of slots half 0) from to → AreClosed slots half seen from to
all_closed slots half seen from to none slot low high opened = closed_gate _ (none slot low high) (ap seen (gate_at slots half slot) ∙ opened)

pub first_open : (slots half : ℕ) (seen : ℕ → ℕ) (used slot at : ℕ) → IsFirst wanted.Open seen (place_of slots half 0) used slots slot → at ≡ place_of slots half slot → RefusesRest slots half seen used (fault.NotOurs at)
first_open slots half seen used slot at is there = (
  slot,
  is.low,
  is.high,
  there,
  ap seen (there ∙ sym (gate_at slots half slot)) ∙ open_gate _ is.is,
  all_closed slots half seen used slot is.before,
)

pub whole_half : (slots half used : ℕ) (format : Format) (seen : ℕ → ℕ) (entries : List Entry) → IsCount slots half seen used → length entries ≡ used → HasFirst slots half format seen entries → AreClosed slots half seen used slots → IsHalf slots half seen (records_of format entries)
whole_half slots half used format seen entries count size first closed =
    let records = length-map entries (record_bytes format) in
    let fits = count.fits in
    record {
      fits = omega (arith, records, size, fits);
      filled = λ slot under. first slot (omega (arith, under, records));
      closed = λ slot low high. closed slot (omega (arith, low, records, size)) high;
    }

pub rest_refused : (slots half used : ℕ) (format : Format) (seen : ℕ → ℕ) (entries : List Entry) (why : JournalFault) → IsCount slots half seen used → length entries ≡ used → HasFirst slots half format seen entries → AllByRecursion HasRecord entries → RefusesRest slots half seen used why → RefusesHalf slots half format seen why
rest_refused slots half used format seen entries (fault.NotOurs at) count size first each refuses = elim (cases_eq refuses.0 used) [
  | inl same ↦
      let high = refuses.2 in
      let low : used < slots = omega (arith, same, high) in
      absurd (count.next low (ap (λ slot. seen (place_of slots half slot)) (sym same) ∙ ap seen (sym refuses.3) ∙ refuses.4))
  | inr other ↦
      let low = refuses.1 in
      inr (record {
        before = entries;
        front = first;
        each = each;
        slot = refuses.0;
        behind = omega (arith, size, low, other);
        within = refuses.2;
        there = refuses.3;
        gate = refuses.4;
        closed = λ slot from to. refuses.5 slot (omega (arith, size, from)) to;
      })
]
rest_refused slots half used format seen entries fault.DiskFault count size first each refuses = tt
rest_refused slots half used format seen entries fault.NoMemory count size first each refuses = absurd refuses
rest_refused slots half used format seen entries (fault.TooSmall needed bytes) count size first each refuses = absurd refuses
rest_refused slots half used format seen entries (fault.SettingsChanged stored given) count size first each refuses = absurd refuses

-- ---- places on the disk

half_within : (slots half slot extent : ℕ) → half < 2 → needed_of slots ≤ extent → slot < slots → place_of slots half slot + 8192 ≤ extent
half_within slots zero slot extent two needed under = omega (arith, needed, under)
half_within slots (suc zero) slot extent two needed under = omega (arith, needed, under)
half_within slots (suc (suc n)) slot extent two needed under = absurd (omega (arith, two))

pub slot_within : (slots selector slot extent : ℕ) → needed_of slots ≤ extent → slot < slots → place_of slots (selector % 2) slot + 8192 ≤ extent
slot_within slots selector slot extent needed under = half_within slots (selector % 2) slot extent (omega arith) needed under

whole_within : (slots half extent : ℕ) → half < 2 → needed_of slots ≤ extent → place_of slots half 0 + 8192 * slots ≤ extent
whole_within slots zero extent two needed = omega (arith, needed)
whole_within slots (suc zero) extent two needed = omega (arith, needed)
whole_within slots (suc (suc n)) extent two needed = absurd (omega (arith, two))

pub slots_within : (slots selector extent : ℕ) → needed_of slots ≤ extent → place_of slots (selector % 2) 0 + 8192 * slots ≤ extent
slots_within slots selector extent needed = whole_within slots (selector % 2) extent (omega arith) needed

whole_small : (slots half : ℕ) → half < 2 → slots < 2 ^ 32 → place_of slots half 0 + 8192 * slots < 2 ^ 64
whole_small slots zero two small = omega (arith, small)
whole_small slots (suc zero) two small = omega (arith, small)
whole_small slots (suc (suc n)) two small = absurd (omega (arith, two))

pub slots_small : (slots selector : ℕ) → slots < 2 ^ 32 → place_of slots (selector % 2) 0 + 8192 * slots < 2 ^ 64
slots_small slots selector small = whole_small slots (selector % 2) (omega arith) small
