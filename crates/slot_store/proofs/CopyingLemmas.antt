-- Slots that are copied, one after the other.
use Rattle.std.proofs.Common.{◌≡◌, ◌⊎◌, inl, inr, ℕ, ◌+◌, ◌-◌, ◌<◌, ◌≤◌, List, [], ◌∷◌, length, take, get_or, Option, sym, ap, subst, ◌∙◌, arith}
use Rattle.std.proofs.lemmas.Bool.{cases_lt}
use Rattle.std.proofs.lemmas.List.{get_or-take, length-take}
use Rattle.dots_host.specs.Media.{Medium, Media, Outside, byte_of, bytes_at, overwritten, written, settled, IsTorn}
use Rattle.dots_host.proofs.WrittenLemmas.{overwritten_below, overwritten_outside, overwritten_byte, byte_of_bytes_at}
use Rattle.slot_store.specs.declared.format.Format.{Format}
use Rattle.slot_store.specs.declared.format.Format.TheVariants.{Two}
use Rattle.slot_store.specs.Formats.{format_byte, rewritten}
use Rattle.slot_store.specs.Layout.{place_of, format_place, IsSlot}
use Rattle.slot_store.specs.Gates.{Sees}
use Rattle.slot_store.specs.Copying.{BesideHalf, IsCopy, IsEnough, HalfIsCopied}
use Rattle.slot_store.proofs.Places.{moved_slot, same_slot}
use Rattle.slot_store.proofs.Steps.{Images, Rests}
use Rattle.std.specs.Prelude.{IfSome}
use Rattle.slot_store.proofs.DiskReading.{bytes_seen}

-- the same bytes at another place are a copy too
pub copy_moved : (slots half : ℕ) (format : Format) (keep : List ℕ) (seen old new : ℕ → ℕ) (slot at to : ℕ) → ((offset : ℕ) → offset < 8192 → new (to + offset) ≡ old (at + offset)) → IsCopy slots half format keep seen slot old at → IsCopy slots half format keep seen slot new to
copy_moved slots half format keep seen old new slot at to same is = record {
  kept = λ within filled there. same_slot old new at to (rewritten format filled) same (is.kept within filled there);
  closed = λ behind.
      let here : to ≡ to + 0 = omega arith in
      let there : at + 0 ≡ at = omega arith in
      let first : 0 < 8192 = omega arith in
      ap new here ∙ same 0 first ∙ ap old there ∙ is.closed behind;
}

-- so many bytes of a copy that are enough, where they were written
pub written_copy : (slots half : ℕ) (format : Format) (keep : List ℕ) (seen old : ℕ → ℕ) (slot : ℕ) (room : List ℕ) (size at : ℕ) → IsCopy slots half format keep seen slot (byte_of room) 0 → IsEnough keep slot (byte_of room) size → size ≤ length room
    → IsCopy slots half format keep seen slot (overwritten old at (take size room)) at
written_copy slots half format keep seen old slot room size at is enough fits = record {
  kept = λ within filled there. moved_slot (byte_of room) (overwritten old at (take size room)) 0 at (rewritten format filled) (λ offset under short. byte_here offset (enough.all within offset under short)) (is.kept within filled there);
  closed = λ behind.
      let here : at ≡ at + 0 = omega arith in
      ap (overwritten old at (take size room)) here ∙ byte_here 0 enough.some ∙ is.closed behind;
}
  where
    byte_here : (offset : ℕ) → offset < size → overwritten old at (take size room) (at + offset) ≡ byte_of room (0 + offset)
    byte_here offset under =
        let taken = length-take size room in
        let inside : offset < length (take size room) = omega arith in
        let there : offset ≡ 0 + offset = omega arith in
        overwritten_byte old at (take size room) offset inside ∙ get_or-take size room offset 0 under ∙ ap (byte_of room) there

-- ---- the half while it is written

-- a place that is neither the byte of a half's format nor in its slots
pub record Besides (slots half place : ℕ) : Type 0 where
  pub byte : place < format_place half ⊎ format_place half + 1 ≤ place
  pub bytes : place < place_of slots half 0 ⊎ place_of slots half slots ≤ place

pub record Copying (slots half : ℕ) (format : Format) (keep : List ℕ) (seen : ℕ → ℕ) (first : ℕ) (medium : Medium) : Type 0 where
  pub pending : (place : ℕ) → Besides slots (1 - half) place → Outside medium.pending place
  pub elsewhere : BesideHalf slots (1 - half) seen medium.seen
  pub copies : (slot : ℕ) → slot < first → IsCopy slots half format keep seen slot medium.seen (place_of slots (1 - half) slot)

pub copying_images : (slots half : ℕ) (format : Format) (keep : List ℕ) (seen : ℕ → ℕ) (first : ℕ) (medium : Medium) → Copying slots half format keep seen first medium → Images (BesideHalf slots (1 - half) seen) medium
copying_images slots half format keep seen first medium is = λ image of place byte outside. of place (is.pending place (record { byte = byte; bytes = outside })) ∙ is.elsewhere place byte outside

pub copying_begins : (slots half : ℕ) (format : Format) (keep : List ℕ) (seen : ℕ → ℕ) (medium : Medium) → Rests seen medium → Copying slots half format keep seen 0 medium
copying_begins slots half format keep seen medium rests = record {
  pending = λ place outside. subst (λ pending. Outside pending place) (sym rests.none) tt;
  elsewhere = λ place byte outside. ap (λ seen. seen place) rests.same;
  copies = λ slot under. absurd (omega arith);
}

-- the bytes of a slot, among those of the half
part_outside : (slots other slot size place : ℕ) → slot < slots → size ≤ 8192 → (place < place_of slots other 0 ⊎ place_of slots other slots ≤ place)
    → (place < place_of slots other slot ⊎ place_of slots other slot + size ≤ place)
part_outside slots other slot size place within fits (inl below) = inl (omega arith)
part_outside slots other slot size place within fits (inr past) = inr (omega arith)

-- a slot that was lost
pub copying_torn : (slots half : ℕ) (format : Format) (keep : List ℕ) (seen : ℕ → ℕ) (first size : ℕ) (old new : Medium) → first < slots → size ≤ 8192 → Copying slots half format keep seen first old
    → IsTorn (place_of slots (1 - half) first) size old new → Images (BesideHalf slots (1 - half) seen) new
copying_torn slots half format keep seen first size old new within fits is torn = λ image of place byte outside.
    let part = part_outside slots (1 - half) first size place within fits outside in
    of place (subst (λ pending. Outside pending place) (sym torn.pending) (part, is.pending place (record { byte = byte; bytes = outside }))) ∙ torn.kept place part ∙ is.elsewhere place byte outside

-- a slot that was written
pub copying_more : (slots half : ℕ) (format : Format) (keep : List ℕ) (seen : ℕ → ℕ) (first : ℕ) (bytes : List ℕ) (old new : Medium) → first < slots → length bytes ≤ 8192
    → IsCopy slots half format keep seen first (overwritten old.seen (place_of slots (1 - half) first) bytes) (place_of slots (1 - half) first) → Copying slots half format keep seen first old
    → new ≡ written old (place_of slots (1 - half) first) bytes → Copying slots half format keep seen (first + 1) new
copying_more slots half format keep seen first bytes old new within fits last is same = record {
  pending = λ place outside. subst (λ pending. Outside pending place) (sym (ap (λ medium. medium.pending) same)) (part_outside slots (1 - half) first (length bytes) place within fits outside.bytes, is.pending place outside);
  elsewhere = λ place byte outside.
      ap (λ medium. medium.seen place) same ∙ overwritten_outside old.seen (place_of slots (1 - half) first) bytes place (part_outside slots (1 - half) first (length bytes) place within fits outside) ∙ is.elsewhere place byte outside;
  copies = λ slot under. copy_of slot under;
}
  where
    now_seen : new.seen ≡ overwritten old.seen (place_of slots (1 - half) first) bytes
    now_seen = ap (λ medium. medium.seen) same

    copy_of : (slot : ℕ) → slot < first + 1 → IsCopy slots half format keep seen slot new.seen (place_of slots (1 - half) slot)
    copy_of slot under = elim (cases_lt slot first) [
      | inl below ↦ copy_moved slots half format keep seen old.seen new.seen slot (place_of slots (1 - half) slot) (place_of slots (1 - half) slot) (λ offset inside.
          let before : place_of slots (1 - half) slot + offset < place_of slots (1 - half) first = omega arith in
          ap (λ seen. seen (place_of slots (1 - half) slot + offset)) now_seen ∙ overwritten_below old.seen (place_of slots (1 - half) first) bytes (place_of slots (1 - half) slot + offset) before) (is.copies slot below)
      | inr above ↦
          let there : first ≡ slot = omega arith in
          subst (λ slot. IsCopy slots half format keep seen slot new.seen (place_of slots (1 - half) slot)) there
          (subst (λ seen'. IsCopy slots half format keep seen first seen' (place_of slots (1 - half) first)) (sym now_seen) last)
    ]

-- ---- the byte of its format is written

pub record Marked (slots half : ℕ) (format : Format) (keep : List ℕ) (seen : ℕ → ℕ) (medium : Medium) : Type 0 where
  pub copying : Copying slots half format keep seen slots medium
  pub format_there : medium.seen (format_place (1 - half)) ≡ format_byte Two

pub marking_torn : (slots half : ℕ) (format : Format) (keep : List ℕ) (seen : ℕ → ℕ) (old new : Medium) → Copying slots half format keep seen slots old → IsTorn (format_place (1 - half)) 1 old new → Images (BesideHalf slots (1 - half) seen) new
marking_torn slots half format keep seen old new is torn = λ image of place byte outside.
    of place (subst (λ pending. Outside pending place) (sym torn.pending) (byte, is.pending place (record { byte = byte; bytes = outside }))) ∙ torn.kept place byte ∙ is.elsewhere place byte outside

pub marking : (slots half : ℕ) (format : Format) (keep : List ℕ) (seen : ℕ → ℕ) (old new : Medium) → Copying slots half format keep seen slots old → new ≡ written old (format_place (1 - half)) (format_byte Two ∷ []) → Marked slots half format keep seen new
marking slots half format keep seen old new is same = record {
  copying = record {
    pending = λ place outside. subst (λ pending. Outside pending place) (sym (ap (λ medium. medium.pending) same)) (outside.byte, is.pending place outside);
    elsewhere = λ place byte outside. stays place byte ∙ is.elsewhere place byte outside;
    copies = λ slot under.
        copy_moved slots half format keep seen old.seen new.seen slot (place_of slots (1 - half) slot) (place_of slots (1 - half) slot) (λ offset low. stays (place_of slots (1 - half) slot + offset) (inr (omega arith))) (is.copies slot under);
  };
  format_there =
      let here : format_place (1 - half) ≡ format_place (1 - half) + 0 = omega arith in
      ap (λ medium. medium.seen (format_place (1 - half))) same ∙ ap (overwritten old.seen (format_place (1 - half)) (format_byte Two ∷ [])) here ∙ overwritten_byte old.seen (format_place (1 - half)) (format_byte Two ∷ []) 0 (omega arith);
}
  where
    stays : (place : ℕ) → (place < format_place (1 - half) ⊎ format_place (1 - half) + 1 ≤ place) → new.seen place ≡ old.seen place
    stays place byte = ap (λ medium. medium.seen place) same ∙ overwritten_outside old.seen (format_place (1 - half)) (format_byte Two ∷ []) place byte

pub marked_settled : (slots half : ℕ) (format : Format) (keep : List ℕ) (seen : ℕ → ℕ) (old new : Medium) → Marked slots half format keep seen old → new ≡ settled old → (new.pending ≡ []) × HalfIsCopied slots half format keep seen new.seen
marked_settled slots half format keep seen old new is same = (
  ap (λ medium. medium.pending) same,
  subst (HalfIsCopied slots half format keep seen) (sym (ap (λ medium. medium.seen) same)) (record { elsewhere = is.copying.elsewhere; copies = is.copying.copies; format_there = is.format_there }),
)

-- ---- a slot that was read, and rewritten

pub read_copy : (start : Option Media) (slots half : ℕ) (format : Format) (keep : List ℕ) (seen : ℕ → ℕ) (slot kept at count : ℕ) (room new : List ℕ) → count ≡ 8192 → kept ≡ get_or keep slot 0 → slot < length keep → at ≡ place_of slots half kept
    → IfSome start (λ media. room ≡ bytes_at media.now.seen at count) → Sees start seen → ((filled : List ℕ) → IsSlot (byte_of room) 0 filled → IsSlot (byte_of new) 0 (rewritten format filled)) → IsCopy slots half format keep seen slot (byte_of new) 0
read_copy start slots half format keep seen slot kept at count room new size named inside place read sees rewrites =
    let bytes = bytes_seen start seen at count room read sees in
    record {
      kept = λ within filled there. rewrites filled (same_slot seen (byte_of room) (place_of slots half (get_or keep slot 0)) 0 filled (λ offset under.
          let in_room : offset < count = omega arith in
          let start : 0 + offset ≡ offset = omega arith in
          ap (byte_of room) start ∙ ap (λ room. byte_of room offset) bytes ∙ byte_of_bytes_at seen at count offset in_room ∙ ap (λ at. seen (at + offset)) place ∙ ap (λ kept. seen (place_of slots half kept + offset)) named) there);
      closed = λ behind. absurd (omega arith);
    }
