-- The record of a slot that is upgraded where it stands.
use Rattle.std.proofs.Common.{◌≡◌, ℕ, ◌+◌, ◌-◌, ◌/◌, ◌%◌, ◌≤◌, List, [], ◌∷◌, ◌++◌, length, take, drop, set, sym, ap, subst, ◌∙◌, append-nil, arith}
use Rattle.std.proofs.lemmas.List.{length-take, take_all, drop_all}
use borrow.Rule.Slice.PartMut.{put_mid}
use Rattle.dots_host.specs.Media.{byte_of, bytes_at}
use Rattle.dots_host.proofs.WrittenLemmas.{is_bytes_at}
use Rattle.slot_store.specs.Formats.{upgraded}
use Rattle.slot_store.specs.Layout.{IsSlot}
use Rattle.slot_store.proofs.FoundLemmas.{found_record}

-- the record of a slot that fills the room
room_record : (room filled : List ℕ) → length room ≡ 8192 → IsSlot (byte_of room) 0 filled → take (length filled) (drop 3 room) ≡ filled
room_record room filled size is =
    let whole : room ≡ bytes_at (byte_of room) 0 8192 = is_bytes_at (byte_of room) 0 8192 room size (λ offset low. let there : offset ≡ 0 + offset = omega arith in ap (byte_of room) there) in
    let fits = is.fits in
    found_record (byte_of room) 0 room 8192 (length filled) whole (omega arith) ∙ is.bytes

slot_more : (gate size : ℕ) (rest bytes : List ℕ) → gate ≡ 165 → size ≤ 8189 → length rest ≡ 8189 → take size rest ≡ bytes → IsSlot (byte_of (gate ∷ size / 256 ∷ size % 256 ∷ rest)) 0 bytes
slot_more gate size rest bytes opened fits whole stands =
    let len : length bytes ≡ size = sym (ap length stands) ∙ (let taken = length-take size rest in omega arith) in
    record {
      gate = opened;
      fits = omega (arith, len, fits);
      size = omega (arith, len);
      bytes = subst (λ count. bytes_at (byte_of (gate ∷ size / 256 ∷ size % 256 ∷ rest)) 3 count ≡ bytes) (sym len) (sym record_here ∙ stands);
    }
  where
    room : List ℕ
    room = gate ∷ size / 256 ∷ size % 256 ∷ rest

    record_here : take size rest ≡ bytes_at (byte_of room) 3 size
    record_here =
        let whole : room ≡ bytes_at (byte_of room) 0 8192 = is_bytes_at (byte_of room) 0 8192 room (omega (arith, whole)) (λ offset low. let there : offset ≡ 0 + offset = omega arith in ap (byte_of room) there) in
        found_record (byte_of room) 0 room 8192 size whole (omega (arith, fits))

pub upgraded_slot : (old rest : List ℕ) (tail len size : ℕ) → length old ≡ 8192 → length rest ≡ 8189 → tail ≡ length old - 3 → size ≤ 8189 → take size rest ≡ upgraded (take len (take tail (drop 3 old))) → (filled : List ℕ) → IsSlot (byte_of old) 0 filled → len ≡ length filled
    → IsSlot (byte_of (set (set (put_mid 3 tail old rest) 1 (size / 256)) 2 (size % 256))) 0 (upgraded filled)
upgraded_slot [] rest tail len size whole room behind fits stands filled is says = absurd (omega arith)
upgraded_slot (a ∷ []) rest tail len size whole room behind fits stands filled is says = absurd (omega arith)
upgraded_slot (a ∷ b ∷ []) rest tail len size whole room behind fits stands filled is says = absurd (omega arith)
upgraded_slot (a ∷ b ∷ c ∷ old) rest tail len size whole room behind fits stands filled is says =
    let none : drop tail old ≡ [] = drop_all tail old (omega arith) in
    let all : take tail old ≡ old = take_all tail old (omega arith) in
    subst (λ rest. IsSlot (byte_of (a ∷ size / 256 ∷ size % 256 ∷ rest)) 0 (upgraded filled)) (sym (ap (λ tail. rest ++ tail) none ∙ append-nil rest))
    (slot_more a size rest (upgraded filled) is.gate fits room (stands ∙ ap upgraded (ap (take len) all ∙ ap (λ len. take len old) says ∙ room_record (a ∷ b ∷ c ∷ old) filled whole is)))
