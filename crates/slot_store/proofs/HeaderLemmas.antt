-- The bytes of a header, part by part.
use Rattle.std.proofs.Common.{zero, suc, ◌≡◌, ◌⊎◌, inl, inr, ℕ, ◌+◌, ◌-◌, ◌<◌, ◌≤◌, List, [], ◌∷◌, ◌++◌, length, take, drop, replicate, length-drop, get_or, refl, sym, ap, ◌∙◌, arith, length-append}
use Rattle.std.proofs.lemmas.Bool.{cases_lt}
use Rattle.std.proofs.lemmas.List.{get_or_append_left, get_or-append_right, get_or_past, get_or-take, get_or-drop, length-take}
use Rattle.slot_store.specs.declared.format.Format.{Format}
use Rattle.slot_store.specs.Formats.{format_byte}
use Rattle.slot_store.specs.Layout.{header_of}
use Rattle.slot_store.proofs.FormatLemmas.{IsRest}
use Rattle.dots_host.specs.Media.{byte_of, overwritten}
use Rattle.dots_host.proofs.WrittenLemmas.{overwritten_below, overwritten_from, overwritten_outside}

-- a part that is written behind the parts before it, with zeros after it
pub part_more : (bytes : ℕ → ℕ) (front part : List ℕ) (at : ℕ) → length front ≡ at → ((place : ℕ) → bytes place ≡ byte_of front place) → (place : ℕ) → overwritten bytes at part place ≡ byte_of (front ++ part) place
part_more bytes front part at size same place = elim (cases_lt place at) [
  | inl below ↦
      let inside : place < length front = omega arith in
      overwritten_below bytes at part place below ∙ same place ∙ sym (get_or_append_left front part 0 place inside)
  | inr from ↦
      let past : length front ≤ place = omega arith in
      overwritten_from bytes at part place from ∙ ap (λ default. get_or part (place - at) default) (same place ∙ get_or_past front place 0 past) ∙ sym (get_or-append_right front part at place 0 size from)
]

pub parts : (zeros first second third : List ℕ) (one two three : ℕ → ℕ) → ((place : ℕ) → byte_of zeros place ≡ 0) → one ≡ overwritten (byte_of zeros) 0 first → two ≡ overwritten one 12 second → three ≡ overwritten two 16 third
    → length first ≡ 12 → length second ≡ 4 → (place : ℕ) → three place ≡ byte_of ((first ++ second) ++ third) place
parts zeros first second third one two three none a b c size sizes place =
    ap (λ bytes. bytes place) c ∙ part_more two (first ++ second) third 16 both at_two place
  where
    both : length (first ++ second) ≡ 16
    both = let sum = length-append first second in omega arith

    at_one : (place : ℕ) → one place ≡ byte_of first place
    at_one place = ap (λ bytes. bytes place) a ∙ part_more (byte_of zeros) [] first 0 refl none place

    at_two : (place : ℕ) → two place ≡ byte_of (first ++ second) place
    at_two place = ap (λ bytes. bytes place) b ∙ part_more one first second 12 size at_one place

pub zeros : (count place : ℕ) → byte_of (replicate count 0) place ≡ 0
zeros zero place = refl
zeros (suc count) zero = refl
zeros (suc count) (suc place) = zeros count place

-- the formats, which are written behind the parts
pub with_formats : (bytes : ℕ → ℕ) (list : List ℕ) (byte place : ℕ) → ((place : ℕ) → bytes place ≡ byte_of list place) → (place < 48 ⊎ 51 ≤ place) → overwritten bytes 49 (byte ∷ byte ∷ []) place ≡ byte_of list place
with_formats bytes list byte place same outside = overwritten_outside bytes 49 (byte ∷ byte ∷ []) place (wider place outside) ∙ same place
  where
    wider : (place : ℕ) → (place < 48 ⊎ 51 ≤ place) → (place < 49 ⊎ 51 ≤ place)
    wider place (inl low) = inl (omega arith)
    wider place (inr high) = inr high

-- the bytes behind the gate of a header
pub is_rest : (slots : ℕ) (digest : List ℕ) (format : Format) (header : List ℕ) → length header ≡ 64 → ((place : ℕ) → (place < 48 ⊎ 51 ≤ place) → byte_of header place ≡ byte_of (header_of slots digest) place) → byte_of header 48 ≡ 0
    → byte_of header 49 ≡ format_byte format → IsRest slots digest format (take 63 (drop 1 header))
is_rest slots digest format header size same selector says = record {
  size = let taken = length-take 63 (drop 1 header) in let dropped = length-drop 1 header in omega arith;
  each = λ offset under outside. byte offset under ∙ same (1 + offset) (later offset outside);
  selector = byte 47 (omega arith) ∙ selector;
  format_there = byte 48 (omega arith) ∙ says;
}
  where
    byte : (offset : ℕ) → offset < 63 → get_or (take 63 (drop 1 header)) offset 0 ≡ byte_of header (1 + offset)
    byte offset under = get_or-take 63 (drop 1 header) offset 0 under ∙ get_or-drop 1 header offset 0

    later : (offset : ℕ) → (offset < 47 ⊎ 50 ≤ offset) → (1 + offset < 48 ⊎ 51 ≤ 1 + offset)
    later offset (inl low) = inl (omega arith)
    later offset (inr high) = inr (omega arith)
