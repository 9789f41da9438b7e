-- A list of bytes that was written in part, with zeros after it.
use Rattle.std.proofs.Common.{◌≡◌, inl, inr, ℕ, ◌+◌, ◌-◌, ◌<◌, ◌≤◌, min, List, ◌++◌, length, take, drop, replicate, get_or, refl, sym, ap, ◌∙◌, arith, length-append, length-drop}
use Rattle.std.proofs.Math.Path.{fun_ext}
use Rattle.std.proofs.lemmas.Bool.{cases_lt}
use Rattle.std.proofs.lemmas.List.{get_or_append_left, get_or-append_right, get_or-take, get_or-drop, get_or-replicate, get_or_past, get_or_default, length-take, length-replicate, take_all}
use borrow.Rule.Slice.PartMut.{put_mid}
use Rattle.dots_host.specs.Media.{byte_of, bytes_at, overwritten}
use Rattle.dots_host.proofs.WrittenLemmas.{overwritten_below, overwritten_from, is_bytes_at}

-- zeros after a list change none of its bytes
pub zeros_after : (bytes : List ℕ) (count place : ℕ) → byte_of (bytes ++ replicate count 0) place ≡ byte_of bytes place
zeros_after bytes count place = elim (cases_lt place (length bytes)) [
  | inl within ↦ get_or_append_left bytes (replicate count 0) 0 place within
  | inr past ↦ get_or-append_right bytes (replicate count 0) (length bytes) place 0 refl past ∙ zero_of (place - length bytes) ∙ sym (get_or_past bytes place 0 past)
]
  where
    zero_of : (offset : ℕ) → byte_of (replicate count 0) offset ≡ 0
    zero_of offset = elim (cases_lt offset count) [
      | inl within ↦ get_or-replicate count offset 0 0 within
      | inr past ↦ get_or_past (replicate count 0) offset 0 (let size : length {A = ℕ} (replicate count 0) ≡ count = length-replicate count 0 in let beyond : length {A = ℕ} (replicate count 0) ≤ offset = omega arith in beyond)
    ]

-- a part of a list that was written
pub put_part : (old grown bytes : List ℕ) (at : ℕ) → at + length bytes ≤ length grown → ((place : ℕ) → get_or grown place 0 ≡ get_or old place 0)
    → byte_of (put_mid at (length bytes) grown bytes) ≡ overwritten (byte_of old) at bytes
put_part old grown bytes at room same = fun_ext place_of
  where
    front : length (take at grown) ≡ at
    front = let size = length-take at grown in omega arith

    place_of : (place : ℕ) → get_or (put_mid at (length bytes) grown bytes) place 0 ≡ overwritten (byte_of old) at bytes place
    place_of place = elim (cases_lt place at) [
      | inl below ↦
          let within : place < length (take at grown) = omega (arith, front) in
          get_or_append_left (take at grown) (bytes ++ drop (length bytes) (drop at grown)) 0 place within ∙ get_or-take at grown place 0 below ∙ same place ∙ sym (overwritten_below (byte_of old) at bytes place below)
      | inr from ↦
          get_or-append_right (take at grown) (bytes ++ drop (length bytes) (drop at grown)) at place 0 front from ∙ behind (place - at) from ∙ sym (overwritten_from (byte_of old) at bytes place from)
    ]
      where
        behind : (offset : ℕ) → at ≤ place → get_or (bytes ++ drop (length bytes) (drop at grown)) (place - at) 0 ≡ get_or bytes (place - at) (get_or old place 0)
        behind offset from = elim (cases_lt (place - at) (length bytes)) [
          | inl within ↦ get_or_append_left bytes (drop (length bytes) (drop at grown)) 0 (place - at) within ∙ get_or_default bytes (place - at) 0 (get_or old place 0) within
          | inr past ↦
              let sum : at + (length bytes + (place - at - length bytes)) ≡ place = omega arith in
              get_or-append_right bytes (drop (length bytes) (drop at grown)) (length bytes) (place - at) 0 refl past
              ∙ get_or-drop (length bytes) (drop at grown) (place - at - length bytes) 0
              ∙ get_or-drop at grown (length bytes + (place - at - length bytes)) 0
              ∙ ap (λ n. get_or grown n 0) sum
              ∙ same place
              ∙ sym (get_or_past bytes (place - at) (get_or old place 0) past)
        ]

-- a part of the list, and zeros where it ends
pub read_parts : (bytes into filled part : List ℕ) (at start count : ℕ) → start ≡ min at (length bytes) → count ≡ min (length into) (length bytes - start) → filled ≡ replicate (length into) 0
    → part ≡ take count (drop start bytes) → part ++ drop count filled ≡ bytes_at (byte_of bytes) at (length into)
read_parts bytes into filled part at start count first second third fourth =
    let sizes = length-drop start bytes in
    let whole = length-take count (drop start bytes) in
    let least : min count (length (drop start bytes)) ≡ count = omega arith in
    let part_size : length part ≡ count = ap length fourth ∙ whole ∙ least in
    let all : length filled ≡ length into = ap length third ∙ length-replicate (length into) 0 in
    let rest = length-drop count filled in
    let both = length-append part (drop count filled) in
    let size : length (part ++ drop count filled) ≡ length into = omega arith in
    is_bytes_at (byte_of bytes) at (length into) (part ++ drop count filled) size (byte part_size)
  where
    byte : length part ≡ count → (offset : ℕ) → offset < length into → byte_of (part ++ drop count filled) offset ≡ byte_of bytes (at + offset)
    byte part_size offset within = elim (cases_lt offset count) [
      | inl below ↦
          let inside : offset < length part = omega arith in
          let same : start + offset ≡ at + offset = omega arith in
          get_or_append_left part (drop count filled) 0 offset inside ∙ ap (λ part. byte_of part offset) fourth ∙ get_or-take count (drop start bytes) offset 0 below ∙ get_or-drop start bytes offset 0 ∙ ap (byte_of bytes) same
      | inr above ↦
          let past : length bytes ≤ at + offset = omega arith in
          let place : count + (offset - count) ≡ offset = omega arith in
          get_or-append_right part (drop count filled) count offset 0 part_size above ∙ get_or-drop count filled (offset - count) 0 ∙ ap (byte_of filled) place ∙ ap (λ filled. byte_of filled offset) third
          ∙ get_or-replicate (length into) offset 0 0 within ∙ sym (get_or_past bytes (at + offset) 0 past)
    ]

-- a list that was made longer by zeros
pub grown_by_zeros : (old new : List ℕ) (len count : ℕ) → length old ≤ len → new ≡ take len old ++ replicate count 0 → byte_of new ≡ byte_of old
grown_by_zeros old new len count longer is = ap byte_of is ∙ ap (λ front. byte_of (front ++ replicate count 0)) (take_all len old longer) ∙ fun_ext (zeros_after old count)

-- a part that was written by another name
pub put_same : (list bytes part : List ℕ) (at count : ℕ) → at + length bytes ≤ length list → part ≡ bytes → count ≡ length bytes → byte_of (put_mid at count list part) ≡ overwritten (byte_of list) at bytes
put_same list bytes part at count room same size =
    ap (λ n. byte_of (put_mid at n list part)) size ∙ ap (λ part. byte_of (put_mid at (length bytes) list part)) same ∙ put_part list list bytes at room (λ place. refl)
