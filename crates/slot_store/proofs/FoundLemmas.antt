-- The record of a slot that was read.
use Rattle.std.proofs.Common.{◌≡◌, ℕ, ◌+◌, ◌<◌, ◌≤◌, List, length, take, drop, get_or, ap, ◌∙◌, arith, length-drop}
use Rattle.std.proofs.lemmas.List.{get_or-take, get_or-drop, length-take}
use Rattle.dots_host.specs.Media.{bytes_at}
use Rattle.dots_host.proofs.WrittenLemmas.{byte_of_bytes_at, length_of_bytes_at, is_bytes_at}

pub room_byte : (seen : ℕ → ℕ) (at : ℕ) (room : List ℕ) (count offset : ℕ) → room ≡ bytes_at seen at count → offset < count → get_or room offset 0 ≡ seen (at + offset)
room_byte seen at room count offset read low = ap (λ room. get_or room offset 0) read ∙ byte_of_bytes_at seen at count offset low

pub found_record : (seen : ℕ → ℕ) (at : ℕ) (room : List ℕ) (count len : ℕ) → room ≡ bytes_at seen at count → len + 3 ≤ count → take len (drop 3 room) ≡ bytes_at seen (at + 3) len
found_record seen at room count len read fits = is_bytes_at seen (at + 3) len (take len (drop 3 room)) size byte
  where
    whole : length room ≡ count
    whole = ap length read ∙ length_of_bytes_at seen at count

    size : length (take len (drop 3 room)) ≡ len
    size = let taken = length-take len (drop 3 room) in let dropped = length-drop 3 room in omega (arith, whole)

    byte : (offset : ℕ) → offset < len → get_or (take len (drop 3 room)) offset 0 ≡ seen (at + 3 + offset)
    byte offset under =
        let low : 3 + offset < count = omega arith in
        let place : at + (3 + offset) ≡ at + 3 + offset = omega arith in
        get_or-take len (drop 3 room) offset 0 under ∙ get_or-drop 3 room offset 0 ∙ room_byte seen at room count (3 + offset) read low ∙ ap seen place
