-- Bytes that were written, and those that stayed.
use Rattle.std.proofs.Common.{◌≡◌, ◌⊎◌, inl, inr, ℕ, ◌+◌, ◌-◌, ◌<◌, ◌≤◌, List, length, get_or, refl, sym, ap, ◌∙◌, arith}
use Rattle.std.proofs.lemmas.Bool.{cond_below, cond_above}
use Rattle.std.proofs.lemmas.List.{get_or_past, get_or_default, ext_get_or}
use Rattle.std.proofs.lemmas.List.FromFn.{length-map-range_with_len, get_or-map-range_with_len}
use Rattle.dots_host.specs.Media.{bytes_at, overwritten}

pub overwritten_below : (bytes : ℕ → ℕ) (at : ℕ) (written : List ℕ) (place : ℕ) → place < at → overwritten bytes at written place ≡ bytes place
overwritten_below bytes at written place below = sym (cond_below place at (bytes place) (get_or written (place - at) (bytes place)) below)

pub overwritten_from : (bytes : ℕ → ℕ) (at : ℕ) (written : List ℕ) (place : ℕ) → at ≤ place → overwritten bytes at written place ≡ get_or written (place - at) (bytes place)
overwritten_from bytes at written place from = sym (cond_above place at (bytes place) (get_or written (place - at) (bytes place)) (get_or written (place - at) (bytes place)) from refl)

-- outside of what was written all is as before
pub overwritten_outside : (bytes : ℕ → ℕ) (at : ℕ) (written : List ℕ) (place : ℕ) → (place < at ⊎ at + length written ≤ place) → overwritten bytes at written place ≡ bytes place
overwritten_outside bytes at written place (inl below) = overwritten_below bytes at written place below
overwritten_outside bytes at written place (inr past) =
    let from : at ≤ place = omega arith in
    let end : length written ≤ place - at = omega arith in
    overwritten_from bytes at written place from ∙ get_or_past written (place - at) (bytes place) end

-- a byte that was written
pub overwritten_byte : (bytes : ℕ → ℕ) (at : ℕ) (written : List ℕ) (offset : ℕ) → offset < length written → overwritten bytes at written (at + offset) ≡ get_or written offset 0
overwritten_byte bytes at written offset within =
    let from : at ≤ at + offset = omega arith in
    let place : at + offset - at ≡ offset = omega arith in
    overwritten_from bytes at written (at + offset) from ∙ ap (λ n. get_or written n (bytes (at + offset))) place ∙ get_or_default written offset (bytes (at + offset)) 0 within

-- a byte of the bytes from a place on
pub byte_of_bytes_at : (bytes : ℕ → ℕ) (at count offset : ℕ) → offset < count → get_or (bytes_at bytes at count) offset 0 ≡ bytes (at + offset)
byte_of_bytes_at bytes at count offset within = get_or-map-range_with_len bytes at count offset (at + offset) 0 within refl

pub length_of_bytes_at : (bytes : ℕ → ℕ) (at count : ℕ) → length (bytes_at bytes at count) ≡ count
length_of_bytes_at bytes at count = length-map-range_with_len bytes at count

-- a list is the bytes from a place on, where each of them is
pub is_bytes_at : (bytes : ℕ → ℕ) (at count : ℕ) (list : List ℕ) → length list ≡ count → ((offset : ℕ) → offset < count → get_or list offset 0 ≡ bytes (at + offset)) → list ≡ bytes_at bytes at count
is_bytes_at bytes at count list size each =
    let both : length list ≡ length (bytes_at bytes at count) = size ∙ sym (length_of_bytes_at bytes at count) in
    ext_get_or 0 list (bytes_at bytes at count) both (λ offset under.
    let within : offset < count = omega arith in
    each offset within ∙ sym (byte_of_bytes_at bytes at count offset within))

-- what was written is read again
pub bytes_written : (bytes : ℕ → ℕ) (at : ℕ) (written : List ℕ) → bytes_at (overwritten bytes at written) at (length written) ≡ written
bytes_written bytes at written = sym (is_bytes_at (overwritten bytes at written) at (length written) written refl (λ offset within. sym (overwritten_byte bytes at written offset within)))
