-- What was written behind something is written with it.
use Rattle.std.proofs.Common.{◌≡◌, ℕ, ◌+◌, ◌≤◌, List, ◌++◌, length, take, drop, sym, ap, subst, ◌∙◌, append_assoc, arith}
use Rattle.std.proofs.lemmas.List.{take_at, length-append, length-take, length-drop, drop-drop}
use Rattle.std.proofs.Math.Seq.{drop-append_seam}
use Rattle.http_cut.specs.Writing.{put_at, IsPut}

front : (at : ℕ) (a buffer : List ℕ) → at + length a ≤ length buffer → length (take at buffer ++ a) ≡ at + length a
front at a buffer room = omega (arith, length-append (take at buffer) a, length-take at buffer)

pub put-length : (at : ℕ) (bytes buffer : List ℕ) → at + length bytes ≤ length buffer → length (put_at at bytes buffer) ≡ length buffer
put-length at bytes buffer room =
    omega (arith, length-append (take at buffer ++ bytes) (drop (at + length bytes) buffer), length-append (take at buffer) bytes, length-take at buffer, length-drop (at + length bytes) buffer)

put-put : (at : ℕ) (a b buffer : List ℕ) → at + length a + length b ≤ length buffer → put_at (at + length a) b (put_at at a buffer) ≡ put_at at (a ++ b) buffer
put-put at a b buffer room =
    let size = front at a buffer (omega arith) in
    let behind = drop (at + length a) buffer in
    let whole = length-append a b in
    let same : at + length a + length b ≡ at + length (a ++ b) = omega (arith, whole) in
    let first : take (at + length a) ((take at buffer ++ a) ++ behind) ≡ take at buffer ++ a = take_at (take at buffer ++ a) behind (at + length a) size in
    let more : drop (at + length a + length b) ((take at buffer ++ a) ++ behind) ≡ drop (at + length a + length b) buffer
    = ap (λ (n : ℕ). drop n ((take at buffer ++ a) ++ behind)) (sym (ap (λ (n : ℕ). n + length b) size)) ∙ sym (drop-drop (length b) (length (take at buffer ++ a)) ((take at buffer ++ a) ++ behind))
    ∙ ap (drop (length b)) (drop-append_seam (take at buffer ++ a) behind) ∙ drop-drop (length b) (at + length a) buffer in
    rw (first, more, same) (ap (λ (y : List ℕ). y ++ drop (at + length (a ++ b)) buffer) (append_assoc (take at buffer) a b))

-- two writes, one behind the other
pub put_more : (at : ℕ) (a b buffer one two : List ℕ) (r s : ℕ) → IsPut at a buffer one r → IsPut r b one two s → IsPut at (a ++ b) buffer two s
put_more at a b buffer one two r s x y =
    let size : length one ≡ length buffer = ap (λ (z : List ℕ). length z) x.written ∙ put-length at a buffer (omega (arith, x.place, x.room)) in
    let place : s ≡ at + length (a ++ b) = omega (arith, length-append a b, x.place, y.place) in
    record {
      place = place;
      room = omega (arith, y.room, size);
      written = y.written ∙ ap (λ (n : ℕ). put_at n b one) x.place ∙ ap (put_at (at + length a) b) x.written ∙ put-put at a b buffer (omega (arith, size, y.place, y.room, x.place));
    }

-- the same bytes in other words
pub put_as : (at : ℕ) (bytes same buffer new : List ℕ) (n : ℕ) → bytes ≡ same → IsPut at same buffer new n → IsPut at bytes buffer new n
put_as at bytes same buffer new n e x = subst (λ (y : List ℕ). IsPut at y buffer new n) (sym e) x

-- written in front
pub put_front : (bytes buffer new : List ℕ) (n : ℕ) → IsPut 0 bytes buffer new n → new ≡ bytes ++ drop n buffer
put_front bytes buffer new n x = x.written ∙ ap (λ (k : ℕ). bytes ++ drop k buffer) (sym x.place)
