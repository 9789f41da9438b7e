-- What was written behind something is written with it.
use Rattle.std.proofs.Common.{◌≡◌, ℕ, ◌+◌, ◌≤◌, List, ◌++◌, length, take, drop, sym, ap, ◌∙◌, append_assoc, arith}
use Rattle.std.proofs.lemmas.List.{take_at, length-append, length-take, length-drop, drop-drop}
use Rattle.std.proofs.Math.Seq.{drop-append_seam}
use Rattle.coap_message.specs.Writing.{put_at}

pub put-length : (at : ℕ) (bytes buffer : List ℕ) → at + length bytes ≤ length buffer → length (put_at at bytes buffer) ≡ length buffer
put-length at bytes buffer room =
    omega (arith, length-append (take at buffer ++ bytes) (drop (at + length bytes) buffer), length-append (take at buffer) bytes, length-take at buffer, length-drop (at + length bytes) buffer)

front : (at : ℕ) (a buffer : List ℕ) → at + length a ≤ length buffer → length (take at buffer ++ a) ≡ at + length a
front at a buffer room = omega (arith, length-append (take at buffer) a, length-take at buffer)

pub put-put : (at : ℕ) (a b buffer : List ℕ) → at + length a + length b ≤ length buffer → put_at (at + length a) b (put_at at a buffer) ≡ put_at at (a ++ b) buffer
put-put at a b buffer room =
    let size = front at a buffer (omega arith) in
    let behind = drop (at + length a) buffer in
    let whole = length-append a b in
    let same : at + length a + length b ≡ at + length (a ++ b) = omega (arith, whole) in
    let first : take (at + length a) ((take at buffer ++ a) ++ behind) ≡ take at buffer ++ a = take_at (take at buffer ++ a) behind (at + length a) size in
    let more : drop (at + length a + length b) ((take at buffer ++ a) ++ behind) ≡ drop (at + length a + length b) buffer
    = ap (λ (n : ℕ). drop n ((take at buffer ++ a) ++ behind)) (sym (ap (λ (n : ℕ). n + length b) size)) ∙ sym (drop-drop (length b) (length (take at buffer ++ a)) ((take at buffer ++ a) ++ behind))
    ∙ ap (drop (length b)) (drop-append_seam (take at buffer ++ a) behind) ∙ drop-drop (length b) (at + length a) buffer in
    rw (first, more, same) (ap (λ (y : List ℕ). y ++ drop (at + length (a ++ b)) buffer) (append_assoc (take at buffer) a b))

-- the same, of calls
pub put_then : (at : ℕ) (a b buffer one two : List ℕ) (r : ℕ) → one ≡ put_at at a buffer → r ≡ at + length a → two ≡ put_at r b one → at + length (a ++ b) ≤ length buffer → two ≡ put_at at (a ++ b) buffer
put_then at a b buffer one two r e f g room =
    g ∙ ap (λ (n : ℕ). put_at n b one) f ∙ ap (put_at (at + length a) b) e ∙ put-put at a b buffer (omega (arith, length-append a b))

pub place_then : (at : ℕ) (a b : List ℕ) (r s : ℕ) → r ≡ at + length a → s ≡ r + length b → s ≡ at + length (a ++ b)
place_then at a b r s e f = omega (arith, length-append a b)

pub put_in_turn : (at : ℕ) (a b c d buffer one two three four : List ℕ) (r s t : ℕ) → one ≡ put_at at a buffer → r ≡ at + length a → two ≡ put_at r b one → s ≡ r + length b → three ≡ put_at s c two → t ≡ s + length c → four ≡ put_at t d three
    → at + length (a ++ b ++ c ++ d) ≤ length buffer → four ≡ put_at at (a ++ b ++ c ++ d) buffer
put_in_turn at a b c d buffer one two three four r s t e f g h i j k room =
    let abcd = length-append (a ++ b ++ c) d in
    let abc = length-append (a ++ b) c in
    let first = put_then at a b buffer one two r e f g (omega (arith, abc, abcd)) in
    let second = put_then at (a ++ b) c buffer two three s first (place_then at a b r s f h) i (omega (arith, abcd)) in
    put_then at (a ++ b ++ c) d buffer three four t second (place_then at (a ++ b) c s t (place_then at a b r s f h) j) k room

-- written in front
pub put_front : (bytes buffer new : List ℕ) (n : ℕ) → new ≡ put_at 0 bytes buffer → n ≡ 0 + length bytes → new ≡ bytes ++ drop n buffer
put_front bytes buffer new n e size = e ∙ ap (λ (k : ℕ). bytes ++ drop k buffer) (omega (arith, size))
