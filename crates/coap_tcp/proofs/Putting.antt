-- What is written in front of a buffer, and what is moved in it.
use Rattle.std.proofs.Common.{◌≡◌, ◌≢◌, ℕ, ◌+◌, ◌-◌, ◌≤◌, List, ◌∷◌, [], ◌++◌, length, take, drop, refl, sym, ap, ◌∙◌, append_assoc, arith}
use Rattle.std.specs.List.{copy_within}
use Rattle.std.proofs.lemmas.List.{take_at, drop_at, length-append, length-take}
use Rattle.coap_message.specs.declared.kind.Kind.TheVariants.{Con}
use Rattle.coap_message.specs.declared.parts.Parts.{Parts}
use Rattle.coap_message.specs.Message.{header, options_bytes, payload_bytes, spelling}
use Rattle.coap_message.specs.Parts.{IsValid, InRange, message_of, options_of}
use Rattle.coap_message.specs.Writing.{put_at}
use Rattle.coap_message.proofs.PartsOf.{parts_message}
use Rattle.coap_tcp.specs.Frames.{FrameValue, IsFrame, front_bytes, length_extension}
use Rattle.coap_tcp.specs.Datagrams.{IsDatagram, rest_of, frame_of}

-- what was written in front
pub put_taken : (bytes buffer new : List ℕ) (n : ℕ) → new ≡ put_at 0 bytes buffer → n ≡ length bytes → take n new ≡ bytes
put_taken bytes buffer new n e size = ap (take n) e ∙ take_at bytes (drop (0 + length bytes) buffer) n (sym size)

-- the message of a frame
pub datagram : (f : FrameValue) (bytes : List ℕ) → IsFrame f → f.code ≢ 0 → bytes ≡ header Con f.code 0 f.token ++ f.rest → IsDatagram bytes f
datagram f bytes is code e =
    let options = is.rest.0 in
    let payload = is.rest.1 in
    let split = is.rest.2 in
    record {
      options = options;
      payload = payload;
      rest = split;
      is = record { code = is.code; identifier = omega arith; token = is.token; options = split.are; empty = λ none. absurd (code none) };
      spelled = e ∙ ap (λ (y : List ℕ). header Con f.code 0 f.token ++ y) split.parts ∙ sym (append_assoc (header Con f.code 0 f.token) (options_bytes 0 options) (payload_bytes payload));
    }

-- a part of a buffer was moved, and other bytes were written in front of it
pub moved : (h rest behind encoded copied front new : List ℕ) (i j start n : ℕ) → i ≡ length h → j ≡ length h + length rest → n ≡ start + length rest → encoded ≡ (h ++ rest) ++ behind → copied ≡ copy_within encoded i j start
    → start ≤ length encoded → start ≡ length front → new ≡ put_at 0 front copied → take n new ≡ front ++ rest
moved h rest behind encoded copied front new i j start n i_is j_is n_is e c room size written =
    let there : drop i encoded ≡ rest ++ behind = ap (drop i) (e ∙ append_assoc h rest behind) ∙ drop_at h (rest ++ behind) i (sym i_is) in
    let part : take (j - i) (drop i encoded) ≡ rest = ap (take (j - i)) there ∙ take_at rest behind (j - i) (omega (arith, i_is, j_is)) in
    let left = drop (start + (j - i)) encoded in
    let whole : copied ≡ take start encoded ++ (rest ++ left) = c ∙ ap (λ (y : List ℕ). (take start encoded ++ y) ++ left) part ∙ append_assoc (take start encoded) rest left in
    let kept : drop (0 + length front) copied ≡ rest ++ left = ap (drop (0 + length front)) whole ∙ drop_at (take start encoded) (rest ++ left) (0 + length front) (omega (arith, length-take start encoded, room, size)) in
    let done : new ≡ (front ++ rest) ++ left = written ∙ ap (λ (y : List ℕ). front ++ y) kept ∙ sym (append_assoc front rest left) in
    ap (take n) done ∙ take_at (front ++ rest) left n (omega (arith, length-append front rest, size, n_is))

pub front_len : (code : ℕ) (token : List ℕ) (n : ℕ) → length (front_bytes code token n) ≡ 2 + length (length_extension n) + length token
front_len code token n = omega (arith, length-append (length_extension n ++ code ∷ []) token, length-append (length_extension n) (code ∷ []))

-- the rest of a message is that of its frame
pub spelling_rest : (parts : Parts) → spelling (message_of parts) ≡ header parts.kind parts.code parts.id parts.token.now ++ rest_of parts
spelling_rest parts = append_assoc (header parts.kind parts.code parts.id parts.token.now) (options_bytes 0 (options_of parts.options.now parts.values.now)) (payload_bytes parts.payload.now)

pub spelling_len : (parts : Parts) → length (spelling (message_of parts)) ≡ 4 + length parts.token.now + length (rest_of parts)
spelling_len parts = ap (λ (y : List ℕ). length y) (spelling_rest parts) ∙ omega (arith, length-append (header parts.kind parts.code parts.id parts.token.now) (rest_of parts))

-- the frame of parts can be taken
pub parts_frame : (parts : Parts) → IsValid parts → InRange parts → length (rest_of parts) ≤ 4096 → IsFrame (frame_of parts)
parts_frame parts valid ranges size = record {
  code = ranges.code;
  token = valid.token;
  size = size;
  rest = (options_of parts.options.now parts.values.now, parts.payload.now, record { are = (parts_message parts valid ranges).options; parts = refl });
}
