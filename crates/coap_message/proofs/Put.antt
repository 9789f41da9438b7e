-- Options are written one after the other.
use Rattle.std.proofs.Common.{◌≡◌, ℕ, ◌+◌, ◌-◌, ◌≤◌, List, [], ◌∷◌, ◌++◌, length, take, drop, refl, sym, ap, subst, ◌∙◌, append_assoc, arith}
use Rattle.std.specs.Prelude.{sum_by}
use Rattle.std.proofs.lemmas.List.{length-append, length-take-le, length-drop}
use Rattle.std.proofs.lemmas.List.Sums.{sum_by-cons}
use Rattle.coap_message.specs.declared.parts.OptionPart.{OptionPart}
use Rattle.coap_message.specs.declared.parts.Parts.{Parts}
use Rattle.coap_message.specs.Message.{CoapOption, header, extension, option_bytes, options_bytes, payload_bytes, spelling}
use Rattle.coap_message.specs.Parts.{AreParts, options_of, message_of}
use Rattle.coap_message.specs.Writing.{put_at, options_size}
use Rattle.coap_message.proofs.PutAt.{put_then, place_then}

-- Some options were written, and the rest with the rest of the values is still to be written.
pub record PutSoFar (buffer : List ℕ) (start : ℕ) (options : List OptionPart) (values : List ℕ) (into : List ℕ) (at previous : ℕ) (rest : List OptionPart) (others : List ℕ) : Type 0 where
  pub bytes : List ℕ
  pub parts : options_bytes 0 (options_of options values) ≡ bytes ++ options_bytes previous (options_of rest others)
  pub place : at ≡ start + length bytes
  pub written : into ≡ put_at start bytes buffer
  pub are : AreParts previous rest
  pub sum : sum_by (λ part. part.length) rest ≡ length others

pub put_more : (buffer : List ℕ) (start : ℕ) (options : List OptionPart) (values into : List ℕ) (at previous : ℕ) (rest : List OptionPart) (others : List ℕ) (part : OptionPart) (behind : List OptionPart) (value left new : List ℕ) (place : ℕ)
    → PutSoFar buffer start options values into at previous rest others → rest ≡ part ∷ behind → value ≡ take part.length others → left ≡ drop part.length others
    → place ≡ at + length (option_bytes previous (record { number = part.number; value = value })) → new ≡ put_at at (option_bytes previous (record { number = part.number; value = value })) into
    → start + length (options_bytes 0 (options_of options values)) ≤ length buffer → PutSoFar buffer start options values new place part.number behind left
put_more buffer start options values into at previous rest others part behind value left new place so is value_is left_is place_is new_is room =
    let are : AreParts previous (part ∷ behind) = subst (λ (y : List OptionPart). AreParts previous y) is so.are in
    let total : part.length + sum_by (λ part. part.length) behind ≡ length others = sym (sum_by-cons (λ part. part.length) part behind) ∙ sym (ap (λ (y : List OptionPart). sum_by (λ part. part.length) y) is) ∙ so.sum in
    let row : CoapOption = record { number = part.number; value = value } in
    let written = option_bytes previous row in
    let after = options_bytes part.number (options_of behind left) in
    let next : options_bytes previous (options_of rest others) ≡ written ++ after
    = ap (λ (y : List OptionPart). options_bytes previous (options_of y others)) is
    ∙ ap (λ (y : List ℕ). option_bytes previous (record { number = part.number; value = y }) ++ options_bytes part.number (options_of behind (drop part.length others))) (sym value_is)
    ∙ ap (λ (y : List ℕ). written ++ options_bytes part.number (options_of behind y)) (sym left_is) in
    let parts : options_bytes 0 (options_of options values) ≡ (so.bytes ++ written) ++ after = so.parts ∙ ap (λ (y : List ℕ). so.bytes ++ y) next ∙ sym (append_assoc so.bytes written after) in
    let size : length (options_bytes 0 (options_of options values)) ≡ length (so.bytes ++ written) + length after = ap (λ (y : List ℕ). length y) parts ∙ length-append (so.bytes ++ written) after in
    record {
      bytes = so.bytes ++ written;
      parts = parts;
      place = place_then start so.bytes written at place so.place place_is;
      written = put_then start so.bytes written buffer into new at so.written so.place new_is (omega (arith, size, room));
      are = are.2;
      sum = omega (arith, total, ap (λ (y : List ℕ). length y) left_is, length-drop part.length others);
    }

pub options_size_is : (previous : ℕ) (parts : List OptionPart) (values : List ℕ) → sum_by (λ part. part.length) parts ≡ length values → length (options_bytes previous (options_of parts values)) ≡ options_size previous parts
options_size_is previous [] values sum = refl
options_size_is previous (part ∷ parts) values sum =
    let total : part.length + sum_by (λ part. part.length) parts ≡ length values = sym (sum_by-cons (λ part. part.length) part parts) ∙ sum in
    let value = take part.length values in
    let size : length value ≡ part.length = length-take-le part.length values (omega (arith, total)) in
    let others = options_size_is part.number parts (drop part.length values) (omega (arith, total, length-drop part.length values)) in
    let delta = part.number - previous in
    let whole = length-append (option_bytes previous (record { number = part.number; value = value })) (options_bytes part.number (options_of parts (drop part.length values))) in
    let two = length-append (extension delta ++ extension (length value)) value in
    let one = length-append (extension delta) (extension (length value)) in
    let same : length (extension (length value)) ≡ length (extension part.length) = ap (λ (n : ℕ). length (extension n)) size in
    omega (arith, whole, two, one, same, size, others)

pub spelling_size : (parts : Parts) → sum_by (λ part. part.length) parts.options.now ≡ length parts.values.now
    → length (spelling (message_of parts)) ≡ 4 + length parts.token.now + length (payload_bytes parts.payload.now) + options_size 0 parts.options.now
spelling_size parts sum =
    let options = options_bytes 0 (options_of parts.options.now parts.values.now) in
    let size = options_size_is 0 parts.options.now parts.values.now sum in
    let front = header parts.kind parts.code parts.id parts.token.now in
    omega (arith, length-append (front ++ options) (payload_bytes parts.payload.now), length-append front options, size)
