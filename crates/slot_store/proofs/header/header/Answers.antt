use Rattle.std.proofs.Common.{arith, ◌∙◌, ap, refl, ℕ, ◌≤◌, ◌∷◌, [], length, replicate}
use Rattle.std.specs.Int.{w32, to_be_bytes}
use Rattle.std.proofs.lemmas.List.{get_or_past}
use Rattle.dots_host.specs.Media.{byte_of, overwritten}
use Rattle.dots_host.proofs.WrittenLemmas.{overwritten_below, overwritten_byte}
use Rattle.slot_store.specs.Formats.{format_byte}
use Rattle.slot_store.specs.Layout.{header_of}
use Rattle.slot_store.proofs.HeaderLemmas.{parts, with_formats, zeros}
use Rattle.slot_store.proofs.header.header.Goals as goal

pub returns : goal.returns
returns c =
    let size : length c.args.digest.now ≤ 32 = omega arith in
    let front = λ (place : ℕ). parts (replicate 64 0) (165 ∷ 68 ∷ 79 ∷ 84 ∷ 83 ∷ 74 ∷ 78 ∷ 76 ∷ 1 ∷ 0 ∷ 0 ∷ 0 ∷ []) (to_be_bytes w32 c.args.slots) c.args.digest.now (byte_of c.put.new.header) (byte_of c.put-2.new.header) (byte_of c.put-3.new.header) (zeros 64) c.put.ensures
    (c.put-2.ensures ∙ ap (overwritten (byte_of c.put.new.header) 12) c.to_be_bytes.ensures) c.put-3.ensures refl refl place in
    let says = ap (λ (byte : ℕ). overwritten (byte_of c.put-3.new.header) 49 (byte ∷ byte ∷ [])) c.format_byte.ensures in
    record {
      bytes = λ place outside. ap (λ (bytes : ℕ → ℕ). bytes place) c.put-4.ensures ∙ with_formats (byte_of c.put-3.new.header) (header_of c.args.slots c.args.digest.now) c.format_byte.result place front outside;
      selector = ap (λ (bytes : ℕ → ℕ). bytes 48) c.put-4.ensures ∙ overwritten_below (byte_of c.put-3.new.header) 49 (c.format_byte.result ∷ c.format_byte.result ∷ []) 48 (omega arith) ∙ front 48 ∙ get_or_past c.args.digest.now 32 0 size;
      formats = (
        ap (λ (bytes : ℕ → ℕ). bytes 49) (c.put-4.ensures ∙ says) ∙ overwritten_byte (byte_of c.put-3.new.header) 49 (format_byte c.args.format ∷ format_byte c.args.format ∷ []) 0 (omega arith),
        ap (λ (bytes : ℕ → ℕ). bytes 50) (c.put-4.ensures ∙ says) ∙ overwritten_byte (byte_of c.put-3.new.header) 49 (format_byte c.args.format ∷ format_byte c.args.format ∷ []) 1 (omega arith),
      );
    }
