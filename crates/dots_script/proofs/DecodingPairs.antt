-- Pairs of digits are decoded, whether or not each is a digit.
use Rattle.std.proofs.Common.{◌≡◌, ℕ, ◌+◌, ◌*◌, ◌%◌, ◌<◌, ◌≤◌, nat_lt, ◌⊎◌, inl, inr, List, length, take, drop, slice_index, slice_set, Option, Some, None, unwrap_or, Ok, Err, refl, sym, ap, ◌∙◌, arith, lt-ltb, le-ltb}
use Rattle.std.specs.Prelude.{max, MatchBool}
use Rattle.std.proofs.lemmas.Bool.{cases_lt}
use Rattle.hex.specs.Hex.{decode_pairs, decode_of, digit_or_error, hex_digit_value, pair_value, value_at}
use Rattle.hex.specs.declared.error.FromHexError.{FromHexError}
use Rattle.hex.specs.declared.error.FromHexError.TheVariants.{InvalidHexCharacter}
use Rattle.hex.proofs.Pairs.{prepend, decode_step, decode_err, decode_done, decode_start}
use Rattle.hex.proofs.HexLemmas.{decode_of-even}

-- what a byte counts as: the value of a digit, and 16 of any other
abbrev pub counted_as : ℕ → ℕ
counted_as byte = unwrap_or (hex_digit_value byte) 16

-- a digit's value is below 16
digit_is_small : (byte value : ℕ) → hex_digit_value byte ≡ Some value → value < 16
digit_is_small byte value h = grind (arith)

-- a digit reads
reads : (byte at : ℕ) (o : Option ℕ) → unwrap_or o 16 < 16 → digit_or_error byte at o ≡ Ok (unwrap_or o 16)
reads byte at (Some value) h = refl
reads byte at None h = absurd (omega arith)

-- another byte doesn't
is_refused : (byte at : ℕ) (o : Option ℕ) → ((value : ℕ) → o ≡ Some value → value < 16) → 16 ≤ unwrap_or o 16 → digit_or_error byte at o ≡ Err (InvalidHexCharacter byte at)
is_refused byte at (Some value) small h = let few = small value refl in absurd (omega (arith, few))
is_refused byte at None small h = refl

pair_reads : (high low at : ℕ) → counted_as high < 16 → counted_as low < 16 → pair_value high low at ≡ Ok (counted_as high * 16 + counted_as low)
pair_reads high low at first second =
    let a : value_at high at ≡ Ok (counted_as high) = reads high at (hex_digit_value high) first in
    let b : value_at low (at + 1) ≡ Ok (counted_as low) = reads low (at + 1) (hex_digit_value low) second in
    rw (a, b) refl

pair_is_refused : (high low at : ℕ) → (16 ≤ counted_as high ⊎ 16 ≤ counted_as low) → (fault : FromHexError) × (pair_value high low at ≡ Err fault)
pair_is_refused high low at bad =
    elim (cases_lt (counted_as high) 16) [
      | inl fits ↦
          let a : value_at high at ≡ Ok (counted_as high) = reads high at (hex_digit_value high) fits in
          let large : 16 ≤ counted_as low = elim bad [ inl first ↦ absurd (omega arith) | inr second ↦ second ] in
          let b : value_at low (at + 1) ≡ Err (InvalidHexCharacter low (at + 1)) = is_refused low (at + 1) (hex_digit_value low) (digit_is_small low) large in
          (InvalidHexCharacter low (at + 1), rw (a, b) refl)
      | inr large ↦
          let a : value_at high at ≡ Err (InvalidHexCharacter high at) = is_refused high at (hex_digit_value high) (digit_is_small high) large in
          (InvalidHexCharacter high at, rw a refl)
    ]

-- the pairs before this one are decoded, or one of them had a byte that is no digit
pub record IsDecoded (digits bytes : List ℕ) (at greatest : ℕ) : Type 0 where
  pub reads : greatest < 16 → decode_pairs 0 digits ≡ prepend (take at bytes) (decode_pairs (2 * at) (drop (2 * at) digits))
  pub refuses : 16 ≤ greatest → (other : List ℕ) → decode_pairs 0 digits ≡ Ok other → ⊥

pub nothing_is_decoded : (digits bytes : List ℕ) → IsDecoded digits bytes 0 0
nothing_is_decoded digits bytes = record { reads = λ _. decode_start digits bytes; refuses = λ large. absurd (omega arith) }

pub one_more_is_decoded : (digits bytes : List ℕ) (at greatest byte most : ℕ) → 2 * at + 1 < length digits → at < length bytes
    → byte ≡ counted_as (slice_index digits (2 * at)) % 16 * 16 + counted_as (slice_index digits (2 * at + 1)) % 16
    → most ≡ max (max greatest (counted_as (slice_index digits (2 * at)))) (counted_as (slice_index digits (2 * at + 1)))
    → IsDecoded digits bytes at greatest → IsDecoded digits (slice_set bytes at byte) (at + 1) most
one_more_is_decoded digits bytes at greatest byte most fits room is most_is before =
    let high : ℕ = slice_index digits (2 * at) in
    let low : ℕ = slice_index digits (2 * at + 1) in
    record {
      reads = λ few.
          let first : counted_as high < 16 = omega (arith, few, most_is) in
          let second : counted_as low < 16 = omega (arith, few, most_is) in
          let third : greatest < 16 = omega (arith, few, most_is) in
          let whole : counted_as high * 16 + counted_as low ≡ byte = omega (arith, first, second, is) in
          decode_step digits bytes at byte fits room (pair_reads high low (2 * at) first second ∙ ap Ok whole) (before.reads third);
      refuses = λ large other decoded.
          elim (cases_lt greatest 16) [
            | inl few ↦
                let bad : 16 ≤ counted_as high ⊎ 16 ≤ counted_as low =
                elim (cases_lt (counted_as high) 16) [ inl small ↦ inr (omega (arith, small, few, large, most_is)) | inr more ↦ inl more ] in
                let fault = pair_is_refused high low (2 * at) bad in
                cc (sym decoded ∙ decode_err digits bytes at fault.0 fits fault.1 (before.reads few))
            | inr many ↦ before.refuses many other decoded
          ];
    }

pub all_are_decoded : (digits bytes : List ℕ) (at greatest : ℕ) → length digits ≡ 2 * length bytes → length bytes ≤ at → IsDecoded digits bytes at greatest
    → greatest < 16 → decode_of digits ≡ Ok bytes
all_are_decoded digits bytes at greatest twice all decoded few =
    decode_of-even digits (omega (arith, twice)) ∙ decode_done digits bytes at all (omega (arith, twice, all)) (decoded.reads few)

pub one_is_refused : (digits bytes : List ℕ) (at greatest : ℕ) → length digits ≡ 2 * length bytes → IsDecoded digits bytes at greatest
    → 16 ≤ greatest → (other : List ℕ) → decode_of digits ≡ Ok other → ⊥
one_is_refused digits bytes at greatest twice decoded large other is =
    decoded.refuses large other (sym (decode_of-even digits (omega (arith, twice))) ∙ is)

-- whether all were digits
pub answers_whether : (greatest : ℕ) (P Q : Type 0) → (greatest < 16 → P) → (16 ≤ greatest → Q) → MatchBool (nat_lt greatest 16) P Q
answers_whether greatest P Q all other =
    elim (cases_lt greatest 16) [
      | inl few ↦ rw (lt-ltb greatest 16 few) (all few)
      | inr large ↦ rw (le-ltb greatest 16 large) (other large)
    ]
