-- The test of options and a payload finds exactly those that are spelled so.
use Rattle.std.proofs.Common.{◌≡◌, ℕ, zero, suc, true, List, [], ◌∷◌, ◌++◌, length, drop, Option, Some, None, false, refl, sym, ap, ◌∙◌, append_assoc, inl, inr}
use Rattle.std.specs.Prelude.{◌⊎◌}
use Rattle.std.proofs.lemmas.Bool.{eqb-true, cases_Bool}
use Rattle.std.proofs.lemmas.List.{drop_at}
use Rattle.coap_message.specs.declared.fault.CoapFault.{CoapFault}
use Rattle.coap_message.specs.Breaks.{OptionsBreak}
use Rattle.coap_message.specs.Message.{last_number, CoapOption, AreOptions, option_bytes, options_bytes, payload_bytes}
use Rattle.coap_message.specs.MessageReading.{option_at, options_within, options_in, Splits}
use Rattle.coap_message.proofs.Steps.{IsBytes}
use Rattle.coap_message.proofs.OneOption.{option_takes, option_again}
use Rattle.coap_message.proofs.OptionList.{options_none, options_step, payload_none}
use Rattle.coap_message.proofs.Faults.{breaks_no_split}
use Rattle.coap_tcp.specs.Frames.{IsRest}
use Rattle.coap_tcp.specs.FrameReading.{is_ending, is_rest}

options_before : (previous : ℕ) (os : List CoapOption) (tail : List ℕ) → AreOptions previous os → option_at (last_number previous os) tail ≡ None → options_in previous (options_bytes previous os ++ tail) ≡ os
options_before previous [] tail are stuck = options_none previous tail stuck
options_before previous (o ∷ os) tail are stuck =
    let behind = options_bytes o.number os ++ tail in
    ap (options_in previous) (append_assoc (option_bytes previous o) (options_bytes o.number os) tail)
    ∙ options_step previous (option_bytes previous o ++ behind) o behind (option_again previous o behind are.0 are.1 are.2)
    ∙ ap (λ (rest : List CoapOption). o ∷ rest) (options_before o.number os tail are.3 stuck)

payload_ends : (payload : List ℕ) → is_ending (payload_bytes payload) ≡ true
payload_ends [] = refl
payload_ends (b ∷ bs) = refl

-- what is spelled so is found
pub rest_found : (bytes : List ℕ) (options : List CoapOption) (payload : List ℕ) → Splits bytes options payload → is_rest bytes ≡ true
unfolding is_rest
rest_found bytes options payload split =
    let ending = payload_bytes payload in
    let read : options_in 0 bytes ≡ options = ap (options_in 0) split.parts ∙ options_before 0 options ending split.are (payload_none (last_number 0 options) payload) in
    let left : drop (length (options_bytes 0 options)) bytes ≡ ending = ap (drop (length (options_bytes 0 options))) split.parts ∙ drop_at (options_bytes 0 options) ending (length (options_bytes 0 options)) refl in
    ap (λ (os : List CoapOption). is_ending (drop (length (options_bytes 0 os)) bytes)) read ∙ ap is_ending left ∙ payload_ends payload

-- bytes are some options, and a tail
record Read (previous : ℕ) (os : List CoapOption) (bytes : List ℕ) : Type 0 where
  are : AreOptions previous os
  tail : List ℕ
  parts : bytes ≡ options_bytes previous os ++ tail

option_or_not : (r : Option (CoapOption × List ℕ)) → (r ≡ None) ⊎ ((x : CoapOption × List ℕ) × (r ≡ Some x))
option_or_not None = inl refl
option_or_not (Some x) = inr (x, refl)

options_read : (n previous : ℕ) (bytes : List ℕ) → IsBytes bytes → Read previous (options_within n previous bytes) bytes
unfolding options_within
options_read zero previous bytes fits = record { are = tt; tail = bytes; parts = refl }
options_read (suc n) previous bytes fits =
    elim (option_or_not (option_at previous bytes)) [
      | inl e ↦ rw e (record { are = tt; tail = bytes; parts = refl })
      | inr p ↦
          let o = p.0.0 in
          let behind = p.0.1 in
          let one = option_takes previous bytes o behind fits p.1 in
          let later = options_read n o.number behind one.rest_fits in
          rw (p.1) (record {
            are = (one.rises, one.number, one.size, later.are);
            tail = later.tail;
            parts = one.parts ∙ ap (λ (y : List ℕ). option_bytes previous o ++ y) later.parts ∙ sym (append_assoc (option_bytes previous o) (options_bytes o.number (options_within n o.number behind)) later.tail);
          })
    ]

ending_payload : (tail : List ℕ) → is_ending tail ≡ true → (payload : List ℕ) × (tail ≡ payload_bytes payload)
ending_payload [] e = ([], refl)
ending_payload (b ∷ []) e = absurd cc
ending_payload (b ∷ c ∷ bytes) e = (c ∷ bytes, ap (λ (k : ℕ). k ∷ c ∷ bytes) (eqb-true b 255 e))

-- what is found is spelled so
pub found_rest : (bytes : List ℕ) → IsBytes bytes → is_rest bytes ≡ true → IsRest bytes
unfolding is_rest options_in
found_rest bytes fits e =
    let os = options_within (length bytes) 0 bytes in
    let read = options_read (length bytes) 0 bytes fits in
    let left : drop (length (options_bytes 0 os)) bytes ≡ read.tail = ap (drop (length (options_bytes 0 os))) read.parts ∙ drop_at (options_bytes 0 os) read.tail (length (options_bytes 0 os)) refl in
    let p = ending_payload read.tail (sym (ap is_ending left) ∙ e) in
    (os, p.0, record { are = read.are; parts = read.parts ∙ ap (λ (y : List ℕ). options_bytes 0 os ++ y) p.1 })

-- what has a fault isn't found
pub rest_broken : (bytes : List ℕ) (fault : CoapFault) → IsBytes bytes → OptionsBreak (length bytes) bytes fault → is_rest bytes ≡ false
rest_broken bytes fault fits breaks =
    elim (cases_Bool (is_rest bytes)) [
      | inl is ↦ let found = found_rest bytes fits is in absurd (breaks_no_split (length bytes) bytes fault found.0 found.1 breaks found.2)
      | inr none ↦ none
    ]
