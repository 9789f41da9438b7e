-- Notifications that are cut.
use Rattle.std.proofs.Common.{inl, inr, ◌≡◌, ℕ, ◌<◌, ◌≤◌, true, List, length, drop, Some, ap, arith}
use Rattle.std.proofs.lemmas.Bool.{cases_Bool, ltb-true, eqb-true, and_parts}
use Rattle.std.proofs.lemmas.List.{length-take}
use Rattle.coap_message.specs.Message.{CoapMessage, IsMessage, spelling}
use Rattle.coap_message.proofs.Whole.{one_message}
use Rattle.coap_block.specs.declared.observed.ObservedRequest.{ObservedRequest}
use Rattle.coap_block.specs.Option.{IsBlock}
use Rattle.coap_block.specs.Blocks.{is_long_notice, noticed_in, first_block, cut_to, part_of}
use Rattle.coap_block.proofs.Values.{cut_message}

noticed_long : (observed : List ObservedRequest) (peer : ℕ) (m : CoapMessage) (one : ObservedRequest) → noticed_in observed peer m ≡ Some one → is_long_notice m ≡ true
noticed_long observed peer m one is = elim (cases_Bool (is_long_notice m)) [
  | inl long ↦ long
  | inr other ↦ absurd (cc (rw other at is))
]

long_payload : (m : CoapMessage) → is_long_notice m ≡ true → 1024 < length m.payload
long_payload m long = ltb-true 1024 (length m.payload) (and_parts _ _ (and_parts _ _ long).1).0

pub short_notice : (observed : List ObservedRequest) (peer : ℕ) (m : CoapMessage) (one : ObservedRequest) → noticed_in observed peer m ≡ Some one → length m.payload ≤ 1024 → ⊥
short_notice observed peer m one is short = omega (arith, long_payload m (noticed_long observed peer m one is), short)

first_is : IsBlock first_block
first_is = record { number = omega arith; exponent = omega arith }

part_short : (body : List ℕ) → length (part_of body first_block) ≤ 1024
part_short body = omega (arith, length-take 1024 (drop 0 body))

-- what is cut isn't the whole
pub never_whole : (observed : List ObservedRequest) (peer : ℕ) (m : CoapMessage) (one : ObservedRequest) → noticed_in observed peer m ≡ Some one → IsMessage m → spelling m ≡ spelling (cut_to m first_block m.payload) → ⊥
never_whole observed peer m one is message same =
    let long = noticed_long observed peer m one is in
    let code = eqb-true m.code 69 (and_parts _ _ long).0 in
    let cut = one_message m (cut_to m first_block m.payload) message (cut_message m first_block m.payload message first_is code) same in
    omega (arith, long_payload m long, part_short m.payload, ap (λ n. length n.payload) cut)
