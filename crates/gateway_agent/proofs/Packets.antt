-- Which datagrams are requests, and under which number.
use Rattle.std.proofs.Common.{◌≡◌, ℕ, ◌/◌, ◌<◌, Bool, true, false, List, ◌++◌, take, drop, get_or, sym, ap, ◌∙◌}
use Rattle.std.specs.Prelude.{◌^◌, ◌==◌, ◌&&◌, not}
use Rattle.std.specs.Int.{w64, to_be_bytes, from_be_bytes}
use Rattle.std.proofs.lemmas.Bool.{and_parts, and_from}
use Rattle.std.proofs.lemmas.Nat.{from_be_bytes-to_be_bytes_8}
use Rattle.coap_message.specs.Message.{CoapMessage, header, options_bytes, payload_bytes, spelling}
use Rattle.dots_keys.specs.Exchanges.{is_request, may_ask}
use Rattle.gateway_agent.specs.Sent.{IsPacket}

-- ---- what a datagram shows of its message

-- it has the bytes of this number as its token
pub record IsNumbered (number : ℕ) (bytes : List ℕ) : Type 0 where
  pub m : CoapMessage
  pub spelled : bytes ≡ spelling m
  pub token : m.token ≡ to_be_bytes w64 number

token_of : (m : CoapMessage) (number : ℕ) → m.token ≡ to_be_bytes w64 number → take 8 (drop 4 (spelling m)) ≡ to_be_bytes w64 number
token_of m number is = ap (λ (token : List ℕ). take 8 (drop 4 (header m.kind m.code m.identifier token ++ options_bytes 0 m.options ++ payload_bytes m.payload))) is

one_token : (a b : ℕ) → a < 2 ^ 64 → b < 2 ^ 64 → to_be_bytes w64 a ≡ to_be_bytes w64 b → a ≡ b
one_token a b small fits same = sym (from_be_bytes-to_be_bytes_8 a small) ∙ ap (from_be_bytes w64) same ∙ from_be_bytes-to_be_bytes_8 b fits

-- so it is a packet under no other number
pub one_number : (number other : ℕ) (bytes : List ℕ) → number < 2 ^ 64 → IsNumbered number bytes → IsPacket other bytes → number ≡ other
one_number number other bytes small is packet =
    one_token number other small packet.3
    (sym (token_of is.m number is.token) ∙ ap (λ (l : List ℕ). take 8 (drop 4 l)) (sym is.spelled ∙ packet.1) ∙ token_of packet.0 other packet.4)

-- ---- what is no request

-- a code of the class 0 that isn't that of an empty message
abbrev pub may_be_asked : ℕ → Bool
may_be_asked code = not (code == 0) && code / 32 == 0

pub asked_code : (m : CoapMessage) → is_request m ≡ true → may_be_asked m.code ≡ true
asked_code m is =
    let outer = and_parts (may_ask m.kind && not (m.code == 0)) (m.code / 32 == 0) is in
    let inner = and_parts (may_ask m.kind) (not (m.code == 0)) outer.0 in
    and_from (not (m.code == 0)) (m.code / 32 == 0) inner.1 outer.1

-- a datagram that is a packet under no number
abbrev pub IsNone : List ℕ → Type 0
IsNone bytes = (number : ℕ) → IsPacket number bytes → ⊥

not_both : {b : Bool} → b ≡ true → b ≡ false → ⊥
not_both is other = absurd (cc)

pub none_asked : (r : CoapMessage) → may_be_asked r.code ≡ false → IsNone (spelling r)
none_asked r other number packet =
    not_both (asked_code packet.0 packet.2) (sym (ap (λ (l : List ℕ). may_be_asked (get_or l 1 0)) packet.1) ∙ other)
