-- A text writes one address at most, and the canonical text of an address writes it.
use Rattle.std.proofs.Common.{◌≡◌, ℕ, zero, suc, ◌+◌, ◌*◌, ◌/◌, ◌%◌, ◌^◌, ◌<◌, List, [], ◌∷◌, length, get_or, refl, sym, ap, ◌∙◌, arith}
use Rattle.std.specs.Int.{w32, w128, to_be_bytes, from_be_bytes, bytes_high_first, byte_at}
use Rattle.std.specs.Net.Addr.{octets_of, segments_of, ipv4_octets, ipv6_segments}
use Rattle.std.proofs.Math.Nat.{div-div-eq-div-mul}
use Rattle.std.specs.declared.net.ipv4_addr.Ipv4Addr.{Ipv4Addr}
use Rattle.std.specs.declared.net.ipv6_addr.Ipv6Addr.{Ipv6Addr}
use Rattle.std.specs.Net.Grammar.{IsIpv4Text, IsIpv6Text}
use Rattle.std.proofs.lemmas.Nat.{from_be_bytes-to_be_bytes_4}
use Rattle.std.proofs.NetLemmas.Ipv6.{IsDotted-not_colon_hex}
use Rattle.std.proofs.NetLemmas.Texts.{AllSegments, IsDotted-ipv4_text, IsColonHex-hex_groups_text}
use Rattle.std.proofs.NetLemmas.Theorems.{IsIpv4Text_unique, IsIpv6Text_unique}
use Rattle.ip_scope.specs.declared.family.Family.{Family}
use Rattle.ip_scope.specs.declared.family.Family.TheVariants.{V4, V6}
use Rattle.ip_scope.specs.Family.{width}
use Rattle.ip_scope.specs.PrefixText.{v4_number, v6_number, v4_octets, v6_groups, IsAddressText, address_text}

-- ---- one address to a text

pub IsAddressText_unique : (text : List ℕ) (f g : Family) (m n : ℕ) → IsAddressText text f m → IsAddressText text g n → (f ≡ g) × (m ≡ n)
IsAddressText_unique text V4 V4 m n h k =
    let same = IsIpv4Text_unique text (record { octets = h.0 }) (record { octets = k.0 }) h.1 k.1 in
    (refl, h.2 ∙ ap (λ a. v4_number (ipv4_octets a)) same ∙ sym k.2)
IsAddressText_unique text V4 V6 m n h k = absurd (IsDotted-not_colon_hex text _ _ h.1 k.1)
IsAddressText_unique text V6 V4 m n h k = absurd (IsDotted-not_colon_hex text _ _ k.1 h.1)
IsAddressText_unique text V6 V6 m n h k =
    let same = IsIpv6Text_unique text (record { segments = h.0 }) (record { segments = k.0 }) h.1 k.1 in
    (refl, h.2 ∙ ap (λ a. v6_number (ipv6_segments a)) same ∙ sym k.2)

-- ---- bytes

AllBytes : List ℕ → Type 0
AllBytes bytes = (i : ℕ) → get_or bytes i 0 < 256

byte_at-lt : (k n : ℕ) → byte_at k n < 256
byte_at-lt zero n = omega arith
byte_at-lt (suc k) n = omega arith

pub fits-bytes : (k n i : ℕ) → get_or (bytes_high_first k n) i 0 < 256
fits-bytes zero n i = omega arith
fits-bytes (suc k) n i = elim i as (λ j. get_or (byte_at k n ∷ bytes_high_first k n) j 0 < 256) [ zero ↦ byte_at-lt k n | suc j ↦ fits-bytes k n j ]

octets_of-segments_of : (bytes : List ℕ) → ((i : ℕ) → get_or bytes i 0 < 256) → length bytes % 2 ≡ 0 → octets_of (segments_of bytes) ≡ bytes
octets_of-segments_of [] fits even = refl
octets_of-segments_of (a ∷ []) fits even = absurd (omega arith)
octets_of-segments_of (a ∷ b ∷ bytes) fits even =
    let first : (a * 256 + b) / 256 ≡ a = omega (arith, fits 1) in
    let second : (a * 256 + b) % 256 ≡ b = omega (arith, fits 1) in
    let later = octets_of-segments_of bytes (λ i. fits (suc (suc i))) (omega arith) in
    rw (first, second, later)

pub AllSegments-segments_of : (bytes : List ℕ) → ((i : ℕ) → get_or bytes i 0 < 256) → AllSegments (segments_of bytes)
AllSegments-segments_of [] fits k = omega arith
AllSegments-segments_of (a ∷ []) fits k = omega arith
AllSegments-segments_of (a ∷ b ∷ bytes) fits k =
    let first : a * 256 + b < 2 ^ 16 = omega (arith, fits 0, fits 1) in
    let later = AllSegments-segments_of bytes (λ i. fits (suc (suc i))) in
    elim k as (λ j. get_or ((a * 256 + b) ∷ segments_of bytes) j 0 < 2 ^ 16) [ zero ↦ first | suc j ↦ later j ]

-- ---- sixteen bytes to a number and back

byte_and_rest : (n p : ℕ) → n / p ≡ n / p % 256 + n / (p * 256) * 256
byte_and_rest n p = omega (arith, div-div-eq-div-mul n p 256)

joined_16 : (d0 d1 d2 d3 d4 d5 d6 d7 d8 d9 d10 d11 d12 d13 d14 d15 n p1 p2 p3 p4 p5 p6 p7 p8 p9 p10 p11 p12 p13 p14 p15 : ℕ)
    → n ≡ d0 + p1 * 256 → p1 ≡ d1 + p2 * 256 → p2 ≡ d2 + p3 * 256 → p3 ≡ d3 + p4 * 256 → p4 ≡ d4 + p5 * 256 → p5 ≡ d5 + p6 * 256 → p6 ≡ d6 + p7 * 256 → p7 ≡ d7 + p8 * 256 → p8 ≡ d8 + p9 * 256 → p9 ≡ d9 + p10 * 256 → p10 ≡ d10 + p11 * 256 → p11 ≡ d11 + p12 * 256 → p12 ≡ d12 + p13 * 256 → p13 ≡ d13 + p14 * 256 → p14 ≡ d14 + p15 * 256 → p15 ≡ d15
    → d15 * 1329227995784915872903807060280344576 + d14 * 5192296858534827628530496329220096 + d13 * 20282409603651670423947251286016 + d12 * 79228162514264337593543950336 + d11 * 309485009821345068724781056 + d10 * 1208925819614629174706176 + d9 * 4722366482869645213696 + d8 * 18446744073709551616 + d7 * 72057594037927936 + d6 * 281474976710656 + d5 * 1099511627776 + d4 * 4294967296 + d3 * 16777216 + d2 * 65536 + d1 * 256 + d0 ≡ n
joined_16 d0 d1 d2 d3 d4 d5 d6 d7 d8 d9 d10 d11 d12 d13 d14 d15 n p1 p2 p3 p4 p5 p6 p7 p8 p9 p10 p11 p12 p13 p14 p15 at0 at1 at2 at3 at4 at5 at6 at7 at8 at9 at10 at11 at12 at13 at14 at15 = omega arith

from_be_bytes-to_be_bytes_16 : (n : ℕ) → n < 2 ^ 128 → from_be_bytes w128 (to_be_bytes w128 n) ≡ n
from_be_bytes-to_be_bytes_16 n fits =
    let low : n ≡ n % 256 + n / 256 * 256 = omega arith in
    let high : n / 1329227995784915872903807060280344576 ≡ n / 1329227995784915872903807060280344576 % 256 = omega arith in
    joined_16 _ _ _ _ _ _ _ _ _ _ _ _ _ _ _ _ n _ _ _ _ _ _ _ _ _ _ _ _ _ _ _ low (byte_and_rest n 256) (byte_and_rest n 65536) (byte_and_rest n 16777216) (byte_and_rest n 4294967296) (byte_and_rest n 1099511627776) (byte_and_rest n 281474976710656) (byte_and_rest n 72057594037927936) (byte_and_rest n 18446744073709551616) (byte_and_rest n 4722366482869645213696) (byte_and_rest n 1208925819614629174706176) (byte_and_rest n 309485009821345068724781056) (byte_and_rest n 79228162514264337593543950336) (byte_and_rest n 20282409603651670423947251286016) (byte_and_rest n 5192296858534827628530496329220096) high

-- ---- the canonical text

pub IsAddressText-address_text : (family : Family) (number : ℕ) → number < 2 ^ width family → IsAddressText (address_text family number) family number
unfolding address_text v4_number v6_number v4_octets v6_groups
IsAddressText-address_text V4 number fits =
    (to_be_bytes w32 number, IsDotted-ipv4_text (to_be_bytes w32 number) refl (fits-bytes 4 number), sym (from_be_bytes-to_be_bytes_4 number fits))
IsAddressText-address_text V6 number fits =
    let bytes = to_be_bytes w128 number in (
      segments_of bytes,
      IsColonHex-hex_groups_text (segments_of bytes) refl (AllSegments-segments_of bytes (fits-bytes 16 number)),
      sym (ap (from_be_bytes w128) (octets_of-segments_of bytes (fits-bytes 16 number) refl) ∙ from_be_bytes-to_be_bytes_16 number fits),
    )

-- what is no IPv4 text and no IPv6 text is no address
pub no_address : (text : List ℕ) → ((a : Ipv4Addr) → ¬ (IsIpv4Text text a)) → ((a : Ipv6Addr) → ¬ (IsIpv6Text text a))
    → (family : Family) (number : ℕ) → ¬ (IsAddressText text family number)
no_address text no_v4 no_v6 V4 number is = no_v4 (record { octets = is.0 }) is.1
no_address text no_v4 no_v6 V6 number is = no_v6 (record { segments = is.0 }) is.1
