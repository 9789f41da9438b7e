-- The canonical text of a prefix is ASCII.
use Rattle.std.proofs.Common.{ℕ, zero, suc, ◌<◌, List, ◌++◌, codes, All, decimal, get_or, arith, inl, inr}
use Rattle.std.specs.Int.{w32, w128, to_be_bytes}
use Rattle.std.specs.Net.Addr.{segments_of}
use Rattle.std.specs.Prelude.{IsUtf8, slice_index}
use Rattle.std.specs.Str.{IsAscii}
use Rattle.std.proofs.lemmas.Fmt.{IsAscii-decimal}
use Rattle.std.proofs.lemmas.List.Elements.{All-get_or, All-from_get_or}
use Rattle.std.proofs.lemmas.Str.Ascii.{IsAscii-from_all}
use Rattle.std.proofs.lemmas.Str.{IsAscii-append, IsUtf8-from_ascii}
use Rattle.std.proofs.NetLemmas.Alphabet.{IsDigitOrDot, IsHexOrColon, All-ipv4_text, All-hex_groups_text}
use Rattle.ip_scope.specs.declared.family.Family.{Family}
use Rattle.ip_scope.specs.declared.family.Family.TheVariants.{V4, V6}
use Rattle.ip_scope.specs.Prefix.{PrefixValue, IsPrefix}
use Rattle.ip_scope.specs.PrefixText.{address_text, prefix_text, v4_octets, v6_groups}
use Rattle.ip_scope.proofs.AddressTexts.{fits-bytes, AllSegments-segments_of}
use Rattle.ip_scope.proofs.PrefixReading.{width_small}

dotted_is_ascii : (bytes : List ℕ) → All IsDigitOrDot bytes → IsAscii bytes
dotted_is_ascii bytes all = IsAscii-from_all bytes (All-from_get_or (λ byte. byte < 128) bytes 0 (λ i within. small (get_or bytes i 0) (All-get_or IsDigitOrDot bytes i 0 within all)))
  where
    small : (byte : ℕ) → IsDigitOrDot byte → byte < 128
    small byte is = elim is [ inl digit ↦ omega (arith, digit.1) | inr dot ↦ omega arith ]

hex_is_ascii : (bytes : List ℕ) → All IsHexOrColon bytes → IsAscii bytes
hex_is_ascii bytes all = IsAscii-from_all bytes (All-from_get_or (λ byte. byte < 128) bytes 0 (λ i within. small (get_or bytes i 0) (All-get_or IsHexOrColon bytes i 0 within all)))
  where
    small : (byte : ℕ) → IsHexOrColon byte → byte < 128
    small byte is = elim is [ inl digit ↦ omega (arith, digit.1) | inr letter ↦ omega (arith, letter.1) ]

pub address_text_is_ascii : (family : Family) (number : ℕ) → IsAscii (address_text family number)
unfolding address_text v4_octets v6_groups
address_text_is_ascii V4 number = dotted_is_ascii _ (All-ipv4_text (to_be_bytes w32 number) (fits-bytes 4 number))
address_text_is_ascii V6 number = hex_is_ascii _ (All-hex_groups_text (segments_of (to_be_bytes w128 number)) (AllSegments-segments_of (to_be_bytes w128 number) (fits-bytes 16 number)))

slash_is_ascii : IsAscii (codes "/")
slash_is_ascii i = elim i as (λ j. slice_index (codes "/") j < 128) [ zero ↦ omega arith | suc j ↦ omega arith ]

pub prefix_text_is_ascii : (p : PrefixValue) → IsPrefix p → IsAscii (prefix_text p)
prefix_text_is_ascii p is =
    let front = IsAscii-append (address_text p.family p.number) (codes "/") (address_text_is_ascii p.family p.number) slash_is_ascii in
    let small = width_small p.family in
    IsAscii-append (address_text p.family p.number ++ codes "/") (decimal p.length) front (IsAscii-decimal p.length (omega (arith, is.length)))

pub prefix_text_is_utf8 : (p : PrefixValue) → IsPrefix p → IsUtf8 (prefix_text p)
prefix_text_is_utf8 p is = IsUtf8-from_ascii (prefix_text p) (prefix_text_is_ascii p is)
