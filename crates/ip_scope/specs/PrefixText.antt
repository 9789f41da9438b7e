-- The text of a prefix (RFC 4291, sections 2.2 and 2.3; RFC 5952, section 4; RFC 6991, section 4).
use Rattle.std.specs.Prelude.{◌≡◌, ℕ, ◌<◌, ◌≤◌, List, ◌++◌, codes, decimal, Result, Ok, Err, nat_le, if◌then◌else◌}
use Rattle.std.specs.Int.{w32, w128, to_be_bytes, from_be_bytes}
use Rattle.std.specs.Net.Addr.{octets_of, segments_of}
use Rattle.std.specs.Net.Grammar.{IsDotted, IsColonHex}
use Rattle.std.specs.Net.Text.{ipv4_text, hex_groups_text}
use Rattle.ip_scope.specs.declared.family.Family.{Family}
use Rattle.ip_scope.specs.declared.family.Family.TheVariants.{V4, V6}
use Rattle.ip_scope.specs.declared.bad_prefix.BadPrefix.{BadPrefix}
use Rattle.ip_scope.specs.declared.bad_prefix.BadPrefix.TheVariants as bad
use Rattle.ip_scope.specs.Family.{width}
use Rattle.ip_scope.specs.Prefix.{PrefixValue, prefix_of}

-- the number of four octets, or of eight groups of 16 bits, in network byte order
unfoldable pub v4_number : List ℕ → ℕ
v4_number octets = from_be_bytes w32 octets

unfoldable pub v6_number : List ℕ → ℕ
v6_number groups = from_be_bytes w128 (octets_of groups)

-- and the octets or groups of a number
unfoldable pub v4_octets : ℕ → List ℕ
v4_octets number = to_be_bytes w32 number

unfoldable pub v6_groups : ℕ → List ℕ
v6_groups number = segments_of (to_be_bytes w128 number)

-- The text writes the address of this number. For IPv4 it is four decimal numbers below 256, with no leading
-- zeros, and dots between them. For IPv6 it is eight groups of one to four hexadecimal digits of either case with
-- colons between them, where `::` may stand for one zero group or more, and an IPv4 address for the last two.
abbrev pub IsAddressText : List ℕ → Family → ℕ → Type 0
IsAddressText text V4 number = (octets : List ℕ) × IsDotted text octets × (number ≡ v4_number octets)
IsAddressText text V6 number = (groups : List ℕ) × IsColonHex text groups × (number ≡ v6_number groups)

-- the text is an address, a slash, and a length of one to three digits with no leading zero
pub record IsPrefixText (text : List ℕ) (family : Family) (number length : ℕ) : Type 0 where
  pub address : List ℕ
  pub spelled : text ≡ address ++ codes "/" ++ decimal length
  pub is_address : IsAddressText address family number
  pub three_digits : length < 1000

-- the text is one of the prefix p, whose host bits are zero whatever those of the address are
pub record Reads (text : List ℕ) (p : PrefixValue) : Type 0 where
  pub number : ℕ
  pub spelled : IsPrefixText text p.family number p.length
  pub within : p.length ≤ width p.family
  pub cleared : p ≡ prefix_of p.family number p.length

-- the text is of the form, but its length is above the width
pub record IsTooLong (text : List ℕ) : Type 0 where
  pub family : Family
  pub number : ℕ
  pub length : ℕ
  pub spelled : IsPrefixText text family number length
  pub above : width family < length

-- what an address and a length are as a prefix
abbrev pub reading_of : Family → ℕ → ℕ → Result PrefixValue BadPrefix
reading_of family number length =
    if nat_le length (width family) then Ok (prefix_of family number length) else Err bad.Length

-- the address in its canonical text: dotted decimal, or lower-case groups with no leading zeros and `::` in place of
-- the first of the longest runs of two or more zero groups
unfoldable pub address_text : Family → ℕ → List ℕ
address_text V4 number = ipv4_text (v4_octets number)
address_text V6 number = hex_groups_text (v6_groups number)

-- the canonical text
abbrev pub prefix_text : PrefixValue → List ℕ
prefix_text p = address_text p.family p.number ++ codes "/" ++ decimal p.length
