-- The prefix that a text writes, if it writes one.
use Rattle.std.specs.Prelude.{ℕ, ◌%◌, ◌^◌, ◌&&◌, ◌==◌, nat_le, if◌then◌else◌, List, [], ◌∷◌, Option, Some, None, option_and_then, decimal, bytes_eq}
use Rattle.std.specs.Net.Reader.{read_ipv4, read_ipv6, whole_value}
use Rattle.std.specs.Option.{option_map}
use Rattle.std.specs.Str.Parse.{digits_value}
use Rattle.std.proofs.Math.Nat.{mod-lt}
use Rattle.std.proofs.lemmas.Nat.{pow_pos}
use Rattle.ip_scope.specs.declared.address.Addr.{Addr}
use Rattle.ip_scope.specs.declared.family.Family.{Family}
use Rattle.ip_scope.specs.declared.family.Family.TheVariants.{V4, V6}
use Rattle.ip_scope.specs.Family.{width}
use Rattle.ip_scope.specs.Prefix.{PrefixValue, prefix_of}
use Rattle.ip_scope.specs.PrefixText.{v4_number, v6_number}

-- what stands before the last slash, and after it
abbrev pub split_before : ℕ → List ℕ → Option (List ℕ × List ℕ) → Option (List ℕ × List ℕ)
split_before byte bytes (Some parts) = Some (byte ∷ parts.0, parts.1)
split_before byte bytes None = if byte == 47 then Some ([], bytes) else None

abbrev pub split_last : List ℕ → Option (List ℕ × List ℕ)
split_last [] = None
split_last (byte ∷ bytes) = split_before byte bytes (split_last bytes)

-- the address that a text writes, by what it is as an IPv4 and as an IPv6 address
abbrev pub address_of : Option (List ℕ) → Option (List ℕ) → Option (Family × ℕ)
address_of (Some octets) groups = Some (V4, v4_number octets)
address_of None (Some groups) = Some (V6, v6_number groups)
address_of None None = None

unfoldable pub address_in : List ℕ → Option (Family × ℕ)
address_in text = address_of (whole_value (read_ipv4 text)) (whole_value (read_ipv6 text))

-- The same as an address, whose number is below 2^32 or 2^128. That of a text is, so the remainder is the number itself.
abbrev pub addr_of : Family × ℕ → Addr
addr_of address = record {
  family = address.0;
  number = address.1 % 2 ^ width address.0;
  fits = mod-lt address.1 (pow_pos (width address.0));
}

abbrev pub addr_in : List ℕ → Option Addr
addr_in text = option_map addr_of (address_in text)

-- the prefix of an address, where the text is the decimal of a length that it may have
abbrev pub with_length : List ℕ → Family × ℕ → Option PrefixValue
with_length text address =
    if bytes_eq (decimal (digits_value 10 text)) text && nat_le (digits_value 10 text) (width address.0)
    then Some (prefix_of address.0 address.1 (digits_value 10 text)) else None

abbrev pub prefix_with : Option (List ℕ × List ℕ) → Option PrefixValue
prefix_with None = None
prefix_with (Some parts) = option_and_then (with_length parts.1) (address_in parts.0)

unfoldable pub prefix_in : List ℕ → Option PrefixValue
prefix_in text = prefix_with (split_last text)
