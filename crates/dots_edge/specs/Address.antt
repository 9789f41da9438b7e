-- The key of an address as a socket has it: that of an IPv4 address is the IPv6 address that is mapped to it (RFC 4291, section 2.5.5.2).
use Rattle.std.specs.Prelude.{◌≡◌, ℕ, ◌+◌}
use Rattle.std.specs.Net.Addr.{ipv4_bits, ipv6_bits, IsIpv4OfBits, IsIpv6OfBits}
use Rattle.std.specs.declared.net.ip_addr.IpAddr.{IpAddr}
use Rattle.std.specs.declared.net.ip_addr.IpAddr.TheVariants as ip
use Rattle.ip_scope.specs.declared.address.Addr.{Addr}
use Rattle.ip_scope.specs.declared.family.Family.TheVariants as family

abbrev pub key_of_ip : IpAddr → ℕ
key_of_ip (ip.V4 address) = 0xffff00000000 + ipv4_bits address
key_of_ip (ip.V6 address) = ipv6_bits address

-- the socket's address is this one, in its own family
abbrev pub IsIpOf : IpAddr → Addr → Type 0
IsIpOf (ip.V4 found) address = (address.family ≡ family.V4) × IsIpv4OfBits found address.number
IsIpOf (ip.V6 found) address = (address.family ≡ family.V6) × IsIpv6OfBits found address.number
