use Rattle.std.specs.Net.Addr.{ipv4_bits, ipv6_bits}
use Rattle.ip_scope.specs.PrefixText.{v4_number, v6_number}
use Rattle.ip_scope.proofs.AddressTexts.{no_address}
use Rattle.ip_scope.proofs.PrefixReading.{address_there, no_address_there}
use Rattle.ip_scope.proofs.parse.parse_address.Goals as goal

pub returns-in-Ok-clause-found : goal.returns-in-Ok-clause-found
unfolding v4_number ipv4_bits
returns-in-Ok-clause-found c = (c.in-Ok.address.octets, c.in-Ok.ensures, c.to_bits.ensures)

pub returns-in-Ok-parse_ascii-clause-found : goal.returns-in-Ok-parse_ascii-clause-found
unfolding v6_number ipv6_bits
returns-in-Ok-parse_ascii-clause-found c =
    (c.in-Ok-parse_ascii.address.segments, c.in-Ok-parse_ascii.ensures, c.to_bits-in-Ok-parse_ascii.ensures)

pub returns-clause-none : goal.returns-clause-none
returns-clause-none c = no_address _ c.in_default.ensures c.in_default-parse_ascii.ensures

pub returns-in-Ok-clause-value : goal.returns-in-Ok-clause-value
returns-in-Ok-clause-value c = address_there c.args.text.now _ (returns-in-Ok-clause-found c)

pub returns-in-Ok-parse_ascii-clause-value : goal.returns-in-Ok-parse_ascii-clause-value
returns-in-Ok-parse_ascii-clause-value c = address_there c.args.text.now _ (returns-in-Ok-parse_ascii-clause-found c)

pub returns-clause-value : goal.returns-clause-value
returns-clause-value c = no_address_there c.args.text.now (returns-clause-none c)
