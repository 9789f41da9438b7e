-- What the clients of a generated world ask for.
use Rattle.std.specs.Prelude.{ℕ, ◌+◌, ◌%◌, ◌==◌, if◌then◌else◌, [], ◌∷◌, pos}
use Rattle.acl_lists.specs.declared.asked.Asked.{Asked}
use Rattle.ip_scope.specs.declared.family.Family.TheVariants.{V4}
use Rattle.ip_scope.specs.Prefix.{prefix_of}
use Rattle.dots_client.specs.declared.ask.Ask.{Ask}
use Rattle.dots_client.specs.declared.ask.Ask.TheVariants as ask

-- 192.0.2.0 and 198.51.100.0
abbrev pub net1 : ℕ
net1 = 0xc0000200

abbrev pub net2 : ℕ
net2 = 0xc6336400

-- The address that the client at a place asks for by a draw. Those of the two clients of net1 are apart.
abbrev pub address_for : ℕ → ℕ → ℕ
address_for place c = if place == 0 then net1 + c % 128 else if place == 1 then net2 + c % 256 else net1 + 128 + c % 128

-- one IPv4 address, every port and every protocol
abbrev pub scope_at : ℕ → Asked
scope_at address = record { prefixes = prefix_of V4 address 32 ∷ []; ports = []; protocols = []; names = []; aliases = [] }

-- for 600 seconds
unfoldable pub ask_for : ℕ → ℕ → Ask
ask_for place c = ask.New (scope_at (address_for place c)) (pos 600)
