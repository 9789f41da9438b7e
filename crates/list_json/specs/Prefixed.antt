-- Entries whose prefixes are prefixes, as those of every value of the code are.
use Rattle.std.specs.Prelude.{Option, Some, None}
use Rattle.acl_lists.specs.declared.ace.Ace.{Ace}
use Rattle.ip_scope.specs.Prefix.{PrefixValue, IsPrefix}

abbrev pub IsValid : Option PrefixValue → Type 0
IsValid None = Unit {0}
IsValid (Some prefix) = IsPrefix prefix

abbrev pub HasPrefixes : Ace → Type 0
HasPrefixes entry = IsValid entry.source × IsValid entry.destination
