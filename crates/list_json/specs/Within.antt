-- How much an alias and an access list may name: bounds of this server's own, which RFC 8783 doesn't have.
use Rattle.std.specs.Prelude.{◌≡◌, ◌≤◌, [], length}
use Rattle.acl_lists.specs.declared.acl.Acl.{Acl}
use Rattle.acl_lists.specs.declared.alias.Alias.{Alias}
use Rattle.acl_lists.specs.declared.limits.TheConstants.{MAX_ITEMS, MAX_NAMES, MAX_ACES}

-- at most 32 prefixes, port ranges and protocols each, 8 host names, and no further alias
pub record IsAliasWithin (alias : Alias) : Type 0 where
  pub prefixes : length alias.asked.prefixes ≤ MAX_ITEMS
  pub ports : length alias.asked.ports ≤ MAX_ITEMS
  pub protocols : length alias.asked.protocols ≤ MAX_ITEMS
  pub names : length alias.asked.names ≤ MAX_NAMES
  pub aliases : alias.asked.aliases ≡ []

-- at most 64 entries
abbrev pub IsAclWithin : Acl → Type 0
IsAclWithin acl = length acl.aces ≤ MAX_ACES
