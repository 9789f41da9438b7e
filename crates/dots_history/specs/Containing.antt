-- The rows of a filter table lie inside the domains of their clients, by the settings.
use Rattle.std.specs.Prelude.{Bool}
use Rattle.std.specs.List.{list_any, list_all}
use Rattle.ip_scope.specs.Prefix.{inside}
use Rattle.acl_lists.specs.declared.ace.Ace.{Ace}
use Rattle.acl_lists.specs.declared.rows.ScrubRow.{ScrubRow}
use Rattle.acl_lists.specs.declared.rows.AclRow.{AclRow}
use Rattle.dots_settings.specs.Settings.{SettingsValue}
use Rattle.dots_settings.specs.Lookups.{prefixes_of}
use Rattle.dots_history.specs.Calm.{destination_inside}

-- the prefix of a scrub row lies inside a prefix of the domain
abbrev pub scrubs_inside : SettingsValue → ScrubRow → Bool
scrubs_inside settings row = list_any (inside row.prefix) (prefixes_of settings row.domain)

-- and so does each destination in the entries of a list row
abbrev pub lists_inside : SettingsValue → AclRow → Bool
lists_inside settings row = list_all (λ (ace : Ace). destination_inside (prefixes_of settings row.domain) ace.destination) row.acl.aces
