-- What the programs hand out, as the definitions say it.
use Rattle.std.specs.Prelude.{ℕ, List, [], Option, Some, None, slice_get}
use Rattle.ip_scope.specs.Prefix.{PrefixValue}
use Rattle.acl_lists.specs.declared.deciding.Fate.{Fate}
use Rattle.acl_lists.specs.declared.deciding.Fate.TheVariants as handed
use Rattle.acl_lists.specs.Fates as fates

abbrev pub fate_of : Fate → fates.Fate
fate_of handed.Pass = fates.Pass
fate_of (handed.Accepted acl) = fates.Accepted acl.now
fate_of (handed.Dropped acl) = fates.Dropped acl.now
fate_of (handed.Scrubbed mid) = fates.Scrubbed mid

-- the prefixes of a domain, by its number; a number beyond them has none
abbrev pub or_none : Option (List PrefixValue) → List PrefixValue
or_none None = []
or_none (Some prefixes) = prefixes

abbrev pub prefixes_in : List (List PrefixValue) → ℕ → List PrefixValue
prefixes_in domains domain = or_none (slice_get domains domain)
