-- Which entries are within bounds. The bounds on lists are this server's own: RFC 9132 and RFC 8783 have none.
use Rattle.std.specs.Prelude.{ℕ, ◌^◌, Bool, true, ◌&&◌, ◌||◌, ◌==◌, nat_le, nat_lt, ◌+◌, List, [], ◌∷◌, length}
use Rattle.std.specs.List.{list_all}
use Rattle.dots_lists.specs.Name.{is_name}
use Rattle.acl_lists.specs.declared.alias.Alias.{Alias}
use Rattle.acl_lists.specs.declared.asked.Asked.{Asked}
use Rattle.acl_lists.specs.declared.limits.TheConstants.{MAX_ITEMS, MAX_NAMES, MAX_TARGETS, MAX_RESOLVED, MAX_ACES}
use Rattle.dots_history.specs.declared.entry.Entry.{Entry}
use Rattle.dots_history.specs.declared.put.Put.{Put}
use Rattle.dots_history.specs.declared.put.Target.{Target}
use Rattle.dots_history.specs.declared.config.Values.{Values}
use Rattle.dots_history.specs.declared.change.Change.{Change}
use Rattle.dots_history.specs.declared.change.Change.TheVariants as change

-- at most 32 prefixes, port ranges and protocols each, and 8 host names and alias names each
abbrev pub asked_within : Asked → Bool
asked_within asked =
    nat_le (length asked.prefixes) MAX_ITEMS
    && nat_le (length asked.ports) MAX_ITEMS
    && nat_le (length asked.protocols) MAX_ITEMS
    && nat_le (length asked.names) MAX_NAMES
    && nat_le (length asked.aliases) MAX_NAMES

-- an alias names no further alias
abbrev pub alias_within : Alias → Bool
alias_within alias = asked_within alias.asked && (length alias.asked.aliases == 0)

abbrev pub target_within : Target → Bool
target_within target = nat_le (length target.ports) MAX_ITEMS && nat_le (length target.protocols) MAX_ITEMS

-- how many prefixes the targets have
abbrev pub prefix_count : List Target → ℕ
prefix_count [] = 0
prefix_count (target ∷ targets) = length target.prefixes + prefix_count targets

-- at most 9 targets, with at most 128 prefixes together
abbrev pub put_within : Put → Bool
put_within put =
    asked_within put.asked
    && nat_le (length put.targets) MAX_TARGETS
    && list_all target_within put.targets
    && nat_le (prefix_count put.targets) MAX_RESOLVED

abbrev pub values_within : Values → Bool
values_within values =
    nat_lt values.interval (2 ^ 32)
    && nat_lt values.missing (2 ^ 32)
    && nat_lt values.retransmit (2 ^ 32)
    && nat_lt values.timeout (2 ^ 32)
    && nat_lt values.factor (2 ^ 32)
    && nat_lt values.rate (2 ^ 32)

abbrev pub change_within : Change → Bool
change_within (change.Put put) = put_within put
change_within (change.SetAlias alias) = alias_within alias
change_within (change.SetAcl acl) = nat_le (length acl.aces) MAX_ACES
change_within (change.SetConfig sid config) = values_within config.mitigating && values_within config.idle
change_within _ = true

-- the time is below 2^48, the cuid is empty or a name, the reply has at most 64 bytes, and the change is within bounds
abbrev pub within_bounds : Entry → Bool
within_bounds entry =
    nat_lt entry.time (2 ^ 48)
    && ((length entry.cuid == 0) || is_name entry.cuid)
    && nat_le (length entry.reply) 64
    && change_within entry.change
