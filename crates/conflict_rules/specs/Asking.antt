-- When two requests ask for the same, and when one refreshes a mitigation.
use Rattle.std.specs.Prelude.{List, Bool, ◌&&◌, ◌==◌, nat_eq, bytes_eq}
use Rattle.std.specs.List.{list_any, list_all}
use Rattle.ip_scope.specs.Family.{same_family}
use Rattle.ip_scope.specs.Prefix.{PrefixValue}
use Rattle.ip_scope.specs.Ports.{Ports}
use Rattle.acl_lists.specs.declared.asked.Asked.{Asked}
use Rattle.dots_history.specs.declared.put.Put.{Put}
use Rattle.dots_history.specs.Entries.{same_flag}

-- each of the one is among the other
abbrev pub all_among : {A : Type 0} → (A → A → Bool) → List A → List A → Bool
all_among same xs ys = list_all (λ x. list_any (same x) ys) xs

-- as sets they are the same, whatever the order and the repeats: each of the one is among the other, both ways
abbrev pub same_set : {A : Type 0} → (A → A → Bool) → List A → List A → Bool
same_set same xs ys = all_among same xs ys && all_among same ys xs

abbrev pub same_prefix : PrefixValue → PrefixValue → Bool
same_prefix a b = same_family a.family b.family && ((a.number == b.number) && (a.length == b.length))

-- ranges are the same by their two ports: 80 to 81 and 82 are not 80 to 82
abbrev pub same_ports : Ports → Ports → Bool
same_ports a b = (a.lower == b.lower) && (a.upper == b.upper)

-- Their prefixes, ports, protocols, names and aliases are the same sets. Names are compared byte for byte, those of
-- hosts too.
abbrev pub asks_the_same : Asked → Asked → Bool
asks_the_same a b =
    same_set same_prefix a.prefixes b.prefixes
    && (same_set same_ports a.ports b.ports
    && (same_set nat_eq a.protocols b.protocols
    && (same_set bytes_eq a.names b.names && same_set bytes_eq a.aliases b.aliases)))

-- A mitigation was asked for by such a request, with the same `trigger-mitigation` value (RFC 9132, section 4.4.1).
abbrev pub would_refresh : Asked → Bool → Put → Bool
would_refresh asked trigger put = asks_the_same put.asked asked && same_flag put.trigger trigger
