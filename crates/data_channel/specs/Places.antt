-- What the code reads of a target, part by part. `specs/Paths` says what a target is, and the proofs that both are one.
use Rattle.std.specs.Prelude.{ℕ, ◌==◌, Bool, List, [], ◌∷◌, drop, codes, bytes_eq, if◌then◌else◌, Option, Some, None, option_and_then}
use Rattle.std.specs.List.{list_any, before_first, position_or_len}
use Rattle.data_channel.specs.declared.place.Kind.{Kind}
use Rattle.data_channel.specs.declared.place.Kind.TheVariants as kind
use Rattle.data_channel.specs.Paths.{Place, root, is_segment}

-- the path, which the first `?` ends
abbrev pub path_of : List ℕ → List ℕ
path_of target = before_first (λ byte. byte == 63) target

-- a query, be it empty
abbrev pub has_query : List ℕ → Bool
has_query target = list_any (λ byte. byte == 63) target

-- what stands behind a front
abbrev pub behind_front : List ℕ → List ℕ → Option (List ℕ)
behind_front [] bytes = Some bytes
behind_front (first ∷ front) [] = None
behind_front (first ∷ front) (byte ∷ bytes) = if byte == first then behind_front front bytes else None

-- a segment, and what stands from the next slash on
abbrev pub segment : List ℕ → List ℕ
segment bytes = before_first (λ byte. byte == 47) bytes

abbrev pub behind_segment : List ℕ → List ℕ
behind_segment bytes = drop (position_or_len (λ byte. byte == 47) bytes) bytes

abbrev pub unnamed : Kind → List ℕ → Place
unnamed of client = record { kind = of; client = client; name = [] }

-- a name in one segment at the end of the path
abbrev pub named : Kind → List ℕ → List ℕ → Option Place
named of client name = if is_segment name then Some (record { kind = of; client = client; name = name }) else None

abbrev pub by_acl : List ℕ → Option (List ℕ) → Option Place
by_acl client None = None
by_acl client (Some name) = named kind.Acl client name

abbrev pub by_alias : List ℕ → Option (List ℕ) → Option (List ℕ) → Option Place
by_alias client acl None = by_acl client acl
by_alias client acl (Some name) = named kind.Alias client name

abbrev pub below_client : List ℕ → List ℕ → Option Place
below_client client below =
    if bytes_eq below [] then Some (unnamed kind.Client client)
    else if bytes_eq below (codes "/aliases") then Some (unnamed kind.Aliases client)
    else if bytes_eq below (codes "/acls") then Some (unnamed kind.Acls client)
    else by_alias client (behind_front (codes "/acls/acl=") below) (behind_front (codes "/aliases/alias=") below)

abbrev pub client_place : List ℕ → Option Place
client_place rest = below_client (segment rest) (behind_segment rest)

abbrev pub below_root : List ℕ → Option Place
below_root below =
    if bytes_eq below [] then Some (unnamed kind.Root [])
    else option_and_then client_place (behind_front (codes "/dots-client=") below)

-- the resource of a path
abbrev pub place_in : List ℕ → Option Place
place_in path = option_and_then below_root (behind_front root path)
