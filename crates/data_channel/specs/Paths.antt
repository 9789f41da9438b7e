-- The grammar of the targets of the data channel (RFC 3986, sections 3.3 and 3.4; RFC 8040, sections 3.1 and 3.5.3;
-- RFC 8783, sections 4.3, 6 and 7).
--
--     target  = path [ "?" query ]
--     path    = root / client / aliases / alias / acls / acl
--     root    = "/restconf/data/ietf-dots-data-channel:dots-data"
--     client  = root "/dots-client=" segment
--     aliases = client "/aliases"
--     alias   = client "/aliases/alias=" segment
--     acls    = client "/acls"
--     acl     = client "/acls/acl=" segment
--
-- The fixed parts stand as they are, and are never encoded. A segment is a name as it is encoded, and holds no `/`; so no path
-- ends with a slash. An empty segment is one, though no name is empty.
use Rattle.std.specs.Prelude.{◌≡◌, ℕ, ◌==◌, Bool, not, IsTrue, List, [], ◌∷◌, ◌++◌, codes, Option, Some, None}
use Rattle.std.specs.List.{list_all}
use Rattle.data_channel.specs.declared.place.Kind.{Kind}
use Rattle.data_channel.specs.declared.place.Kind.TheVariants as kind
use Rattle.data_channel.specs.declared.place.Place as code

-- a resource and the names in its path, as they stand there: `dots-client` and, below it, `alias` or `acl`
pub record Place : Type 0 where
  pub kind : Kind
  pub client : List ℕ
  pub name : List ℕ

-- ---- targets

abbrev pub lacks : ℕ → List ℕ → Bool
lacks sign bytes = list_all (λ byte. not (byte == sign)) bytes

-- a path holds no `?`, and a segment no `/`
abbrev pub is_path : List ℕ → Bool
is_path bytes = lacks 63 bytes

abbrev pub is_segment : List ℕ → Bool
is_segment bytes = lacks 47 bytes

-- the first `?` ends the path; what stands behind it is the query, which may be empty
abbrev pub IsTarget : List ℕ → List ℕ → Option (List ℕ) → Type 0
IsTarget target path None = IsTrue (is_path path) × (target ≡ path)
IsTarget target path (Some query) = IsTrue (is_path path) × (target ≡ path ++ 63 ∷ query)

-- ---- paths

abbrev pub root : List ℕ
root = codes "/restconf/data/ietf-dots-data-channel:dots-data"

abbrev pub client_path : List ℕ → List ℕ
client_path client = root ++ codes "/dots-client=" ++ client

-- the path of this kind with these names in it, and which names it has
abbrev pub spelled : Kind → List ℕ → List ℕ → List ℕ
spelled kind.Root client name = root
spelled kind.Client client name = client_path client
spelled kind.Aliases client name = client_path client ++ codes "/aliases"
spelled kind.Alias client name = client_path client ++ (codes "/aliases/alias=" ++ name)
spelled kind.Acls client name = client_path client ++ codes "/acls"
spelled kind.Acl client name = client_path client ++ (codes "/acls/acl=" ++ name)

abbrev pub HasNames : Kind → List ℕ → List ℕ → Type 0
HasNames kind.Root client name = (client ≡ []) × (name ≡ [])
HasNames kind.Client client name = IsTrue (is_segment client) × (name ≡ [])
HasNames kind.Aliases client name = IsTrue (is_segment client) × (name ≡ [])
HasNames kind.Alias client name = IsTrue (is_segment client) × IsTrue (is_segment name)
HasNames kind.Acls client name = IsTrue (is_segment client) × (name ≡ [])
HasNames kind.Acl client name = IsTrue (is_segment client) × IsTrue (is_segment name)

-- **the path of a resource**
abbrev pub IsPathOf : List ℕ → Place → Type 0
IsPathOf path place = HasNames place.kind place.client place.name × (path ≡ spelled place.kind place.client place.name)

-- the resource that has this path, or that none has
abbrev pub IsAt : List ℕ → Option Place → Type 0
IsAt path (Some place) = IsPathOf path place
IsAt path None = (place : Place) → IsPathOf path place → ⊥

-- what the code's places stand for
abbrev pub place_value : code.Place → Place
place_value place = record { kind = place.kind; client = place.client.now; name = place.name.now }
