-- The bodies of requests (RFC 8783, sections 4.3, 6 and 7; RFC 8040, section 4; RFC 7951, section 4).
use Rattle.std.specs.Prelude.{ℕ, Bool, ◌||◌, List, codes, bytes_eq, is_some, if◌then◌else◌, Option, Some, None, Result, Ok, Err}
use Rattle.acl_lists.specs.declared.alias.Alias.{Alias}
use Rattle.acl_lists.specs.declared.acl.Acl.{Acl}
use Rattle.serde_json.specs.Data.{Data, Items, no_items, item}
use Rattle.serde_json.specs.Find.{get, as_array}
use Rattle.list_json.specs.declared.fault.Member.{Member}
use Rattle.list_json.specs.declared.fault.Member.TheVariants as the
use Rattle.list_json.specs.declared.fault.ListFault.{ListFault}
use Rattle.list_json.specs.declared.fault.ListFault.TheVariants as faults
use Rattle.list_json.specs.declared.shape.Shape.TheVariants as shape
use Rattle.list_json.specs.Aliases.{alias_in}
use Rattle.list_json.specs.Lists.{acl_in}
use Rattle.list_json.specs.Shapes.{whole_object}
use Rattle.list_json.specs.Steps.{◌>>=◌, needed}
use Rattle.list_json.specs.Values.{name_of}
use Rattle.data_channel.specs.declared.request.RestRequest.{RestRequest}
use Rattle.data_channel.specs.declared.request.RestRequest.TheVariants as request
use Rattle.data_channel.specs.declared.request.Wanted.{Wanted}
use Rattle.data_channel.specs.declared.request.Wanted.TheVariants as wanted

-- the one item of an array; an empty array counts as absent
abbrev pub sole_of : Member → Option Items → Result Data ListFault
sole_of of None = Err (faults.Invalid of)
sole_of of (Some no_items) = Err (faults.Missing of)
sole_of of (Some (item d no_items)) = Ok d
sole_of of (Some (item d (item other ds))) = Err (faults.Invalid of)

abbrev pub sole_item : Member → Data → Result Data ListFault
sole_item of d = sole_of of (as_array d)

-- the cuid of a client
abbrev pub client_in : Data → Result (List ℕ) ListFault
client_in d = do
  _ ← whole_object shape.ClientBody the.DotsClient d
  client ← needed the.DotsClient (sole_item the.DotsClient) (get (codes "ietf-dots-data-channel:dots-client") d)
  _ ← whole_object shape.Client the.DotsClient client
  needed the.Cuid (name_of the.Cuid) (get (codes "cuid") client)

-- one alias, alone or as the only one of all; one of the two spellings stands
abbrev pub listed_alias : Data → Result Data ListFault
listed_alias d = do
  _ ← whole_object shape.Aliases the.Aliases d
  needed the.Alias (sole_item the.Alias) (get (codes "alias") d)

abbrev pub spelled_alias : Option Data → Option Data → Result Data ListFault
spelled_alias None None = Err (faults.Missing the.Alias)
spelled_alias (Some d) None = sole_item the.Alias d
spelled_alias None (Some d) = listed_alias d
spelled_alias (Some d) (Some other) = Err (faults.Invalid the.Aliases)

abbrev pub alias_body : Data → Result Alias ListFault
alias_body d = do
  _ ← whole_object shape.AliasBody the.Alias d
  alias ← spelled_alias (get (codes "ietf-dots-data-channel:alias") d) (get (codes "ietf-dots-data-channel:aliases") d)
  alias_in alias

-- one access list in the same two spellings
abbrev pub listed_acl : Data → Result Data ListFault
listed_acl d = do
  _ ← whole_object shape.Acls the.Acls d
  needed the.Acl (sole_item the.Acl) (get (codes "acl") d)

abbrev pub spelled_acl : Option Data → Option Data → Result Data ListFault
spelled_acl None None = Err (faults.Missing the.Acl)
spelled_acl (Some d) None = sole_item the.Acl d
spelled_acl None (Some d) = listed_acl d
spelled_acl (Some d) (Some other) = Err (faults.Invalid the.Acls)

abbrev pub acl_body : Data → Result Acl ListFault
acl_body d = do
  _ ← whole_object shape.AclBody the.Acl d
  acl ← spelled_acl (get (codes "ietf-dots-data-channel:acl") d) (get (codes "ietf-dots-data-channel:acls") d)
  acl_in acl

-- the name that the path has
abbrev pub same_name : Member → List ℕ → List ℕ → Result (Unit {0}) ListFault
same_name of wanted given = if bytes_eq given wanted then Ok tt else Err (faults.Invalid of)

-- the alias or the access list in a body, which has this name
abbrev pub named_alias : List ℕ → Data → Result Alias ListFault
named_alias name d = alias_body d >>= λ alias. same_name the.Name name alias.name >>= λ _. Ok alias

abbrev pub named_acl : List ℕ → Data → Result Acl ListFault
named_acl name d = acl_body d >>= λ acl. same_name the.Name name acl.name >>= λ _. Ok acl

abbrev pub names_acl : Data → Bool
names_acl d =
    is_some (get (codes "ietf-dots-data-channel:acl") d) || is_some (get (codes "ietf-dots-data-channel:acls") d)

abbrev pub posted : List ℕ → Data → Result RestRequest ListFault
posted cuid d =
    if names_acl d
    then acl_body d >>= (λ acl. Ok (request.PostAcl cuid acl))
    else alias_body d >>= (λ alias. Ok (request.PostAlias cuid alias))

-- **what a body makes of a request that wants one**
abbrev pub whole_request : Wanted → Data → Result RestRequest ListFault
whole_request wanted.PostClient d = client_in d >>= λ cuid. Ok (request.PostClient cuid)
whole_request (wanted.PutClient cuid) d = client_in d >>= λ given. same_name the.Cuid cuid given >>= λ _. Ok (request.PutClient cuid)
whole_request (wanted.PostBelow cuid) d = posted cuid d
whole_request (wanted.PutAlias cuid name) d = alias_body d >>= λ alias. same_name the.Name name alias.name >>= λ _. Ok (request.PutAlias cuid alias)
whole_request (wanted.PutAcl cuid name) d = acl_body d >>= λ acl. same_name the.Name name acl.name >>= λ _. Ok (request.PutAcl cuid acl)
