-- The bodies of replies, and where a resource is (RFC 8783, sections 4.3, 6 and 7; RFC 8040, sections 3.5.3 and 4.4.1).
use Rattle.std.specs.Prelude.{ℕ, ◌==◌, ◌||◌, Bool, List, [], ◌∷◌, ◌++◌, map, codes, if◌then◌else◌}
use Rattle.std.specs.Char.{is_ascii_alphanumeric}
use Rattle.std.specs.List.{flat_map}
use Rattle.acl_lists.specs.declared.alias.Alias.{Alias}
use Rattle.acl_lists.specs.declared.acl.Acl.{Acl}
use Rattle.percent_encoding.specs.Percent.{percent_encode_byte}
use Rattle.serde_json.specs.Data.{Data, string, array, object, no_items, item, no_members, member}
use Rattle.serde_json.specs.View.{items_of}
use Rattle.list_json.specs.AliasPrinting.{alias_data}
use Rattle.list_json.specs.ListPrinting.{acl_data}
use Rattle.data_channel.specs.declared.replies.RestBody.{RestBody}
use Rattle.data_channel.specs.declared.replies.RestBody.TheVariants as body
use Rattle.data_channel.specs.declared.request.RestRequest.{RestRequest}
use Rattle.data_channel.specs.declared.request.RestRequest.TheVariants as request
use Rattle.data_channel.specs.Paths.{root}

-- ---- bodies

abbrev pub wrapped : List ℕ → Data → Data
wrapped name d = object (member name d no_members)

abbrev pub alone : Data → Data
alone d = array (item d no_items)

-- all aliases, and all access lists, in their order
abbrev pub aliases_data : List Alias → Data
aliases_data aliases = wrapped (codes "alias") (array (items_of (map alias_data aliases)))

abbrev pub acls_data : List Acl → Data
acls_data acls = wrapped (codes "acl") (array (items_of (map acl_data acls)))

abbrev pub client_data : List ℕ → List Alias → List Acl → Data
client_data cuid aliases acls =
    object
    (
    member
    (codes "acls")
    (acls_data acls)
    (member (codes "aliases") (aliases_data aliases) (member (codes "cuid") (string cuid) no_members))
    )

-- **the value that a body is**
abbrev pub body_data : RestBody → Data
body_data (body.Client cuid aliases acls) = wrapped (codes "ietf-dots-data-channel:dots-client") (alone (client_data cuid aliases acls))
body_data (body.Aliases aliases) = wrapped (codes "ietf-dots-data-channel:aliases") (aliases_data aliases)
body_data (body.OneAlias alias) = wrapped (codes "ietf-dots-data-channel:alias") (alone (alias_data alias))
body_data (body.Acls acls) = wrapped (codes "ietf-dots-data-channel:acls") (acls_data acls)
body_data (body.OneAcl acl) = wrapped (codes "ietf-dots-data-channel:acl") (alone (acl_data acl))

-- ---- paths

-- unreserved = ALPHA / DIGIT / "-" / "." / "_" / "~" (RFC 3986, section 2.3)
abbrev pub is_unreserved : ℕ → Bool
is_unreserved byte = is_ascii_alphanumeric byte || byte == 45 || byte == 46 || byte == 95 || byte == 126

-- pct-encoded = "%" HEXDIG HEXDIG, with upper-case digits (RFC 3986, section 2.1)
abbrev pub encode_byte : ℕ → List ℕ
encode_byte byte = if is_unreserved byte then byte ∷ [] else percent_encode_byte byte

abbrev pub encoded : List ℕ → List ℕ
encoded name = flat_map encode_byte name

-- a client, what stands behind it, and a name at the end
abbrev pub path_to : List ℕ → List ℕ → List ℕ → List ℕ
path_to cuid fixed name = root ++ codes "/dots-client=" ++ encoded cuid ++ fixed ++ encoded name

-- **the path of the resource that a request is about**
abbrev pub location_in : RestRequest → List ℕ
location_in (request.PutClient cuid) = path_to cuid [] []
location_in (request.PostClient cuid) = path_to cuid [] []
location_in (request.GetClient cuid) = path_to cuid [] []
location_in (request.DeleteClient cuid) = path_to cuid [] []
location_in (request.PutAlias cuid alias) = path_to cuid (codes "/aliases/alias=") alias.name
location_in (request.PostAlias cuid alias) = path_to cuid (codes "/aliases/alias=") alias.name
location_in (request.GetAlias cuid name) = path_to cuid (codes "/aliases/alias=") name
location_in (request.DeleteAlias cuid name) = path_to cuid (codes "/aliases/alias=") name
location_in (request.GetAliases cuid) = path_to cuid (codes "/aliases") []
location_in (request.PutAcl cuid acl) = path_to cuid (codes "/acls/acl=") acl.name
location_in (request.PostAcl cuid acl) = path_to cuid (codes "/acls/acl=") acl.name
location_in (request.GetAcl cuid name) = path_to cuid (codes "/acls/acl=") name
location_in (request.DeleteAcl cuid name) = path_to cuid (codes "/acls/acl=") name
location_in (request.GetAcls cuid) = path_to cuid (codes "/acls") []
