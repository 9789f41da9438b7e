-- Which requests have names that are names, and write what is within this server's bounds.
use Rattle.std.specs.Prelude.{◌≡◌, ℕ, true, List}
use Rattle.dots_lists.specs.Name.{is_name}
use Rattle.list_json.specs.Within.{IsAliasWithin, IsAclWithin}
use Rattle.data_channel.specs.declared.request.RestRequest.{RestRequest}
use Rattle.data_channel.specs.declared.request.RestRequest.TheVariants as request

abbrev pub IsNamed : List ℕ → Type 0
IsNamed cuid = is_name cuid ≡ true

-- its client has a name, and the alias or the access list that it writes, where it writes one, is within bounds
abbrev pub IsWithin : RestRequest → Type 0
IsWithin (request.PutClient cuid) = IsNamed cuid
IsWithin (request.PostClient cuid) = IsNamed cuid
IsWithin (request.GetClient cuid) = IsNamed cuid
IsWithin (request.DeleteClient cuid) = IsNamed cuid
IsWithin (request.PutAlias cuid alias) = IsNamed cuid × IsAliasWithin alias
IsWithin (request.PostAlias cuid alias) = IsNamed cuid × IsAliasWithin alias
IsWithin (request.GetAlias cuid name) = IsNamed cuid
IsWithin (request.DeleteAlias cuid name) = IsNamed cuid
IsWithin (request.GetAliases cuid) = IsNamed cuid
IsWithin (request.PutAcl cuid acl) = IsNamed cuid × IsAclWithin acl
IsWithin (request.PostAcl cuid acl) = IsNamed cuid × IsAclWithin acl
IsWithin (request.GetAcl cuid name) = IsNamed cuid
IsWithin (request.DeleteAcl cuid name) = IsNamed cuid
IsWithin (request.GetAcls cuid) = IsNamed cuid
