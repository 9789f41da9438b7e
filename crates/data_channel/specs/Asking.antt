-- What a request of the data channel does, and to which resource (RFC 8783, sections 5 to 7; RFC 8040, section 4).
use Rattle.std.specs.Prelude.{ℕ, List, Option, Some, None}
use Rattle.data_channel.specs.declared.request.RestRequest.{RestRequest}
use Rattle.data_channel.specs.declared.request.RestRequest.TheVariants as request
use Rattle.data_channel.specs.declared.asking.RestVerb.{RestVerb}
use Rattle.data_channel.specs.declared.asking.RestVerb.TheVariants as verb
use Rattle.data_channel.specs.declared.asking.RestKind.{RestKind}
use Rattle.data_channel.specs.declared.asking.RestKind.TheVariants as kind

abbrev pub verb_of : RestRequest → RestVerb
verb_of (request.PutClient cuid) = verb.Put
verb_of (request.PostClient cuid) = verb.Post
verb_of (request.GetClient cuid) = verb.Get
verb_of (request.DeleteClient cuid) = verb.Delete
verb_of (request.PutAlias cuid alias) = verb.Put
verb_of (request.PostAlias cuid alias) = verb.Post
verb_of (request.GetAlias cuid name) = verb.Get
verb_of (request.DeleteAlias cuid name) = verb.Delete
verb_of (request.GetAliases cuid) = verb.Get
verb_of (request.PutAcl cuid acl) = verb.Put
verb_of (request.PostAcl cuid acl) = verb.Post
verb_of (request.GetAcl cuid name) = verb.Get
verb_of (request.DeleteAcl cuid name) = verb.Delete
verb_of (request.GetAcls cuid) = verb.Get

abbrev pub kind_of : RestRequest → RestKind
kind_of (request.PutClient cuid) = kind.Client
kind_of (request.PostClient cuid) = kind.Client
kind_of (request.GetClient cuid) = kind.Client
kind_of (request.DeleteClient cuid) = kind.Client
kind_of (request.PutAlias cuid alias) = kind.Alias
kind_of (request.PostAlias cuid alias) = kind.Alias
kind_of (request.GetAlias cuid name) = kind.Alias
kind_of (request.DeleteAlias cuid name) = kind.Alias
kind_of (request.GetAliases cuid) = kind.Aliases
kind_of (request.PutAcl cuid acl) = kind.Acl
kind_of (request.PostAcl cuid acl) = kind.Acl
kind_of (request.GetAcl cuid name) = kind.Acl
kind_of (request.DeleteAcl cuid name) = kind.Acl
kind_of (request.GetAcls cuid) = kind.Acls

-- the client that it is about, or below which it is
abbrev pub cuid_of : RestRequest → List ℕ
cuid_of (request.PutClient cuid) = cuid
cuid_of (request.PostClient cuid) = cuid
cuid_of (request.GetClient cuid) = cuid
cuid_of (request.DeleteClient cuid) = cuid
cuid_of (request.PutAlias cuid alias) = cuid
cuid_of (request.PostAlias cuid alias) = cuid
cuid_of (request.GetAlias cuid name) = cuid
cuid_of (request.DeleteAlias cuid name) = cuid
cuid_of (request.GetAliases cuid) = cuid
cuid_of (request.PutAcl cuid acl) = cuid
cuid_of (request.PostAcl cuid acl) = cuid
cuid_of (request.GetAcl cuid name) = cuid
cuid_of (request.DeleteAcl cuid name) = cuid
cuid_of (request.GetAcls cuid) = cuid

-- the name of the one alias or access list that it is about
abbrev pub name_of : RestRequest → Option (List ℕ)
name_of (request.PutClient cuid) = None
name_of (request.PostClient cuid) = None
name_of (request.GetClient cuid) = None
name_of (request.DeleteClient cuid) = None
name_of (request.PutAlias cuid alias) = Some alias.name
name_of (request.PostAlias cuid alias) = Some alias.name
name_of (request.GetAlias cuid name) = Some name
name_of (request.DeleteAlias cuid name) = Some name
name_of (request.GetAliases cuid) = None
name_of (request.PutAcl cuid acl) = Some acl.name
name_of (request.PostAcl cuid acl) = Some acl.name
name_of (request.GetAcl cuid name) = Some name
name_of (request.DeleteAcl cuid name) = Some name
name_of (request.GetAcls cuid) = None
