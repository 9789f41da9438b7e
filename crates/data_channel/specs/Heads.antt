-- What a request asks before its body is read (RFC 8040, sections 3.5.3, 4 and 5.3; RFC 8783, sections 4.3, 6 and 7), or
-- the first refusal that applies.
use Rattle.std.specs.Prelude.{◌≡◌, ℕ, Bool, true, false, ◌&&◌, not, List, map, codes, bytes_eq, if◌then◌else◌, Option, Some, None, ok_or, is_some, Result, Ok, Err}
use Rattle.std.specs.Char.{to_ascii_lowercase}
use Rattle.dots_lists.specs.Steps as steps
use Rattle.dots_lists.specs.Name.{is_name}
use Rattle.percent_encoding.specs.Percent.{percent_decode}
use Rattle.list_json.specs.declared.fault.ListFault.{ListFault}
use Rattle.list_json.specs.declared.fault.ListFault.TheVariants as faults
use Rattle.data_channel.specs.declared.place.Kind.TheVariants as kind
use Rattle.data_channel.specs.declared.reject.Allow.{Allow}
use Rattle.data_channel.specs.declared.reject.Allow.TheVariants as allow
use Rattle.data_channel.specs.declared.reject.RestReject.{RestReject}
use Rattle.data_channel.specs.declared.reject.RestReject.TheVariants as reject
use Rattle.data_channel.specs.declared.request.Head.{Head}
use Rattle.data_channel.specs.declared.request.Head.TheVariants.{Plain, Wants}
use Rattle.data_channel.specs.declared.request.Resource.{Resource}
use Rattle.data_channel.specs.declared.request.Resource.TheVariants as resource
use Rattle.data_channel.specs.declared.request.RestRequest.TheVariants as request
use Rattle.data_channel.specs.declared.request.Verb.{Verb}
use Rattle.data_channel.specs.declared.request.Verb.TheVariants as verb
use Rattle.data_channel.specs.declared.request.Wanted.TheVariants as wanted
use Rattle.data_channel.specs.Paths.{Place, IsTarget, IsAt}

infixl 10 ◌>>=◌
abbrev pub ◌>>=◌ : {A B : Type 0} → Result A RestReject → (A → Result B RestReject) → Result B RestReject
(Ok x) >>= f = f x
(Err e) >>= f = Err e

-- want of memory
abbrev pub lacks : RestReject → Bool
lacks reject.NoMemory = true
lacks _ = false

-- What a function answered is what reading gives, unless memory ran out.
abbrev pub Fails : {A : Type 0} → RestReject → Result A RestReject → Type 0
Fails fault read = steps.Fails lacks fault read

abbrev pub Gives : {A : Type 0} → Result A RestReject → Result A RestReject → Type 0
Gives answer read = steps.Gives lacks answer read

-- a fact of an answer, unless it is want of memory
abbrev pub Fulfils : RestReject → Type 0 → Type 0
Fulfils fault fact = steps.unless (lacks fault) fact

abbrev pub UnlessNoMemory : {A : Type 0} → Result A RestReject → Type 0 → Type 0
UnlessNoMemory answer fact = steps.UnlessNoMemory lacks answer fact

-- ---- the names of a path

-- an encoded byte stands for itself, and a `%` without two hexadecimal digits too
abbrev pub name_in_path : List ℕ → Result (List ℕ) RestReject
name_in_path segment = if is_name (percent_decode segment) then Ok (percent_decode segment) else Err reject.BadName

abbrev pub resource_of : Place → Result Resource RestReject
resource_of place = elim place.kind [
  | kind.Root ↦ Ok resource.Root
  | kind.Client ↦ name_in_path place.client >>= λ cuid. Ok (resource.Client cuid)
  | kind.Aliases ↦ name_in_path place.client >>= λ cuid. Ok (resource.Aliases cuid)
  | kind.Alias ↦ name_in_path place.client >>= λ cuid. name_in_path place.name >>= λ name. Ok (resource.Alias cuid name)
  | kind.Acls ↦ name_in_path place.client >>= λ cuid. Ok (resource.Acls cuid)
  | kind.Acl ↦ name_in_path place.client >>= λ cuid. name_in_path place.name >>= λ name. Ok (resource.Acl cuid name)
]

-- ---- methods

abbrev pub verb_in : List ℕ → Option Verb
verb_in method =
    if bytes_eq method (codes "GET") then Some verb.Get
    else if bytes_eq method (codes "PUT") then Some verb.Put
    else if bytes_eq method (codes "POST") then Some verb.Post
    else if bytes_eq method (codes "DELETE") then Some verb.Delete
    else None

abbrev pub allow_text : Allow → List ℕ
allow_text allow.Root = codes "POST"
allow_text allow.Client = codes "GET, PUT, POST, DELETE"
allow_text allow.Inner = codes "GET, PUT, DELETE"
allow_text allow.List = codes "GET"

abbrev pub is_get : Option Verb → Bool
is_get (Some verb.Get) = true
is_get _ = false

-- a query is ignored in a GET, and refused in every other request
abbrev pub ignored_query : Option Verb → Bool → Result (Unit {0}) RestReject
ignored_query asked query = if query && not (is_get asked) then Err reject.Query else Ok tt

abbrev pub root_head : Option Verb → Result Head RestReject
root_head (Some verb.Post) = Ok (Wants wanted.PostClient)
root_head _ = Err (reject.Method allow.Root)

abbrev pub client_head : List ℕ → Option Verb → Result Head RestReject
client_head cuid (Some verb.Get) = Ok (Plain (request.GetClient cuid))
client_head cuid (Some verb.Put) = Ok (Wants (wanted.PutClient cuid))
client_head cuid (Some verb.Post) = Ok (Wants (wanted.PostBelow cuid))
client_head cuid (Some verb.Delete) = Ok (Plain (request.DeleteClient cuid))
client_head cuid None = Err (reject.Method allow.Client)

abbrev pub aliases_head : List ℕ → Option Verb → Result Head RestReject
aliases_head cuid (Some verb.Get) = Ok (Plain (request.GetAliases cuid))
aliases_head cuid _ = Err (reject.Method allow.List)

abbrev pub acls_head : List ℕ → Option Verb → Result Head RestReject
acls_head cuid (Some verb.Get) = Ok (Plain (request.GetAcls cuid))
acls_head cuid _ = Err (reject.Method allow.List)

abbrev pub alias_head : List ℕ → List ℕ → Option Verb → Result Head RestReject
alias_head cuid name (Some verb.Get) = Ok (Plain (request.GetAlias cuid name))
alias_head cuid name (Some verb.Put) = Ok (Wants (wanted.PutAlias cuid name))
alias_head cuid name (Some verb.Delete) = Ok (Plain (request.DeleteAlias cuid name))
alias_head cuid name _ = Err (reject.Method allow.Inner)

abbrev pub acl_head : List ℕ → List ℕ → Option Verb → Result Head RestReject
acl_head cuid name (Some verb.Get) = Ok (Plain (request.GetAcl cuid name))
acl_head cuid name (Some verb.Put) = Ok (Wants (wanted.PutAcl cuid name))
acl_head cuid name (Some verb.Delete) = Ok (Plain (request.DeleteAcl cuid name))
acl_head cuid name _ = Err (reject.Method allow.Inner)

abbrev pub head_with : Resource → Option Verb → Result Head RestReject
head_with resource.Root asked = root_head asked
head_with (resource.Client cuid) asked = client_head cuid asked
head_with (resource.Aliases cuid) asked = aliases_head cuid asked
head_with (resource.Alias cuid name) asked = alias_head cuid name asked
head_with (resource.Acls cuid) asked = acls_head cuid asked
head_with (resource.Acl cuid name) asked = acl_head cuid name asked

-- ---- the head

-- what is asked of the place that the path is of: the place, its names, the query and the method are judged in this order
abbrev pub head_at : Option Place → Option Verb → Bool → Result Head RestReject
head_at found asked query = do
  place ← ok_or found reject.NotFound
  sought ← resource_of place
  _ ← ignored_query asked query
  head_with sought asked

-- **what is asked before the body**, of the place of the target's path
abbrev pub IsHead : List ℕ → List ℕ → Result Head RestReject → Type 0
IsHead method target head =
    (path : List ℕ) × (query : Option (List ℕ)) × (found : Option Place) × IsTarget target path query × IsAt path found
    × (head ≡ head_at found (verb_in method) (is_some query))

-- a media type, compared without regard to the case of ASCII letters; an absent one is accepted
abbrev pub is_yang_json : Option (List ℕ) → Bool
is_yang_json None = true
is_yang_json (Some media) = bytes_eq (map to_ascii_lowercase media) (map to_ascii_lowercase (codes "application/yang-data+json"))

-- a fault of a body as a refusal
abbrev pub reject_of : ListFault → RestReject
reject_of faults.NoMemory = reject.NoMemory
reject_of (faults.Missing member) = reject.Body (faults.Missing member)
reject_of (faults.Invalid member) = reject.Body (faults.Invalid member)
reject_of faults.Unknown = reject.Body faults.Unknown
