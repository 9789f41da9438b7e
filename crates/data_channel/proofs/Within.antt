-- What a message asks is within bounds.
use Rattle.std.proofs.Common.{◌≡◌, ℕ, Bool, true, false, cond, List, Option, Some, None, Result, Ok, Err, refl, sym, subst}
use Rattle.std.specs.Prelude.{⊤, codes, ok_or}
use Rattle.std.specs.Bool.{MatchBool}
use Rattle.dots_lists.specs.Name.{is_name}
use Rattle.percent_encoding.specs.Percent.{percent_decode}
use Rattle.acl_lists.specs.declared.alias.Alias.{Alias}
use Rattle.acl_lists.specs.declared.acl.Acl.{Acl}
use Rattle.http_cut.specs.Requests.{Request}
use Rattle.serde_json.specs.Data.{Data}
use Rattle.serde_json.specs.Find.{get}
use Rattle.list_json.specs.declared.fault.Member.TheVariants as the
use Rattle.list_json.specs.declared.fault.ListFault.{ListFault}
use Rattle.list_json.specs.declared.shape.Shape.TheVariants as shape
use Rattle.list_json.specs.Aliases.{alias_in}
use Rattle.list_json.specs.Lists.{acl_in}
use Rattle.list_json.specs.Shapes.{whole_object}
use Rattle.list_json.specs.Steps.{◌>>=◌, needed}
use Rattle.list_json.specs.Values.{name_of}
use Rattle.list_json.specs.Within.{IsAliasWithin, IsAclWithin}
use Rattle.list_json.proofs.Again.{name_bound}
use Rattle.list_json.proofs.Within.{alias_within, acl_within}
use Rattle.data_channel.specs.declared.place.Kind.{Kind}
use Rattle.data_channel.specs.declared.place.Kind.TheVariants as kind
use Rattle.data_channel.specs.declared.reject.RestReject.{RestReject}
use Rattle.data_channel.specs.declared.reject.RestReject.TheVariants as reject
use Rattle.data_channel.specs.declared.request.Head.{Head}
use Rattle.data_channel.specs.declared.request.Head.TheVariants.{Plain, Wants}
use Rattle.data_channel.specs.declared.request.Resource.{Resource}
use Rattle.data_channel.specs.declared.request.Resource.TheVariants as resource
use Rattle.data_channel.specs.declared.request.RestRequest.{RestRequest}
use Rattle.data_channel.specs.declared.request.RestRequest.TheVariants as request
use Rattle.data_channel.specs.declared.request.Verb.{Verb}
use Rattle.data_channel.specs.declared.request.Verb.TheVariants as verb
use Rattle.data_channel.specs.declared.request.Wanted.{Wanted}
use Rattle.data_channel.specs.declared.request.Wanted.TheVariants as wanted
use Rattle.data_channel.specs.Heads as heads
use Rattle.data_channel.specs.Heads.{name_in_path, resource_of, ignored_query, head_with, head_at, verb_in, is_yang_json}
use Rattle.data_channel.specs.Paths.{Place}
use Rattle.data_channel.specs.Bodies.{sole_item, client_in, spelled_alias, alias_body, spelled_acl, acl_body, same_name, names_acl, posted, whole_request}
use Rattle.data_channel.specs.Rest.{IsJson, rest_result, with_json, IsAnswer, ByHead, Rest}
use Rattle.data_channel.specs.Within.{IsNamed, IsWithin}

-- ---- the head

-- it holds of what the head is
abbrev Meets : {A : Type 0} → (A → Type 0) → Result A RestReject → Type 0
Meets P (Ok a) = P a
Meets P (Err e) = ⊤

behind : {A B : Type 0} (P : A → Type 0) (Q : B → Type 0) (read : Result A RestReject) (next : A → Result B RestReject) → Meets P read → ((a : A) → P a → Meets Q (next a)) → Meets Q (heads.◌>>=◌ read next)
behind P Q (Ok a) next holds leads = leads a holds
behind P Q (Err e) next holds leads = tt

behind_any : {A B : Type 0} (Q : B → Type 0) (read : Result A RestReject) (next : A → Result B RestReject) → ((a : A) → Meets Q (next a)) → Meets Q (heads.◌>>=◌ read next)
behind_any Q (Ok a) next leads = leads a
behind_any Q (Err e) next leads = tt

abbrev Named : List ℕ → Type 0
Named cuid = IsNamed cuid

abbrev NamedResource : Resource → Type 0
NamedResource resource.Root = ⊤
NamedResource (resource.Client cuid) = Named cuid
NamedResource (resource.Aliases cuid) = Named cuid
NamedResource (resource.Alias cuid name) = Named cuid
NamedResource (resource.Acls cuid) = Named cuid
NamedResource (resource.Acl cuid name) = Named cuid

abbrev NamedWanted : Wanted → Type 0
NamedWanted wanted.PostClient = ⊤
NamedWanted (wanted.PutClient cuid) = Named cuid
NamedWanted (wanted.PostBelow cuid) = Named cuid
NamedWanted (wanted.PutAlias cuid name) = Named cuid
NamedWanted (wanted.PutAcl cuid name) = Named cuid

abbrev Within : RestRequest → Type 0
Within asked = IsWithin asked

abbrev HeadWithin : Head → Type 0
HeadWithin (Plain asked) = Within asked
HeadWithin (Wants asks) = NamedWanted asks

checked : (name : List ℕ) (test : Bool) → is_name name ≡ test → Meets Named (cond test (Ok name) (Err reject.BadName))
checked name true good = good
checked name false bad = tt

path_named : (segment : List ℕ) → Meets Named (name_in_path segment)
path_named segment = checked (percent_decode segment) (is_name (percent_decode segment)) refl

resource_named : (place : Place) → Meets NamedResource (resource_of place)
resource_named place = by_kind place.kind
  where
    by_kind : (k : Kind) → Meets NamedResource (resource_of (record { kind = k; client = place.client; name = place.name }))
    by_kind kind.Root = tt
    by_kind kind.Client = behind Named NamedResource (name_in_path place.client) (λ cuid. Ok (resource.Client cuid)) (path_named place.client) (λ cuid named. named)
    by_kind kind.Aliases = behind Named NamedResource (name_in_path place.client) (λ cuid. Ok (resource.Aliases cuid)) (path_named place.client) (λ cuid named. named)
    by_kind kind.Alias =
        behind Named NamedResource (name_in_path place.client) (λ cuid. heads.◌>>=◌ (name_in_path place.name) (λ name. Ok (resource.Alias cuid name))) (path_named place.client) (λ cuid named.
        behind_any NamedResource (name_in_path place.name) (λ name. Ok (resource.Alias cuid name)) (λ name. named))
    by_kind kind.Acls = behind Named NamedResource (name_in_path place.client) (λ cuid. Ok (resource.Acls cuid)) (path_named place.client) (λ cuid named. named)
    by_kind kind.Acl =
        behind Named NamedResource (name_in_path place.client) (λ cuid. heads.◌>>=◌ (name_in_path place.name) (λ name. Ok (resource.Acl cuid name))) (path_named place.client) (λ cuid named.
        behind_any NamedResource (name_in_path place.name) (λ name. Ok (resource.Acl cuid name)) (λ name. named))

with_within : (sought : Resource) (asked : Option Verb) → NamedResource sought → Meets HeadWithin (head_with sought asked)
with_within resource.Root None named = tt
with_within resource.Root (Some verb.Get) named = tt
with_within resource.Root (Some verb.Put) named = tt
with_within resource.Root (Some verb.Post) named = tt
with_within resource.Root (Some verb.Delete) named = tt
with_within (resource.Client cuid) None named = tt
with_within (resource.Client cuid) (Some verb.Get) named = named
with_within (resource.Client cuid) (Some verb.Put) named = named
with_within (resource.Client cuid) (Some verb.Post) named = named
with_within (resource.Client cuid) (Some verb.Delete) named = named
with_within (resource.Aliases cuid) None named = tt
with_within (resource.Aliases cuid) (Some verb.Get) named = named
with_within (resource.Aliases cuid) (Some verb.Put) named = tt
with_within (resource.Aliases cuid) (Some verb.Post) named = tt
with_within (resource.Aliases cuid) (Some verb.Delete) named = tt
with_within (resource.Alias cuid name) None named = tt
with_within (resource.Alias cuid name) (Some verb.Get) named = named
with_within (resource.Alias cuid name) (Some verb.Put) named = named
with_within (resource.Alias cuid name) (Some verb.Post) named = tt
with_within (resource.Alias cuid name) (Some verb.Delete) named = named
with_within (resource.Acls cuid) None named = tt
with_within (resource.Acls cuid) (Some verb.Get) named = named
with_within (resource.Acls cuid) (Some verb.Put) named = tt
with_within (resource.Acls cuid) (Some verb.Post) named = tt
with_within (resource.Acls cuid) (Some verb.Delete) named = tt
with_within (resource.Acl cuid name) None named = tt
with_within (resource.Acl cuid name) (Some verb.Get) named = named
with_within (resource.Acl cuid name) (Some verb.Put) named = named
with_within (resource.Acl cuid name) (Some verb.Post) named = tt
with_within (resource.Acl cuid name) (Some verb.Delete) named = named

at_within : (found : Option Place) (asked : Option Verb) (query : Bool) → Meets HeadWithin (head_at found asked query)
at_within found asked query =
    behind_any HeadWithin (ok_or found reject.NotFound) _ (λ place.
    behind NamedResource HeadWithin (resource_of place) _ (resource_named place) (λ sought named.
    behind_any HeadWithin (ignored_query asked query) _ (λ done. with_within sought asked named)))

-- ---- the body

-- it holds of what was read
abbrev Reads : {A : Type 0} → (A → Type 0) → Result A ListFault → Type 0
Reads P (Ok a) = P a
Reads P (Err e) = ⊤

of_read : {A : Type 0} (P : A → Type 0) (read : Result A ListFault) → ((a : A) → read ≡ Ok a → P a) → Reads P read
of_read P (Ok a) leads = leads a refl
of_read P (Err e) leads = tt

then : {A B : Type 0} (P : A → Type 0) (Q : B → Type 0) (read : Result A ListFault) (next : A → Result B ListFault) → Reads P read → ((a : A) → P a → Reads Q (next a)) → Reads Q (read >>= next)
then P Q (Ok a) next holds leads = leads a holds
then P Q (Err e) next holds leads = tt

then_any : {A B : Type 0} (Q : B → Type 0) (read : Result A ListFault) (next : A → Result B ListFault) → ((a : A) → Reads Q (next a)) → Reads Q (read >>= next)
then_any Q (Ok a) next leads = leads a
then_any Q (Err e) next leads = tt

abbrev AliasWithin : Alias → Type 0
AliasWithin alias = IsAliasWithin alias

abbrev AclWithin : Acl → Type 0
AclWithin acl = IsAclWithin acl

cuid_named : (o : Option Data) → Reads Named (needed the.Cuid (name_of the.Cuid) o)
cuid_named None = tt
cuid_named (Some d) = of_read Named (name_of the.Cuid d) (λ name is. name_bound the.Cuid d name is)

client_named : (d : Data) → Reads Named (client_in d)
client_named d =
    then_any Named (whole_object shape.ClientBody the.DotsClient d) _ (λ done.
    then_any Named (needed the.DotsClient (sole_item the.DotsClient) (get (codes "ietf-dots-data-channel:dots-client") d)) _ (λ client.
    then_any Named (whole_object shape.Client the.DotsClient client) _ (λ whole. cuid_named (get (codes "cuid") client))))

alias_of_body : (d : Data) → Reads AliasWithin (alias_body d)
alias_of_body d =
    then_any AliasWithin (whole_object shape.AliasBody the.Alias d) _ (λ done.
    then_any AliasWithin (spelled_alias (get (codes "ietf-dots-data-channel:alias") d) (get (codes "ietf-dots-data-channel:aliases") d)) _ (λ alias.
    of_read AliasWithin (alias_in alias) (alias_within alias)))

acl_of_body : (d : Data) → Reads AclWithin (acl_body d)
acl_of_body d =
    then_any AclWithin (whole_object shape.AclBody the.Acl d) _ (λ done.
    then_any AclWithin (spelled_acl (get (codes "ietf-dots-data-channel:acl") d) (get (codes "ietf-dots-data-channel:acls") d)) _ (λ acl.
    of_read AclWithin (acl_in acl) (acl_within acl)))

either : (b : Bool) (one other : Result RestRequest ListFault) → Reads Within one → Reads Within other → Reads Within (cond b one other)
either true one other is also = is
either false one other is also = also

posted_within : (cuid : List ℕ) (d : Data) → Named cuid → Reads Within (posted cuid d)
posted_within cuid d named =
    either
    (names_acl d)
    (acl_body d >>= (λ acl. Ok (request.PostAcl cuid acl)))
    (alias_body d >>= (λ alias. Ok (request.PostAlias cuid alias)))
    (then AclWithin Within (acl_body d) (λ acl. Ok (request.PostAcl cuid acl)) (acl_of_body d) (λ acl within. (named, within)))
    (then AliasWithin Within (alias_body d) (λ alias. Ok (request.PostAlias cuid alias)) (alias_of_body d) (λ alias within. (named, within)))

whole_within : (asks : Wanted) (d : Data) → NamedWanted asks → Reads Within (whole_request asks d)
whole_within wanted.PostClient d named = then Named Within (client_in d) (λ cuid. Ok (request.PostClient cuid)) (client_named d) (λ cuid given. given)
whole_within (wanted.PutClient cuid) d named =
    then_any Within (client_in d) (λ given. same_name the.Cuid cuid given >>= λ _. Ok (request.PutClient cuid)) (λ given.
    then_any Within (same_name the.Cuid cuid given) (λ _. Ok (request.PutClient cuid)) (λ done. named))
whole_within (wanted.PostBelow cuid) d named = posted_within cuid d named
whole_within (wanted.PutAlias cuid name) d named =
    then AliasWithin Within (alias_body d) (λ alias. same_name the.Name name alias.name >>= λ _. Ok (request.PutAlias cuid alias)) (alias_of_body d) (λ alias within.
    then_any Within (same_name the.Name name alias.name) (λ _. Ok (request.PutAlias cuid alias)) (λ done. (named, within)))
whole_within (wanted.PutAcl cuid name) d named =
    then AclWithin Within (acl_body d) (λ acl. same_name the.Name name acl.name >>= λ _. Ok (request.PutAcl cuid acl)) (acl_of_body d) (λ acl within.
    then_any Within (same_name the.Name name acl.name) (λ _. Ok (request.PutAcl cuid acl)) (λ done. (named, within)))

-- ---- both

ok_same : (a b : RestRequest) → ◌≡◌ {A = Result RestRequest RestReject} (Ok a) (Ok b) → a ≡ b
ok_same a b is = cc

read_within : (read : Result RestRequest ListFault) (asked : RestRequest) → Reads Within read → Ok asked ≡ rest_result read → IsWithin asked
read_within (Ok other) asked within is = subst (λ (r : RestRequest). IsWithin r) (sym (ok_same asked other is)) within
read_within (Err fault) asked within is = absurd (cc)

json_within : (asks : Wanted) (json : Option Data) (asked : RestRequest) → NamedWanted asks → Ok asked ≡ with_json asks json → IsWithin asked
json_within asks None asked named is = absurd (cc)
json_within asks (Some d) asked named is = read_within (whole_request asks d) asked (whole_within asks d named) is

answer_within : (asks : Wanted) (media : Option (List ℕ)) (body : List ℕ) (asked : RestRequest) → NamedWanted asks → IsAnswer asks media body (Ok asked) → IsWithin asked
answer_within asks media body asked named is = by_media (is_yang_json media) is
  where
    by_media : (b : Bool) → MatchBool b ((json : Option Data) × IsJson body json × (Ok asked ≡ with_json asks json)) (Ok asked ≡ Err reject.Media) → IsWithin asked
    by_media true is = json_within asks is.0 asked named is.2
    by_media false is = absurd (cc)

head_within : (head : Result Head RestReject) (media : Option (List ℕ)) (body : List ℕ) (asked : RestRequest) → Meets HeadWithin head → ByHead head media body (Ok asked) → IsWithin asked
head_within (Err e) media body asked within is = absurd (cc)
head_within (Ok (Plain other)) media body asked within is = subst (λ (r : RestRequest). IsWithin r) (sym (ok_same asked other is)) within
head_within (Ok (Wants asks)) media body asked within is = answer_within asks media body asked within is

pub asked_within : (message : Request) (asked : RestRequest) → Rest message (Ok asked) → IsWithin asked
asked_within message asked is =
    let at = is.1 in
    head_within is.0 message.media message.body asked (subst (λ (h : Result Head RestReject). Meets HeadWithin h) (sym at.5) (at_within at.2 (verb_in message.method) _)) is.2
