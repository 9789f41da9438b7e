-- What stands in each request that is read.
use Rattle.std.proofs.Common.{◌≡◌, ℕ, ◌≤◌, zero, suc, ℤ, arith, Bool, true, false, cond, List, [], ◌∷◌, Option, None, Some, Result, Ok, Err, length, lit≤, refl, sym, subst, inl, inr}
use Rattle.std.specs.Prelude.{if◌then◌else◌, is_some, IfOk, IfSome, IsTrue, IsSome, ok_or, ◌&&◌, ◌==◌, nat_le, nat_lt, ◌^◌}
use Rattle.std.proofs.Math.Dec.{lt→ltb}
use Rattle.std.proofs.lemmas.Bool.{leb-true}
use Rattle.std.proofs.lemmas.Result.{IfOk-at_ok}
use Rattle.acl_lists.specs.declared.asked.Asked.{Asked}
use Rattle.cbor_profile.specs.Kind.{items_in}
use Rattle.cbor_profile.specs.Tree.{Tree, unsigned, negative, byte_string, text, array, mapping, tag, boolean, null, Trees, no_items, item, count}
use Rattle.coap_message.specs.Message.{CoapMessage}
use Rattle.lifetime_clock.specs.Lifetime.{IsLifetime}
use Rattle.dots_keys.specs.declared.operation.Method.{Method}
use Rattle.dots_keys.specs.declared.operation.Method.TheVariants as method
use Rattle.dots_keys.specs.declared.reject.Reject.{Reject}
use Rattle.dots_keys.specs.declared.reject.Reject.TheVariants as reject
use Rattle.dots_keys.specs.declared.request.ConfigBody.{ConfigBody}
use Rattle.dots_keys.specs.declared.head_request.Content.{Content}
use Rattle.dots_keys.specs.declared.head_request.MitigationPath.{MitigationPath}
use Rattle.dots_keys.specs.declared.head_request.Observe.{Observe}
use Rattle.dots_keys.specs.declared.request.Request.{Request}
use Rattle.dots_keys.specs.declared.request.Request.TheVariants as request
use Rattle.dots_keys.specs.declared.scope.Scope.{Scope}
use Rattle.dots_keys.specs.declared.scope.ScopeKey.{ScopeKey}
use Rattle.dots_keys.specs.declared.scope.ScopeKey.TheVariants as scope_key
use Rattle.dots_keys.specs.Askable.{NamesClient, NamesMitigation, AreFew, IsAskableBody, OffersSome, IsAskable}
use Rattle.dots_keys.specs.Configurations.{no_config, config_field, some_config, signal_config, configuration_of, offers_nothing}
use Rattle.dots_keys.specs.Fields.{Field, known, unknown, fields_of, each_field, first_field, ended_with, sole_field}
use Rattle.dots_keys.specs.Heads.{Head, refuse_critical, refuse_hop_limit, refuse_media, refuse_format, content_of, head_of}
use Rattle.dots_keys.specs.Heartbeats.{heartbeat_of}
use Rattle.dots_keys.specs.Lifetimes.{HasLifetime}
use Rattle.dots_keys.specs.Meaning.{AnswersBody, Completes, ReadsAs, put_mitigation_with, put_config_with, put_heartbeat_with}
use Rattle.dots_keys.specs.Mitigations.{each_item, at_most, array_under, prefix_of, range_of, protocol_of, name_of, lifetime_of, trigger_of, scope_key_of, take_target, scope_field, nothing_asked, has_target, with_lifetime, whole_scope, scope_of, only_item, only_scope, mitigation_of}
use Rattle.dots_keys.specs.Operations.{Operation, put_mitigation, get_mitigation, delete_mitigation, put_config, get_config, delete_config, put_heartbeat, method_of, is_client_name, client_name, identifier, optional, mandatory, domain_of, mitigation_path, with_mid, mitigation_operation, config_operation, operation_of}
use Rattle.dots_keys.specs.Options.{first_critical, value_of, values_of}
use Rattle.dots_keys.specs.Paths.{Resource, mitigation, config, heartbeat, resource_at}
use Rattle.dots_keys.specs.Results.{◌>>=◌, invalid, missing, UnlessNoMemory}
use Rattle.acl_lists.specs.declared.limits.TheConstants.{MAX_ITEMS, MAX_NAMES}

-- ---- what a reading gives

-- what holds of all that the second step gives holds of what both give
pub then_ok : {A B : Type 0} (r : Result A Reject) (f : A → Result B Reject) (Q : B → Type 0) → ((x : A) → IfOk (f x) Q) → IfOk (r >>= f) Q
then_ok (Ok x) f Q later = later x
then_ok (Err e) f Q later = tt

-- the same where the second step's rests on a fact of what the first gives
pub fact_then_ok : {A B : Type 0} (r : Result A Reject) (f : A → Result B Reject) (P : A → Type 0) (Q : B → Type 0) → IfOk r P → ((x : A) → P x → IfOk (f x) Q) → IfOk (r >>= f) Q
fact_then_ok (Ok x) f P Q first later = later x first
fact_then_ok (Err e) f P Q first later = tt

-- what holds of a value by another fact of it
fact_ok : {A : Type 0} (r : Result A Reject) (P Q : A → Type 0) → IfOk r P → ((x : A) → P x → Q x) → IfOk r Q
fact_ok (Ok x) P Q first later = later x first
fact_ok (Err e) P Q first later = tt

cond_ok : {A : Type 0} (b : Bool) (r s : Result A Reject) (P : A → Type 0) → IfOk r P → IfOk s P → IfOk (cond b r s) P
cond_ok true r s P one other = one
cond_ok false r s P one other = other

ended_ok : {A : Type 0} (said : A) (fields : List Field) (P : A → Type 0) → P said → IfOk (ended_with said fields) P
ended_ok said [] P is = is
ended_ok said (field ∷ fields) P is = tt

pub sole_ok : {A : Type 0} (under key : ℕ) (read : Tree → Result A Reject) (P : A → Type 0) → ((tree : Tree) → IfOk (read tree) P) → (tree : Tree) → IfOk (sole_field under key read tree) P
sole_ok under key read P each tree =
    then_ok (fields_of under tree) _ P (λ fields.
    then_ok (first_field key fields) _ P (λ first.
    fact_then_ok (read first.0) _ P P (each first.0) (λ value is. ended_ok value first.1 P is)))

-- the same where the one that is taken knows how it was chosen
chosen_ok : {A : Type 0} (b : Bool) (r s : Result A Reject) (P : A → Type 0) → (b ≡ true → IfOk r P) → (b ≡ false → IfOk s P) → IfOk (cond b r s) P
chosen_ok true r s P one other = one refl
chosen_ok false r s P one other = other refl

-- ---- arrays

each_length : {A : Type 0} (read : Tree → Result A Reject) (trees : Trees) → IfOk (each_item read trees) (λ values. length values ≡ count trees)
each_length read no_items = refl
each_length {A} read (item tree trees) =
    then_ok (read tree) _ (λ values. length values ≡ suc (count trees)) (λ value.
    fact_then_ok (each_item read trees) _ (λ values. length values ≡ count trees) (λ values. length values ≡ suc (count trees)) (each_length read trees) (λ values same. λ i. suc (same i)))

fits_most : (most : ℕ) (trees : Option Trees) (refusal : Reject) → IfOk (ok_or (at_most most trees) refusal) (λ found. count found ≤ most)
fits_most most None refusal = tt
fits_most most (Some trees) refusal = chosen (nat_le (count trees) most) refl
  where
    chosen : (b : Bool) → nat_le (count trees) most ≡ b → IfOk (ok_or (if b then Some trees else None) refusal) (λ found. count found ≤ most)
    chosen true is = leb-true (count trees) most is
    chosen false is = tt

array_ok : {A : Type 0} (key most : ℕ) (read : Tree → Result A Reject) (tree : Tree) → IfOk (array_under key most read tree) (λ values. length values ≤ most)
array_ok key most read tree =
    fact_then_ok (ok_or (at_most most (items_in tree)) (invalid key)) (each_item read) (λ trees. count trees ≤ most) (λ values. length values ≤ most) (fits_most most (items_in tree) (invalid key))
    (λ trees fits. fact_ok (each_item read trees) (λ values. length values ≡ count trees) (λ values. length values ≤ most) (each_length read trees) (λ values same. omega (arith, same, fits)))

-- ---- the scope

lifetime_ok : (tree : Tree) → IfOk (lifetime_of tree) IsLifetime
lifetime_ok (unsigned zero) = tt
lifetime_ok (unsigned (suc n)) = cond_ok (nat_le 1 (suc n) && nat_lt (suc n) (2 ^ 31)) _ _ IsLifetime (inr (omega (arith, lt→ltb))) tt
lifetime_ok (negative n) = cond_ok (n == 0) _ _ IsLifetime (inl refl) tt
lifetime_ok (byte_string bytes) = tt
lifetime_ok (text bytes) = tt
lifetime_ok (array items) = tt
lifetime_ok (mapping pairs) = tt
lifetime_ok (tag n inner) = tt
lifetime_ok (boolean value) = tt
lifetime_ok null = tt

-- what was said so far
record Says (said : Scope) : Type 0 where
  few : AreFew said.asked
  lifetime : IfSome said.lifetime IsLifetime

take_ok : (gateway : Bool) (key : Option ScopeKey) (said : Scope) (n : ℕ) (tree : Tree) → Says said → IfOk (take_target gateway key said n tree) Says
take_ok gateway (Some scope_key.Prefixes) said n tree is = fact_then_ok (array_under 6 MAX_ITEMS prefix_of tree) _ (λ values. length values ≤ MAX_ITEMS) Says (array_ok 6 MAX_ITEMS prefix_of tree)
    (λ values few. record { few = record { prefixes = few; ports = is.few.ports; protocols = is.few.protocols; names = is.few.names; aliases = is.few.aliases }; lifetime = is.lifetime })
take_ok gateway (Some scope_key.Ports) said n tree is = fact_then_ok (array_under 7 MAX_ITEMS range_of tree) _ (λ values. length values ≤ MAX_ITEMS) Says (array_ok 7 MAX_ITEMS range_of tree)
    (λ values few. record { few = record { prefixes = is.few.prefixes; ports = few; protocols = is.few.protocols; names = is.few.names; aliases = is.few.aliases }; lifetime = is.lifetime })
take_ok gateway (Some scope_key.Protocols) said n tree is = fact_then_ok (array_under 10 MAX_ITEMS protocol_of tree) _ (λ values. length values ≤ MAX_ITEMS) Says (array_ok 10 MAX_ITEMS protocol_of tree)
    (λ values few. record { few = record { prefixes = is.few.prefixes; ports = is.few.ports; protocols = few; names = is.few.names; aliases = is.few.aliases }; lifetime = is.lifetime })
take_ok gateway (Some scope_key.Names) said n tree is = fact_then_ok (array_under 11 MAX_NAMES (name_of 11) tree) _ (λ values. length values ≤ MAX_NAMES) Says (array_ok 11 MAX_NAMES (name_of 11) tree)
    (λ values few. record { few = record { prefixes = is.few.prefixes; ports = is.few.ports; protocols = is.few.protocols; names = few; aliases = is.few.aliases }; lifetime = is.lifetime })
take_ok gateway (Some scope_key.Aliases) said n tree is = fact_then_ok (array_under 13 MAX_NAMES (name_of 13) tree) _ (λ values. length values ≤ MAX_NAMES) Says (array_ok 13 MAX_NAMES (name_of 13) tree)
    (λ values few. record { few = record { prefixes = is.few.prefixes; ports = is.few.ports; protocols = is.few.protocols; names = is.few.names; aliases = few }; lifetime = is.lifetime })
take_ok gateway (Some scope_key.Lifetime) said n tree is = fact_then_ok (lifetime_of tree) _ IsLifetime Says (lifetime_ok tree) (λ lifetime one. record { few = is.few; lifetime = one })
take_ok gateway (Some scope_key.Trigger) said n tree is = then_ok (trigger_of gateway tree) _ Says (λ trigger. record { few = is.few; lifetime = is.lifetime })
take_ok gateway None said n tree is = tt

-- the fields keep that
each_ok : (gateway : Bool) (said : Scope) (fields : List Field) → Says said → IfOk (each_field (scope_field gateway) said fields) Says
each_ok gateway said [] is = is
each_ok gateway said (unknown n ∷ fields) is = tt
each_ok gateway said (known n value ∷ fields) is =
    fact_then_ok (scope_field gateway said n value) _ Says Says (take_ok gateway (scope_key_of n) said n value is) (λ more. each_ok gateway more fields)

nothing_said : Says nothing_asked
nothing_said = record { few = record { prefixes = lit≤ tt; ports = lit≤ tt; protocols = lit≤ tt; names = lit≤ tt; aliases = lit≤ tt }; lifetime = tt }

with_ok : (asked : Asked) (trigger : Bool) (lifetime : Option ℤ) → IsTrue (has_target asked) → AreFew asked → IfSome lifetime IsLifetime → IfOk (with_lifetime asked trigger lifetime) IsAskableBody
with_ok asked trigger None target few is = tt
with_ok asked trigger (Some lifetime) target few is = record { target = target; few = few; lifetime = is }

whole_ok : (said : Scope) → Says said → IfOk (whole_scope said) IsAskableBody
whole_ok said is = chosen_ok (has_target said.asked) _ (Err (missing 6)) IsAskableBody (λ target. with_ok said.asked said.trigger said.lifetime target is.few is.lifetime) (λ _. tt)

scope_ok : (gateway : Bool) (tree : Tree) → IfOk (scope_of gateway tree) IsAskableBody
scope_ok gateway tree =
    then_ok (fields_of 2 tree) _ IsAskableBody (λ fields.
    fact_then_ok (each_field (scope_field gateway) nothing_asked fields) whole_scope Says IsAskableBody (each_ok gateway nothing_asked fields nothing_said) whole_ok)

only_ok : (gateway : Bool) (tree : Tree) → IfOk (only_scope gateway tree) IsAskableBody
only_ok gateway tree = then_ok (ok_or (only_item (items_in tree)) (invalid 2)) (scope_of gateway) IsAskableBody (scope_ok gateway)

mitigation_ok : (gateway : Bool) (tree : Tree) → IfOk (mitigation_of gateway tree) IsAskableBody
mitigation_ok gateway = sole_ok 0 1 (sole_field 1 2 (only_scope gateway)) IsAskableBody (sole_ok 1 2 (only_scope gateway) IsAskableBody (only_ok gateway))

-- ---- the configuration

some_ok : (body : ConfigBody) → IfOk (some_config body) OffersSome
some_ok body = chosen_ok (offers_nothing body.mitigating && offers_nothing body.idle) _ _ OffersSome (λ _. tt) (λ some. some)

signal_ok : (tree : Tree) → IfOk (signal_config tree) OffersSome
signal_ok tree =
    then_ok (fields_of 30 tree) _ OffersSome (λ fields.
    then_ok (each_field config_field no_config fields) some_config OffersSome some_ok)

config_ok : (tree : Tree) → IfOk (configuration_of tree) OffersSome
config_ok = sole_ok 0 30 signal_config OffersSome signal_ok

-- ---- the head

client_ok : (bytes : List ℕ) → IfOk (client_name bytes) (λ name. IsTrue (is_client_name name))
client_ok bytes = chosen_ok (is_client_name bytes) _ _ (λ name. IsTrue (is_client_name name)) (λ is. is) (λ _. tt)

abbrev NamesDomain : Option (List ℕ) → Type 0
NamesDomain domain = IfSome domain (λ cdid. IsTrue (is_client_name cdid))

domain_ok : (gateway : Bool) (cdid : Option (List ℕ)) → IfOk (domain_of gateway cdid) NamesDomain
domain_ok false cdid = tt
domain_ok true None = tt
domain_ok true (Some bytes) = fact_then_ok (client_name bytes) _ (λ name. IsTrue (is_client_name name)) NamesDomain (client_ok bytes) (λ name is. is)

path_ok : (gateway : Bool) (cdid cuid mid : Option (List ℕ)) → IfOk (mitigation_path gateway cdid cuid mid) NamesClient
path_ok gateway cdid cuid mid =
    fact_then_ok (domain_of gateway cdid) _ NamesDomain NamesClient (domain_ok gateway cdid) (λ domain names.
    then_ok (mandatory cuid) _ NamesClient (λ bytes.
    fact_then_ok (client_name bytes) _ (λ name. IsTrue (is_client_name name)) NamesClient (client_ok bytes) (λ client is.
    then_ok (optional identifier mid) _ NamesClient (λ number. record { cuid = is; cdid = names }))))

mid_ok : (path : MitigationPath) → NamesClient path → IfOk (with_mid path) NamesMitigation
mid_ok path is = by_mid path.mid refl
  where
    by_mid : (mid : Option ℕ) → path.mid ≡ mid → IfOk (mandatory mid >>= λ _. Ok path) NamesMitigation
    by_mid None same = tt
    by_mid (Some n) same = record { client = is; mid = subst (λ (m : Option ℕ). IsSome m) (sym same) refl }

-- what stands in an operation
abbrev pub HasParameters : Operation → Type 0
HasParameters (put_mitigation path) = NamesMitigation path
HasParameters (get_mitigation path) = NamesClient path
HasParameters (delete_mitigation path) = NamesMitigation path
HasParameters (put_config sid) = Unit {0}
HasParameters (get_config sid) = Unit {0}
HasParameters (delete_config sid) = Unit {0}
HasParameters put_heartbeat = Unit {0}

mitigation_operation_ok : (wanted : Method) (path : MitigationPath) → NamesClient path → IfOk (mitigation_operation wanted path) HasParameters
mitigation_operation_ok method.Get path is = is
mitigation_operation_ok method.Put path is = fact_then_ok (with_mid path) _ NamesMitigation HasParameters (mid_ok path is) (λ path is. is)
mitigation_operation_ok method.Delete path is = fact_then_ok (with_mid path) _ NamesMitigation HasParameters (mid_ok path is) (λ path is. is)

config_operation_ok : (wanted : Method) (sid : Option ℕ) → IfOk (config_operation wanted sid) HasParameters
config_operation_ok method.Get sid = tt
config_operation_ok method.Put sid = then_ok (mandatory sid) _ HasParameters (λ sid. tt)
config_operation_ok method.Delete sid = then_ok (mandatory sid) _ HasParameters (λ sid. tt)

operation_ok : (resource : Resource) (wanted : Method) (gateway : Bool) → IfOk (operation_of resource wanted gateway) HasParameters
operation_ok (mitigation cdid cuid mid) wanted gateway =
    fact_then_ok (mitigation_path gateway cdid cuid mid) _ NamesClient HasParameters (path_ok gateway cdid cuid mid) (mitigation_operation_ok wanted)
operation_ok (config sid) wanted gateway = then_ok (optional identifier sid) _ HasParameters (config_operation_ok wanted)
operation_ok heartbeat wanted gateway = tt

abbrev pub HeadHasParameters : Head → Type 0
HeadHasParameters head = HasParameters head.operation

pub head_ok : (message : CoapMessage) (gateway : Bool) → IfOk (head_of message gateway) HeadHasParameters
head_ok message gateway =
    then_ok (refuse_critical (first_critical None message.options)) _ HeadHasParameters (λ _.
    then_ok (ok_or (resource_at (values_of 11 message.options)) reject.Path) _ HeadHasParameters (λ resource.
    then_ok (method_of resource message.code) _ HeadHasParameters (λ wanted.
    then_ok (refuse_hop_limit (value_of 16 message.options)) _ HeadHasParameters (λ _.
    fact_then_ok (operation_of resource wanted gateway) _ HasParameters HeadHasParameters (operation_ok resource wanted gateway) (λ operation is.
    then_ok (refuse_media reject.Accept (value_of 17 message.options)) _ HeadHasParameters (λ _.
    then_ok (refuse_format wanted message.options) _ HeadHasParameters (λ _.
    then_ok (content_of wanted (values_of 15 message.options)) _ HeadHasParameters (λ content. is))))))))

-- ---- the request

body_ok : (payload : List ℕ) (read : Tree → Result Request Reject) (answer : Result Request Reject) → ((tree : Tree) → IfOk (read tree) IsAskable) → AnswersBody payload read answer → IfOk answer IsAskable
body_ok payload read answer each is = rw is.2 (then_ok is.0 read IsAskable each)

completes_ok : (operation : Operation) (content : Content) (observe : Observe) (payload : List ℕ) (answer : Result Request Reject) → HasParameters operation → Completes operation content observe payload answer → IfOk answer IsAskable
completes_ok (put_mitigation path) content observe payload answer names is =
    body_ok payload (put_mitigation_with path) answer (λ tree. fact_then_ok (mitigation_of (is_some path.cdid) tree) _ IsAskableBody IsAskable (mitigation_ok (is_some path.cdid) tree) (λ body one. (names, one))) is
completes_ok (get_mitigation path) content observe payload answer names is = rw is names
completes_ok (delete_mitigation path) content observe payload answer names is = rw is names
completes_ok (put_config sid) content observe payload answer names is =
    body_ok payload (put_config_with sid) answer (λ tree. fact_then_ok (configuration_of tree) _ OffersSome IsAskable (config_ok tree) (λ body some. some)) is
completes_ok (get_config sid) content observe payload answer names is = rw is tt
completes_ok (delete_config sid) content observe payload answer names is = rw is tt
completes_ok put_heartbeat content observe payload answer names is =
    body_ok payload put_heartbeat_with answer (λ tree. then_ok (heartbeat_of tree) _ IsAskable (λ heard. tt)) is

-- the request that answers a message and its payload
pub answered_askable : (message : CoapMessage) (gateway : Bool) (head : Head) (payload : List ℕ) (answer : Result Request Reject) → head_of message gateway ≡ Ok head → UnlessNoMemory answer (ReadsAs (Ok head) payload answer) → IfOk answer IsAskable
answered_askable message gateway head payload (Ok request) read is =
    completes_ok head.operation head.content head.observe payload (Ok request) (IfOk-at_ok HeadHasParameters read (head_ok message gateway)) is
answered_askable message gateway head payload (Err refusal) read is = tt

-- its lifetime
pub askable_lifetime : (asked : Request) → IsAskable asked → HasLifetime asked
askable_lifetime (request.PutMitigation path body) is = is.1.lifetime
askable_lifetime (request.GetMitigation path content observe) is = tt
askable_lifetime (request.DeleteMitigation path) is = tt
askable_lifetime (request.PutConfig sid body) is = tt
askable_lifetime (request.GetConfig sid) is = tt
askable_lifetime (request.DeleteConfig sid) is = tt
askable_lifetime (request.PutHeartbeat heard) is = tt
