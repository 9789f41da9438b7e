-- Who asks for what waits for a lost signal.
use Rattle.std.proofs.Common.{◌≡◌, ℕ, Bool, true, false, List, [], ◌∷◌, Option, None, Some, Result, Ok, Err, refl}
use Rattle.std.specs.Prelude.{IfOk, is_some}
use Rattle.std.proofs.lemmas.Bool.{false≢true}
use Rattle.std.proofs.lemmas.Result.{IfOk-at_ok}
use Rattle.cbor_profile.specs.Kind.{items_in}
use Rattle.cbor_profile.specs.Tree.{Tree, unsigned, negative, byte_string, text, array, mapping, tag, boolean, null}
use Rattle.coap_message.specs.Message.{CoapMessage}
use Rattle.dots_keys.specs.declared.reject.Reject.{Reject}
use Rattle.dots_keys.specs.declared.head_request.Content.{Content}
use Rattle.dots_keys.specs.declared.head_request.Observe.{Observe}
use Rattle.dots_keys.specs.Heads.{Head}
use Rattle.dots_keys.specs.Operations.{Operation, put_mitigation, get_mitigation, delete_mitigation, put_config, get_config, delete_config, put_heartbeat}
use Rattle.dots_keys.specs.Results.{◌>>=◌, invalid, missing}
use Rattle.std.specs.Prelude.{ok_or, if◌then◌else◌}
use Rattle.acl_lists.specs.declared.asked.Asked.{Asked}
use Rattle.std.proofs.Common.{ℤ}
use Rattle.dots_keys.specs.declared.request.MitigationBody.{MitigationBody}
use Rattle.dots_keys.specs.declared.request.Request.{Request}
use Rattle.dots_keys.specs.declared.request.Request.TheVariants as request
use Rattle.dots_keys.specs.declared.scope.Scope.{Scope}
use Rattle.dots_keys.specs.declared.scope.ScopeKey.{ScopeKey}
use Rattle.dots_keys.specs.declared.scope.ScopeKey.TheVariants as scope_key
use Rattle.dots_keys.specs.Configurations.{configuration_of}
use Rattle.dots_keys.specs.Fields.{Field, known, unknown, fields_of, each_field, sole_field}
use Rattle.dots_keys.specs.Heartbeats.{heartbeat_of}
use Rattle.dots_keys.specs.Meaning.{AnswersBody, Completes, ReadsAs, put_mitigation_with, put_config_with, put_heartbeat_with}
use Rattle.dots_keys.specs.Mitigations.{array_under, prefix_of, range_of, protocol_of, name_of, lifetime_of, trigger_of, scope_key_of, take_target, scope_field, nothing_asked, has_target, with_lifetime, whole_scope, scope_of, only_item, only_scope, mitigation_of}
use Rattle.dots_keys.specs.Waiting.{WaitsForClient}
use Rattle.dots_keys.proofs.Askable.{then_ok, fact_then_ok, sole_ok}
use Rattle.dots_keys.specs.Results.{UnlessNoMemory}
use Rattle.acl_lists.specs.declared.limits.TheConstants.{MAX_ITEMS, MAX_NAMES}

-- a gateway asks for nothing that waits
abbrev Fits : Bool → Bool → Type 0
Fits gateway trigger = gateway ≡ true → trigger ≡ true

abbrev SaysFitting : Bool → Scope → Type 0
SaysFitting gateway said = Fits gateway said.trigger

abbrev AsksFitting : Bool → MitigationBody → Type 0
AsksFitting gateway body = Fits gateway body.trigger

trigger_fits : (gateway : Bool) (tree : Tree) → IfOk (trigger_of gateway tree) (Fits gateway)
trigger_fits gateway (boolean true) = λ _. refl
trigger_fits true (boolean false) = tt
trigger_fits false (boolean false) = λ is. absurd (false≢true is)
trigger_fits gateway (unsigned n) = tt
trigger_fits gateway (negative n) = tt
trigger_fits gateway (byte_string bytes) = tt
trigger_fits gateway (text bytes) = tt
trigger_fits gateway (array trees) = tt
trigger_fits gateway (mapping pairs) = tt
trigger_fits gateway (tag n tree) = tt
trigger_fits gateway null = tt

take_fits : (gateway : Bool) (key : Option ScopeKey) (said : Scope) (n : ℕ) (tree : Tree) → SaysFitting gateway said → IfOk (take_target gateway key said n tree) (SaysFitting gateway)
take_fits gateway (Some scope_key.Prefixes) said n tree is = then_ok (array_under 6 MAX_ITEMS prefix_of tree) _ (SaysFitting gateway) (λ _. is)
take_fits gateway (Some scope_key.Ports) said n tree is = then_ok (array_under 7 MAX_ITEMS range_of tree) _ (SaysFitting gateway) (λ _. is)
take_fits gateway (Some scope_key.Protocols) said n tree is = then_ok (array_under 10 MAX_ITEMS protocol_of tree) _ (SaysFitting gateway) (λ _. is)
take_fits gateway (Some scope_key.Names) said n tree is = then_ok (array_under 11 MAX_NAMES (name_of 11) tree) _ (SaysFitting gateway) (λ _. is)
take_fits gateway (Some scope_key.Aliases) said n tree is = then_ok (array_under 13 MAX_NAMES (name_of 13) tree) _ (SaysFitting gateway) (λ _. is)
take_fits gateway (Some scope_key.Lifetime) said n tree is = then_ok (lifetime_of tree) _ (SaysFitting gateway) (λ _. is)
take_fits gateway (Some scope_key.Trigger) said n tree is = fact_then_ok (trigger_of gateway tree) _ (Fits gateway) (SaysFitting gateway) (trigger_fits gateway tree) (λ trigger fits. fits)
take_fits gateway None said n tree is = tt

each_fits : (gateway : Bool) (said : Scope) (fields : List Field) → SaysFitting gateway said → IfOk (each_field (scope_field gateway) said fields) (SaysFitting gateway)
each_fits gateway said [] is = is
each_fits gateway said (unknown n ∷ fields) is = tt
each_fits gateway said (known n value ∷ fields) is =
    fact_then_ok (scope_field gateway said n value) _ (SaysFitting gateway) (SaysFitting gateway) (take_fits gateway (scope_key_of n) said n value is) (λ more. each_fits gateway more fields)

with_fits : (gateway : Bool) (asked : Asked) (trigger : Bool) (lifetime : Option ℤ) → Fits gateway trigger → IfOk (with_lifetime asked trigger lifetime) (AsksFitting gateway)
with_fits gateway asked trigger None is = tt
with_fits gateway asked trigger (Some lifetime) is = is

whole_fits : (gateway : Bool) (said : Scope) → SaysFitting gateway said → IfOk (whole_scope said) (AsksFitting gateway)
whole_fits gateway said is = by_target (has_target said.asked)
  where
    by_target : (b : Bool) → IfOk (if b then with_lifetime said.asked said.trigger said.lifetime else Err (missing 6)) (AsksFitting gateway)
    by_target true = with_fits gateway said.asked said.trigger said.lifetime is
    by_target false = tt

scope_fits : (gateway : Bool) (tree : Tree) → IfOk (scope_of gateway tree) (AsksFitting gateway)
scope_fits gateway tree =
    then_ok (fields_of 2 tree) _ (AsksFitting gateway) (λ fields.
    fact_then_ok (each_field (scope_field gateway) nothing_asked fields) whole_scope (SaysFitting gateway) (AsksFitting gateway) (each_fits gateway nothing_asked fields (λ _. refl)) (whole_fits gateway))

mitigation_fits : (gateway : Bool) (tree : Tree) → IfOk (mitigation_of gateway tree) (AsksFitting gateway)
mitigation_fits gateway =
    sole_ok 0 1 (sole_field 1 2 (only_scope gateway)) (AsksFitting gateway) (sole_ok 1 2 (only_scope gateway) (AsksFitting gateway)
    (λ tree. then_ok (ok_or (only_item (items_in tree)) (invalid 2)) (scope_of gateway) (AsksFitting gateway) (scope_fits gateway)))

-- ---- the request

body_waits : (payload : List ℕ) (read : Tree → Result Request Reject) (answer : Result Request Reject) → ((tree : Tree) → IfOk (read tree) WaitsForClient) → AnswersBody payload read answer → IfOk answer WaitsForClient
body_waits payload read answer each is = rw is.2 (then_ok is.0 read WaitsForClient each)

completes_waits : (operation : Operation) (content : Content) (observe : Observe) (payload : List ℕ) (answer : Result Request Reject) → Completes operation content observe payload answer → IfOk answer WaitsForClient
completes_waits (put_mitigation path) content observe payload answer is =
    body_waits payload (put_mitigation_with path) answer
    (λ tree. fact_then_ok (mitigation_of (is_some path.cdid) tree) _ (AsksFitting (is_some path.cdid)) WaitsForClient (mitigation_fits (is_some path.cdid) tree) (λ body fits. fits)) is
completes_waits (get_mitigation path) content observe payload answer is = rw is tt
completes_waits (delete_mitigation path) content observe payload answer is = rw is tt
completes_waits (put_config sid) content observe payload answer is =
    body_waits payload (put_config_with sid) answer (λ tree. then_ok (configuration_of tree) _ WaitsForClient (λ body. tt)) is
completes_waits (get_config sid) content observe payload answer is = rw is tt
completes_waits (delete_config sid) content observe payload answer is = rw is tt
completes_waits put_heartbeat content observe payload answer is =
    body_waits payload put_heartbeat_with answer (λ tree. then_ok (heartbeat_of tree) _ WaitsForClient (λ heard. tt)) is

-- the request that answers a head and a payload
pub answered_waits : (head : Head) (payload : List ℕ) (answer : Result Request Reject) → UnlessNoMemory answer (ReadsAs (Ok head) payload answer) → IfOk answer WaitsForClient
answered_waits head payload (Ok request) read = completes_waits head.operation head.content head.observe payload (Ok request) read
answered_waits head payload (Err refusal) read = tt
