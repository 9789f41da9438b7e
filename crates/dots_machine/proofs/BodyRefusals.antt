-- What a body is refused for is a cause of the body.
use Rattle.std.proofs.Common.{◌≡◌, ℕ, ℤ, Bool, true, false, cond, List, [], ◌∷◌, Option, Some, None, Result, Ok, Err, sym, subst, is_some}
use Rattle.std.specs.Prelude.{ok_or, ◌==◌, nat_le, nat_lt, ◌&&◌, ◌^◌}
use Rattle.cbor_profile.specs.Tree.{Tree, unsigned, negative, byte_string, text, array, mapping, tag, boolean, null, Trees, no_items, item, Pairs}
use Rattle.cbor_profile.specs.Kind.{number_in, text_in, items_in, pairs_in}
use Rattle.acl_lists.specs.declared.asked.Asked.{Asked}
use Rattle.acl_lists.specs.declared.limits.TheConstants.{MAX_ITEMS, MAX_NAMES}
use Rattle.dots_keys.specs.declared.reject.Reject.{Reject}
use Rattle.dots_keys.specs.declared.reject.Reject.TheVariants as reject
use Rattle.dots_keys.specs.declared.head_request.Content.{Content}
use Rattle.dots_keys.specs.declared.head_request.Observe.{Observe}
use Rattle.dots_keys.specs.Operations.{Operation, put_mitigation, get_mitigation, delete_mitigation, put_config, get_config, delete_config, put_heartbeat}
use Rattle.dots_keys.specs.Results.{◌>>=◌, invalid}
use Rattle.dots_keys.specs.declared.request.Request.{Request}
use Rattle.dots_keys.specs.declared.request.Offer.{Offer}
use Rattle.dots_keys.specs.declared.request.ConfigBody.{ConfigBody}
use Rattle.dots_keys.specs.declared.offer.OfferKey.{OfferKey}
use Rattle.dots_keys.specs.declared.offer.OfferKey.TheVariants as offer_key
use Rattle.dots_keys.specs.declared.configuration.ConfigKey.{ConfigKey}
use Rattle.dots_keys.specs.declared.configuration.ConfigKey.TheVariants as config_key
use Rattle.dots_keys.specs.declared.scope.Scope.{Scope}
use Rattle.dots_keys.specs.declared.scope.ScopeKey.{ScopeKey}
use Rattle.dots_keys.specs.declared.scope.ScopeKey.TheVariants as scope_key
use Rattle.dots_keys.specs.declared.ports.RangeKey.{RangeKey}
use Rattle.dots_keys.specs.declared.ports.RangeKey.TheVariants as range_key
use Rattle.dots_keys.specs.declared.ports.PortPair.{PortPair}
use Rattle.dots_keys.specs.Fields.{Field, known, unknown, fields_in, all_unsigned, map_fields, fields_of, each_field, first_field, ended_with, sole_field}
use Rattle.dots_keys.specs.Heartbeats.{boolean_in, peer_status, heartbeat_of}
use Rattle.dots_keys.specs.Configurations.{current_value, decimal_in, current_decimal, number_under, decimal_under, take_value, offer_key_of, offer_field, no_offer, offers_nothing, some_offer, offer_under, take_offer, config_key_of, config_field, no_config, some_config, signal_config, configuration_of}
use Rattle.dots_keys.specs.Mitigations.{each_item, at_most, array_under, prefix_of, byte_in, protocol_of, name_in, name_of, port_in, port_of, not_below, take_port, range_key_of, range_field, no_ports, range_between, range_with, range_of, lifetime_of, trigger_of, take_target, scope_key_of, scope_field, nothing_asked, has_target, with_lifetime, whole_scope, scope_of, only_item, only_scope, mitigation_of}
use Rattle.dots_keys.specs.Meaning.{IsBody, AnswersBody, Completes, put_mitigation_with, put_config_with, put_heartbeat_with}

abbrev pub IsBodily : Reject → Type 0
IsBodily (reject.Body cause) = Unit {0}
IsBodily _ = ⊥

abbrev Bodily : {A : Type 0} → Result A Reject → Type 0
Bodily (Ok x) = Unit {0}
Bodily (Err e) = IsBodily e

-- ---- steps
then_bodily : {A B : Type 0} (r : Result A Reject) (f : A → Result B Reject) → Bodily r → ((x : A) → Bodily (f x)) → Bodily (r >>= f)
then_bodily (Ok x) f here more = more x
then_bodily (Err e) f here more = here

or_bodily : {A : Type 0} (o : Option A) (key : ℕ) → Bodily (ok_or o (invalid key))
or_bodily (Some x) key = tt
or_bodily None key = tt

test_bodily : {A : Type 0} (b : Bool) (x y : Result A Reject) → Bodily x → Bodily y → Bodily (cond b x y)
test_bodily true x y one other = one
test_bodily false x y one other = other

-- ---- fields
map_bodily : (under : ℕ) (pairs : Option Pairs) → Bodily (map_fields under pairs)
map_bodily under None = tt
map_bodily under (Some pairs) = test_bodily (all_unsigned pairs) (Ok (fields_in pairs)) (Err (invalid under)) tt tt

each_bodily : {S : Type 0} (take : S → ℕ → Tree → Result S Reject) → ((said : S) (n : ℕ) (tree : Tree) → Bodily (take said n tree)) → (said : S) (fields : List Field) → Bodily (each_field take said fields)
each_bodily take each said [] = tt
each_bodily take each said (unknown n ∷ fields) = tt
each_bodily take each said (known n tree ∷ fields) = then_bodily (take said n tree) (λ more. each_field take more fields) (each said n tree) (λ more. each_bodily take each more fields)

first_bodily : (key : ℕ) (fields : List Field) → Bodily (first_field key fields)
first_bodily key [] = tt
first_bodily key (unknown n ∷ fields) = tt
first_bodily key (known n tree ∷ fields) = test_bodily (n == key) (Ok (tree, fields)) (Err (invalid n)) tt tt

ended_bodily : {A : Type 0} (said : A) (fields : List Field) → Bodily (ended_with said fields)
ended_bodily said [] = tt
ended_bodily said (unknown n ∷ fields) = tt
ended_bodily said (known n tree ∷ fields) = tt

sole_bodily : {A : Type 0} (under key : ℕ) (read : Tree → Result A Reject) → ((tree : Tree) → Bodily (read tree)) → (tree : Tree) → Bodily (sole_field under key read tree)
sole_bodily under key read each tree =
    then_bodily (fields_of under tree) _ (map_bodily under (pairs_in tree))
    (λ fields. then_bodily (first_field key fields) _ (first_bodily key fields)
    (λ first. then_bodily (read first.0) _ (each first.0) (λ value. ended_bodily value first.1)))

-- ---- arrays
items_bodily : {A : Type 0} (read : Tree → Result A Reject) → ((tree : Tree) → Bodily (read tree)) → (trees : Trees) → Bodily (each_item read trees)
items_bodily read each no_items = tt
items_bodily read each (item tree trees) =
    then_bodily (read tree) _ (each tree) (λ value. then_bodily (each_item read trees) (λ values. Ok (value ∷ values)) (items_bodily read each trees) (λ values. tt))

array_bodily : {A : Type 0} (key most : ℕ) (read : Tree → Result A Reject) → ((tree : Tree) → Bodily (read tree)) → (tree : Tree) → Bodily (array_under key most read tree)
array_bodily key most read each tree = then_bodily (ok_or (at_most most (items_in tree)) (invalid key)) (each_item read) (or_bodily (at_most most (items_in tree)) key) (items_bodily read each)

-- ---- mitigations
port_bodily : (key : ℕ) (tree : Tree) → Bodily (port_of key tree)
port_bodily key tree = or_bodily (port_in (number_in tree)) key

below_bodily : (lower : Option ℕ) (upper : ℕ) → Bodily (not_below lower upper)
below_bodily None upper = tt
below_bodily (Some lower) upper = test_bodily (nat_le lower upper) (Ok upper) (Err (invalid 9)) tt tt

take_port_bodily : (key : Option RangeKey) (said : PortPair) (n : ℕ) (tree : Tree) → Bodily (take_port key said n tree)
take_port_bodily (Some range_key.Lower) said n tree = then_bodily (port_of 8 tree) _ (port_bodily 8 tree) (λ port. tt)
take_port_bodily (Some range_key.Upper) said n tree =
    then_bodily (port_of 9 tree) _ (port_bodily 9 tree) (λ port. then_bodily (not_below said.lower port) _ (below_bodily said.lower port) (λ port. tt))
take_port_bodily None said n tree = tt

between_bodily : (lower : ℕ) (upper : Option ℕ) → Bodily (range_between lower upper)
between_bodily lower None = tt
between_bodily lower (Some upper) = then_bodily (not_below (Some lower) upper) _ (below_bodily (Some lower) upper) (λ upper. tt)

with_bodily : (lower upper : Option ℕ) → Bodily (range_with lower upper)
with_bodily None upper = tt
with_bodily (Some lower) upper = between_bodily lower upper

range_bodily : (tree : Tree) → Bodily (range_of tree)
range_bodily tree =
    then_bodily (fields_of 7 tree) _ (map_bodily 7 (pairs_in tree))
    (λ fields. then_bodily (each_field range_field no_ports fields) _ (each_bodily range_field (λ said n tree. take_port_bodily (range_key_of n) said n tree) no_ports fields)
    (λ said. with_bodily said.lower said.upper))

lifetime_bodily : (tree : Tree) → Bodily (lifetime_of tree)
lifetime_bodily (unsigned n) = test_bodily (nat_le 1 n && nat_lt n (2 ^ 31)) _ _ tt tt
lifetime_bodily (negative n) = test_bodily (n == 0) _ _ tt tt
lifetime_bodily (byte_string bytes) = tt
lifetime_bodily (text bytes) = tt
lifetime_bodily (array trees) = tt
lifetime_bodily (mapping pairs) = tt
lifetime_bodily (tag n tree) = tt
lifetime_bodily (boolean b) = tt
lifetime_bodily null = tt

trigger_bodily : (gateway : Bool) (tree : Tree) → Bodily (trigger_of gateway tree)
trigger_bodily gateway (boolean true) = tt
trigger_bodily true (boolean false) = tt
trigger_bodily false (boolean false) = tt
trigger_bodily gateway (unsigned n) = tt
trigger_bodily gateway (negative n) = tt
trigger_bodily gateway (byte_string bytes) = tt
trigger_bodily gateway (text bytes) = tt
trigger_bodily gateway (array trees) = tt
trigger_bodily gateway (mapping pairs) = tt
trigger_bodily gateway (tag n tree) = tt
trigger_bodily gateway null = tt

target_bodily : (gateway : Bool) (key : Option ScopeKey) (said : Scope) (n : ℕ) (tree : Tree) → Bodily (take_target gateway key said n tree)
target_bodily gateway (Some scope_key.Prefixes) said n tree =
    then_bodily (array_under 6 MAX_ITEMS prefix_of tree) _ (array_bodily 6 MAX_ITEMS prefix_of (λ tree. or_bodily _ 6) tree) (λ prefixes. tt)
target_bodily gateway (Some scope_key.Ports) said n tree =
    then_bodily (array_under 7 MAX_ITEMS range_of tree) _ (array_bodily 7 MAX_ITEMS range_of range_bodily tree) (λ ports. tt)
target_bodily gateway (Some scope_key.Protocols) said n tree =
    then_bodily (array_under 10 MAX_ITEMS protocol_of tree) _ (array_bodily 10 MAX_ITEMS protocol_of (λ tree. or_bodily (byte_in (number_in tree)) 10) tree) (λ protocols. tt)
target_bodily gateway (Some scope_key.Names) said n tree =
    then_bodily (array_under 11 MAX_NAMES (name_of 11) tree) _ (array_bodily 11 MAX_NAMES (name_of 11) (λ tree. or_bodily (name_in (text_in tree)) 11) tree) (λ names. tt)
target_bodily gateway (Some scope_key.Aliases) said n tree =
    then_bodily (array_under 13 MAX_NAMES (name_of 13) tree) _ (array_bodily 13 MAX_NAMES (name_of 13) (λ tree. or_bodily (name_in (text_in tree)) 13) tree) (λ aliases. tt)
target_bodily gateway (Some scope_key.Lifetime) said n tree = then_bodily (lifetime_of tree) _ (lifetime_bodily tree) (λ lifetime. tt)
target_bodily gateway (Some scope_key.Trigger) said n tree = then_bodily (trigger_of gateway tree) _ (trigger_bodily gateway tree) (λ trigger. tt)
target_bodily gateway None said n tree = tt

lived_bodily : (asked : Asked) (trigger : Bool) (lifetime : Option ℤ) → Bodily (with_lifetime asked trigger lifetime)
lived_bodily asked trigger None = tt
lived_bodily asked trigger (Some lifetime) = tt

whole_bodily : (said : Scope) → Bodily (whole_scope said)
whole_bodily said = test_bodily (has_target said.asked) (with_lifetime said.asked said.trigger said.lifetime) _ (lived_bodily said.asked said.trigger said.lifetime) tt

scope_bodily : (gateway : Bool) (tree : Tree) → Bodily (scope_of gateway tree)
scope_bodily gateway tree =
    then_bodily (fields_of 2 tree) _ (map_bodily 2 (pairs_in tree))
    (λ fields. then_bodily (each_field (scope_field gateway) nothing_asked fields) _ (each_bodily (scope_field gateway) (λ said n tree. target_bodily gateway (scope_key_of n) said n tree) nothing_asked fields) whole_bodily)

mitigation_bodily : (gateway : Bool) (tree : Tree) → Bodily (mitigation_of gateway tree)
mitigation_bodily gateway tree =
    sole_bodily 0 1 (sole_field 1 2 (only_scope gateway))
    (sole_bodily 1 2 (only_scope gateway)
    (λ tree. then_bodily (ok_or (only_item (items_in tree)) (invalid 2)) (scope_of gateway) (or_bodily (only_item (items_in tree)) 2) (scope_bodily gateway)))
    tree

-- ---- configurations
number_bodily : (key : ℕ) (tree : Tree) → Bodily (number_under key tree)
number_bodily key tree = sole_bodily key 36 current_value (λ tree. or_bodily (number_in tree) 36) tree

decimal_bodily : (key : ℕ) (tree : Tree) → Bodily (decimal_under key tree)
decimal_bodily key tree = sole_bodily key 43 current_decimal (λ tree. or_bodily (decimal_in tree) 43) tree

value_bodily : (key : Option OfferKey) (said : Offer) (n : ℕ) (tree : Tree) → Bodily (take_value key said n tree)
value_bodily (Some offer_key.Interval) said n tree = then_bodily (number_under 33 tree) _ (number_bodily 33 tree) (λ value. tt)
value_bodily (Some offer_key.Missing) said n tree = then_bodily (number_under 37 tree) _ (number_bodily 37 tree) (λ value. tt)
value_bodily (Some offer_key.Retransmit) said n tree = then_bodily (number_under 38 tree) _ (number_bodily 38 tree) (λ value. tt)
value_bodily (Some offer_key.Timeout) said n tree = then_bodily (decimal_under 39 tree) _ (decimal_bodily 39 tree) (λ value. tt)
value_bodily (Some offer_key.Factor) said n tree = then_bodily (decimal_under 40 tree) _ (decimal_bodily 40 tree) (λ value. tt)
value_bodily (Some offer_key.Rate) said n tree = then_bodily (number_under 50 tree) _ (number_bodily 50 tree) (λ value. tt)
value_bodily None said n tree = tt

some_offer_bodily : (offer : Offer) → Bodily (some_offer offer)
some_offer_bodily offer = test_bodily (offers_nothing offer) _ (Ok offer) tt tt

offer_bodily : (key : ℕ) (tree : Tree) → Bodily (offer_under key tree)
offer_bodily key tree =
    then_bodily (fields_of key tree) _ (map_bodily key (pairs_in tree))
    (λ fields. then_bodily (each_field offer_field no_offer fields) some_offer (each_bodily offer_field (λ said n tree. value_bodily (offer_key_of n) said n tree) no_offer fields) some_offer_bodily)

take_offer_bodily : (key : Option ConfigKey) (said : ConfigBody) (n : ℕ) (tree : Tree) → Bodily (take_offer key said n tree)
take_offer_bodily (Some config_key.Mitigating) said n tree = then_bodily (offer_under 32 tree) _ (offer_bodily 32 tree) (λ offer. tt)
take_offer_bodily (Some config_key.Idle) said n tree = then_bodily (offer_under 44 tree) _ (offer_bodily 44 tree) (λ offer. tt)
take_offer_bodily None said n tree = tt

some_config_bodily : (body : ConfigBody) → Bodily (some_config body)
some_config_bodily body = test_bodily (offers_nothing body.mitigating && offers_nothing body.idle) _ (Ok body) tt tt

configuration_bodily : (tree : Tree) → Bodily (configuration_of tree)
configuration_bodily tree =
    sole_bodily 0 30 signal_config
    (λ tree.
    then_bodily (fields_of 30 tree) _ (map_bodily 30 (pairs_in tree))
    (λ fields. then_bodily (each_field config_field no_config fields) some_config (each_bodily config_field (λ said n tree. take_offer_bodily (config_key_of n) said n tree) no_config fields) some_config_bodily))
    tree

heartbeat_bodily : (tree : Tree) → Bodily (heartbeat_of tree)
heartbeat_bodily tree = sole_bodily 0 49 (sole_field 49 51 peer_status) (sole_bodily 49 51 peer_status (λ tree. or_bodily (boolean_in tree) 51)) tree

-- ---- what a message with a right head is refused for
body_bodily : (payload : List ℕ) (read : Tree → Result Request Reject) (e : Reject) → ((tree : Tree) → Bodily (read tree)) → AnswersBody payload read (Err e) → IsBodily e
body_bodily payload read e each a = by_body a.0 a.1 a.2
  where
    by_body : (body : Result Tree Reject) → IsBody payload body → Err e ≡ (body >>= read) → IsBodily e
    by_body (Ok tree) is same = subst (λ (r : Result Request Reject). Bodily r) (sym same) (each tree)
    by_body (Err refusal) is same = subst (λ (r : Result Request Reject). Bodily r) (sym same) (subst IsBodily (sym is.2) tt)

refused_not : (e : Reject) (r : Request) → Err e ≡ Ok r → IsBodily e
refused_not e r same = absurd (cc same)

pub completes_bodily : (operation : Operation) (content : Content) (observe : Observe) (payload : List ℕ) (e : Reject) → Completes operation content observe payload (Err e) → IsBodily e
completes_bodily (put_mitigation path) content observe payload e a =
    body_bodily payload (put_mitigation_with path) e (λ tree. then_bodily (mitigation_of (is_some path.cdid) tree) _ (mitigation_bodily (is_some path.cdid) tree) (λ body. tt)) a
completes_bodily (get_mitigation path) content observe payload e a = refused_not e _ a
completes_bodily (delete_mitigation path) content observe payload e a = refused_not e _ a
completes_bodily (put_config sid) content observe payload e a =
    body_bodily payload (put_config_with sid) e (λ tree. then_bodily (configuration_of tree) _ (configuration_bodily tree) (λ body. tt)) a
completes_bodily (get_config sid) content observe payload e a = refused_not e _ a
completes_bodily (delete_config sid) content observe payload e a = refused_not e _ a
completes_bodily put_heartbeat content observe payload e a =
    body_bodily payload put_heartbeat_with e (λ tree. then_bodily (heartbeat_of tree) _ (heartbeat_bodily tree) (λ heard. tt)) a
