-- The mid of a request that is read is below 2^32, and the lifetime that settings grant is within their ceiling.
use Rattle.std.specs.Prelude.{FitsSigned, ok_or, ◌&&◌, nat_le, nat_lt}
use Rattle.std.specs.Int.{w32}
use Rattle.std.specs.List.{list_all}
use Rattle.std.specs.Char.{is_digit}
use Rattle.std.specs.Str.Parse.{digits_value}
use Rattle.std.proofs.Common.{◌≡◌, ℕ, ℤ, pos, negsuc, ◌<◌, ◌^◌, Bool, true, false, cond, List, length, Option, Some, None, Result, Ok, Err, refl, sym, ap, ◌∙◌, subst, arith, is_some}
use Rattle.std.proofs.lemmas.Bool.{and_parts, ltb-true}
use Rattle.std.proofs.lemmas.Int.{ints, clamps}
use Rattle.coap_message.specs.Message.{CoapMessage}
use Rattle.dots_keys.specs.declared.exchange.Exchange.{Exchange}
use Rattle.dots_keys.specs.Exchanges.{exchange_in}
use Rattle.lifetime_clock.specs.Lifetime.{granted}
use Rattle.dots_keys.specs.declared.operation.Method.{Method}
use Rattle.dots_keys.specs.declared.operation.Method.TheVariants as method
use Rattle.dots_keys.specs.declared.reject.Reject.{Reject}
use Rattle.dots_keys.specs.declared.reject.Reject.TheVariants as reject
use Rattle.dots_keys.specs.declared.head_request.Content.{Content}
use Rattle.dots_keys.specs.declared.head_request.MitigationPath.{MitigationPath}
use Rattle.dots_keys.specs.declared.head_request.Observe.{Observe}
use Rattle.dots_keys.specs.Heads.{Head, refuse_critical, refuse_hop_limit, refuse_media, refuse_format, content_of, observe_of, head_of}
use Rattle.dots_keys.specs.Operations.{Operation, put_mitigation, get_mitigation, delete_mitigation, put_config, get_config, delete_config, put_heartbeat, method_of, client_name, is_identifier, identifier, optional, mandatory, domain_of, mitigation_path, with_mid, mitigation_operation, config_operation, operation_of}
use Rattle.dots_keys.specs.Options.{first_critical, values_of, value_of}
use Rattle.dots_keys.specs.Paths.{Resource, mitigation, config, heartbeat, resource_at}
use Rattle.dots_keys.specs.Results.{◌>>=◌}
use Rattle.dots_keys.specs.declared.request.MitigationBody.{MitigationBody}
use Rattle.dots_keys.specs.declared.request.Request.{Request}
use Rattle.dots_keys.specs.declared.request.Request.TheVariants as request
use Rattle.dots_keys.specs.Configurations.{configuration_of}
use Rattle.dots_keys.specs.Heartbeats.{heartbeat_of}
use Rattle.dots_keys.specs.Meaning.{Completes, ReadsAs, Means, put_mitigation_with, put_config_with, put_heartbeat_with}
use Rattle.dots_keys.specs.Mitigations.{mitigation_of}
use Rattle.dots_machine.specs.declared.received.Received.TheVariants as received
use Rattle.dots_machine.specs.Requests.{received_as, IsReceived, unread, asks_nothing, meant}

-- ---- what each step of a reading gave
bound : {A B : Type 0} (r : Result A Reject) (f : A → Result B Reject) (y : B) → (r >>= f) ≡ Ok y → (x : A) × (r ≡ Ok x) × (f x ≡ Ok y)
bound (Ok x) f y is = (x, refl, is)
bound (Err e) f y is = absurd (cc is)

same_ok : {A : Type 0} (x y : A) → ◌≡◌ {A = Result A Reject} (Ok x) (Ok y) → x ≡ y
same_ok x y is = cc

same_some : {A : Type 0} (x y : A) → Some x ≡ Some y → x ≡ y
same_some x y is = cc

-- ---- the mid
identified_below : (text : List ℕ) (n : ℕ) → identifier text ≡ Ok n → n < 2 ^ 32
identified_below text n = by_test (is_identifier text) refl
  where
    by_test : (b : Bool) → is_identifier text ≡ b → cond {A = Result ℕ Reject} b (Ok (digits_value 10 text)) (Err reject.Parameter) ≡ Ok n → n < 2 ^ 32
    by_test true passes is =
        let parts = and_parts (nat_le 1 (length text) && nat_le (length text) 10 && list_all (λ byte. is_digit byte 10) text) (nat_lt (digits_value 10 text) (2 ^ 32)) passes in
        subst (λ (k : ℕ). k < 2 ^ 32) (same_ok (digits_value 10 text) n is) (ltb-true (digits_value 10 text) (2 ^ 32) parts.1)
    by_test false passes is = absurd (cc is)

number_below : (mid : Option (List ℕ)) (number : Option ℕ) (n : ℕ) → optional identifier mid ≡ Ok number → number ≡ Some n → n < 2 ^ 32
number_below None number n read is = absurd (none_or_some n (same_ok None number read ∙ is))
  where
    none_or_some : (n : ℕ) → ◌≡◌ {A = Option ℕ} None (Some n) → ⊥
    none_or_some n e = absurd (cc e)
number_below (Some text) number n read is =
    let one = bound (identifier text) (λ value. Ok (Some value)) number read in
    identified_below text n (one.1 ∙ ap Ok (same_some one.0 n (same_ok (Some one.0) number one.2 ∙ is)))

mid_is : (cdid : Option (List ℕ)) (cuid : List ℕ) (mid : Option ℕ) (path : MitigationPath)
    → ◌≡◌ {A = Result MitigationPath Reject} (Ok (record { cdid = cdid; cuid = cuid; mid = mid })) (Ok path) → mid ≡ path.mid
mid_is cdid cuid mid path is = ap (λ (p : MitigationPath). p.mid) (same_ok (record { cdid = cdid; cuid = cuid; mid = mid }) path is)

path_below : (gateway : Bool) (cdid cuid mid : Option (List ℕ)) (path : MitigationPath) (n : ℕ) → mitigation_path gateway cdid cuid mid ≡ Ok path → path.mid ≡ Some n → n < 2 ^ 32
path_below gateway cdid cuid mid path n read is =
    let domain = bound (domain_of gateway cdid) _ path read in
    let text = bound (mandatory cuid) _ path domain.2 in
    let client = bound (client_name text.0) _ path text.2 in
    let number = bound (optional identifier mid) _ path client.2 in
    number_below mid number.0 n number.1 (mid_is domain.0 client.0 number.0 path number.2 ∙ is)

chosen_path : (wanted : Method) (p path : MitigationPath) → mitigation_operation wanted p ≡ Ok (put_mitigation path) → p ≡ path
chosen_path method.Get p path is = absurd (cc is)
chosen_path method.Put p path is =
    let whole = bound (with_mid p) _ (put_mitigation path) is in
    let named = bound (mandatory p.mid) _ whole.0 whole.1 in
    let last : whole.0 ≡ path = cc whole.2 in
    same_ok p whole.0 named.2 ∙ last
chosen_path method.Delete p path is =
    let whole = bound (with_mid p) _ (put_mitigation path) is in
    absurd (cc whole.2)

no_mitigation : (wanted : Method) (sid : Option ℕ) (path : MitigationPath) → config_operation wanted sid ≡ Ok (put_mitigation path) → ⊥
no_mitigation method.Get sid path is = absurd (cc is)
no_mitigation method.Put sid path is = let one = bound (mandatory sid) _ (put_mitigation path) is in absurd (cc one.2)
no_mitigation method.Delete sid path is = let one = bound (mandatory sid) _ (put_mitigation path) is in absurd (cc one.2)

operation_below : (resource : Resource) (wanted : Method) (gateway : Bool) (path : MitigationPath) (n : ℕ) → operation_of resource wanted gateway ≡ Ok (put_mitigation path) → path.mid ≡ Some n → n < 2 ^ 32
operation_below (mitigation cdid cuid mid) wanted gateway path n read is =
    let read_path = bound (mitigation_path gateway cdid cuid mid) (mitigation_operation wanted) (put_mitigation path) read in
    path_below gateway cdid cuid mid path n (read_path.1 ∙ ap Ok (chosen_path wanted read_path.0 path read_path.2)) is
operation_below (config sid) wanted gateway path n read is =
    let number = bound (optional identifier sid) (config_operation wanted) (put_mitigation path) read in
    absurd (no_mitigation wanted number.0 path number.2)
operation_below heartbeat wanted gateway path n read is = absurd (cc read)

operation_is : (operation : Operation) (content : Content) (observe : Observe) (head : Head)
    → ◌≡◌ {A = Result Head Reject} (Ok (record { operation = operation; content = content; observe = observe })) (Ok head) → operation ≡ head.operation
operation_is operation content observe head is = ap (λ (h : Head). h.operation) (same_ok (record { operation = operation; content = content; observe = observe }) head is)

head_below : (m : CoapMessage) (gateway : Bool) (head : Head) (path : MitigationPath) (n : ℕ) → head_of m gateway ≡ Ok head → head.operation ≡ put_mitigation path → path.mid ≡ Some n → n < 2 ^ 32
head_below m gateway head path n read puts is =
    let critical = bound (refuse_critical (first_critical None m.options)) _ head read in
    let resource = bound (ok_or (resource_at (values_of 11 m.options)) reject.Path) _ head critical.2 in
    let wanted = bound (method_of resource.0 m.code) _ head resource.2 in
    let hop = bound (refuse_hop_limit (value_of 16 m.options)) _ head wanted.2 in
    let operation = bound (operation_of resource.0 wanted.0 gateway) _ head hop.2 in
    let accept = bound (refuse_media reject.Accept (value_of 17 m.options)) _ head operation.2 in
    let format = bound (refuse_format wanted.0 m.options) _ head accept.2 in
    let content = bound (content_of wanted.0 (values_of 15 m.options)) _ head format.2 in
    operation_below resource.0 wanted.0 gateway path n (operation.1 ∙ ap Ok (operation_is operation.0 content.0 (observe_of (value_of 6 m.options)) head content.2 ∙ puts)) is

module _ (path : MitigationPath) (body : MitigationBody) where
  abbrev answer : Result Request Reject
  answer = Ok (request.PutMitigation path body)

  -- only a PUT of a mitigation is completed to one, and with its own path
  own_path : (operation : Operation) (content : Content) (observe : Observe) (payload : List ℕ) → Completes operation content observe payload answer → operation ≡ put_mitigation path
  own_path (put_mitigation own) content observe payload is =
      let tree = bound is.0 (put_mitigation_with own) (request.PutMitigation path body) (sym is.2) in
      let scope = bound (mitigation_of (is_some own.cdid) tree.0) _ (request.PutMitigation path body) tree.2 in
      let same : own ≡ path = cc scope.2 in
      ap put_mitigation same
  own_path (get_mitigation own) content observe payload is = absurd (cc is)
  own_path (delete_mitigation own) content observe payload is = absurd (cc is)
  own_path (put_config sid) content observe payload is =
      let tree = bound is.0 (put_config_with sid) (request.PutMitigation path body) (sym is.2) in
      let offer = bound (configuration_of tree.0) _ (request.PutMitigation path body) tree.2 in
      absurd (cc offer.2)
  own_path (get_config sid) content observe payload is = absurd (cc is)
  own_path (delete_config sid) content observe payload is = absurd (cc is)
  own_path put_heartbeat content observe payload is =
      let tree = bound is.0 put_heartbeat_with (request.PutMitigation path body) (sym is.2) in
      let heard = bound (heartbeat_of tree.0) _ (request.PutMitigation path body) tree.2 in
      absurd (cc heard.2)

  module _ (n : ℕ) (is : path.mid ≡ Some n) where
    means_below : (m : CoapMessage) (gateway : Bool) → Means m gateway answer → n < 2 ^ 32
    means_below m gateway = by_head (head_of m gateway) refl
      where
        by_head : (h : Result Head Reject) → head_of m gateway ≡ h → ReadsAs h m.payload answer → n < 2 ^ 32
        by_head (Ok head) read means = head_below m gateway head path n read (own_path head.operation head.content head.observe m.payload means) is
        by_head (Err e) read means = absurd (cc means)

    of_answer : (m : CoapMessage) (gateway : Bool) (x : Exchange) (read : Result Request Reject) → Means m gateway read
        → received.Asked x (request.PutMitigation path body) ≡ received_as (exchange_in m) read → n < 2 ^ 32
    of_answer m gateway x (Ok asked) means e =
        let same : request.PutMitigation path body ≡ asked = cc e in
        means_below m gateway (subst (λ (r : Request). Means m gateway (Ok r)) (sym same) means)
    of_answer m gateway x (Err refusal) means e = absurd (cc e)

    pub mid_below : (datagram : List ℕ) (gateway : Bool) (x : Exchange) → IsReceived datagram gateway (received.Asked x (request.PutMitigation path body)) → n < 2 ^ 32
    mid_below datagram gateway x (unread fault breaks e) = absurd (cc e)
    mid_below datagram gateway x (asks_nothing m dismissal message spelled none e) = absurd (cc e)
    mid_below datagram gateway x (meant m read message spelled none means e) = of_answer m gateway x read means e

-- ---- the lifetime
pub lifetime_within : (asked : ℤ) (ceiling : ℕ) (indefinite : Bool) → ceiling < 2 ^ 31 → FitsSigned w32 (granted asked (pos ceiling) indefinite)
lifetime_within (pos seconds) ceiling indefinite below = omega (arith, ints, clamps, below)
lifetime_within (negsuc n) ceiling true below = omega arith
lifetime_within (negsuc n) ceiling false below = omega (arith, below)
