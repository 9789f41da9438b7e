-- What stands before the body is never refused for want of memory.
use Rattle.std.proofs.Common.{◌≡◌, ◌≢◌, ℕ, Bool, true, false, List, [], ◌∷◌, Option, Some, None, Ok, Err, Result, cond}
use Rattle.std.specs.Prelude.{⊤, ok_or, ◌==◌}
use Rattle.coap_message.specs.Message.{CoapOption, CoapMessage}
use Rattle.dots_keys.specs.declared.operation.Method.{Method}
use Rattle.dots_keys.specs.declared.operation.Method.TheVariants as method
use Rattle.dots_keys.specs.declared.reject.Reject.{Reject}
use Rattle.dots_keys.specs.declared.reject.Reject.TheVariants as reject
use Rattle.dots_keys.specs.declared.head_request.MitigationPath.{MitigationPath}
use Rattle.dots_keys.specs.Heads.{refuse_critical, refuse_hop_limit, refuse_media, refuse_format, content_named, content_of, head_of}
use Rattle.dots_keys.specs.Operations.{allowed, method_in, method_of, is_client_name, client_name, is_identifier, identifier, optional, mandatory, domain_of, mitigation_path, with_mid, mitigation_operation, config_operation, operation_of}
use Rattle.dots_keys.specs.Options.{first_critical, values_of, value_of, option_number}
use Rattle.dots_keys.specs.Paths.{Resource, mitigation, config, heartbeat, resource_at}
use Rattle.dots_keys.specs.Results.{◌>>=◌}

abbrev pub NotMemory : {A : Type 0} → Result A Reject → Type 0
NotMemory (Ok x) = ⊤
NotMemory (Err e) = e ≢ reject.NoMemory

then_not : {A B : Type 0} (r : Result A Reject) (f : A → Result B Reject) → NotMemory r → ((x : A) → NotMemory (f x)) → NotMemory (r >>= f)
then_not (Ok x) f first later = later x
then_not (Err e) f first later = first

cond_not : {A : Type 0} (b : Bool) (r s : Result A Reject) → NotMemory r → NotMemory s → NotMemory (cond b r s)
cond_not true r s one other = one
cond_not false r s one other = other

ok_or_not : {A : Type 0} (o : Option A) (e : Reject) → e ≢ reject.NoMemory → NotMemory (ok_or o e)
ok_or_not None e other = other
ok_or_not (Some x) e other = tt

critical_not : (o : Option ℕ) → NotMemory (refuse_critical o)
critical_not None = tt
critical_not (Some number) = λ is. cc

hop_limit_not : (o : Option (List ℕ)) → NotMemory (refuse_hop_limit o)
hop_limit_not None = tt
hop_limit_not (Some value) = cond_not (option_number value == 0) (Err reject.HopLimit) (Ok tt) (λ is. cc) tt

media_not : (refusal : Reject) (o : Option (List ℕ)) → refusal ≢ reject.NoMemory → NotMemory (refuse_media refusal o)
media_not refusal None other = tt
media_not refusal (Some value) other = cond_not (option_number value == 271) (Ok tt) (Err refusal) tt other

format_not : (m : Method) (options : List CoapOption) → NotMemory (refuse_format m options)
format_not method.Put options = media_not reject.Format (value_of 12 options) (λ is. cc)
format_not method.Get options = tt
format_not method.Delete options = tt

content_not : (m : Method) (queries : List (List ℕ)) → NotMemory (content_of m queries)
content_not method.Get [] = tt
content_not method.Put [] = tt
content_not method.Delete [] = tt
content_not method.Get (text ∷ []) = ok_or_not (content_named text) reject.Query (λ is. cc)
content_not method.Get (text ∷ other ∷ queries) = λ is. cc
content_not method.Put (text ∷ queries) = λ is. cc
content_not method.Delete (text ∷ queries) = λ is. cc

method_not : (resource : Resource) (o : Option Method) → NotMemory (allowed resource o)
method_not (mitigation cdid cuid mid) None = λ is. cc
method_not (config sid) None = λ is. cc
method_not heartbeat None = λ is. cc
method_not (mitigation cdid cuid mid) (Some method.Put) = tt
method_not (config sid) (Some method.Put) = tt
method_not heartbeat (Some method.Put) = tt
method_not (mitigation cdid cuid mid) (Some method.Get) = tt
method_not (mitigation cdid cuid mid) (Some method.Delete) = tt
method_not (config sid) (Some method.Get) = tt
method_not (config sid) (Some method.Delete) = tt
method_not heartbeat (Some method.Get) = λ is. cc
method_not heartbeat (Some method.Delete) = λ is. cc

client_name_not : (text : List ℕ) → NotMemory (client_name text)
client_name_not text = cond_not (is_client_name text) (Ok text) (Err reject.Parameter) tt (λ is. cc)

identifier_not : (text : List ℕ) → NotMemory (identifier text)
identifier_not text = cond_not (is_identifier text) _ (Err reject.Parameter) tt (λ is. cc)

optional_not : (o : Option (List ℕ)) → NotMemory (optional identifier o)
optional_not None = tt
optional_not (Some text) = then_not (identifier text) _ (identifier_not text) (λ value. tt)

mandatory_not : {A : Type 0} (o : Option A) → NotMemory (mandatory o)
mandatory_not None = λ is. cc
mandatory_not (Some value) = tt

domain_not : (gateway : Bool) (cdid : Option (List ℕ)) → NotMemory (domain_of gateway cdid)
domain_not false cdid = tt
domain_not true cdid = then_not (mandatory cdid) _ (mandatory_not cdid) (λ text. then_not (client_name text) _ (client_name_not text) (λ name. tt))

path_not : (gateway : Bool) (cdid cuid mid : Option (List ℕ)) → NotMemory (mitigation_path gateway cdid cuid mid)
path_not gateway cdid cuid mid =
    then_not (domain_of gateway cdid) _ (domain_not gateway cdid) (λ domain.
    then_not (mandatory cuid) _ (mandatory_not cuid) (λ text.
    then_not (client_name text) _ (client_name_not text) (λ client.
    then_not (optional identifier mid) _ (optional_not mid) (λ number. tt))))

with_mid_not : (path : MitigationPath) → NotMemory (with_mid path)
with_mid_not path = then_not (mandatory path.mid) _ (mandatory_not path.mid) (λ mid. tt)

mitigation_not : (m : Method) (path : MitigationPath) → NotMemory (mitigation_operation m path)
mitigation_not method.Get path = tt
mitigation_not method.Put path = then_not (with_mid path) _ (with_mid_not path) (λ path. tt)
mitigation_not method.Delete path = then_not (with_mid path) _ (with_mid_not path) (λ path. tt)

config_not : (m : Method) (sid : Option ℕ) → NotMemory (config_operation m sid)
config_not method.Get sid = tt
config_not method.Put sid = then_not (mandatory sid) _ (mandatory_not sid) (λ sid. tt)
config_not method.Delete sid = then_not (mandatory sid) _ (mandatory_not sid) (λ sid. tt)

operation_not : (resource : Resource) (m : Method) (gateway : Bool) → NotMemory (operation_of resource m gateway)
operation_not (mitigation cdid cuid mid) m gateway = then_not (mitigation_path gateway cdid cuid mid) _ (path_not gateway cdid cuid mid) (mitigation_not m)
operation_not (config sid) m gateway = then_not (optional identifier sid) _ (optional_not sid) (config_not m)
operation_not heartbeat m gateway = tt

pub head_not : (message : CoapMessage) (gateway : Bool) → NotMemory (head_of message gateway)
head_not message gateway =
    then_not (refuse_critical (first_critical None message.options)) _ (critical_not (first_critical None message.options)) (λ _.
    then_not (ok_or (resource_at (values_of 11 message.options)) reject.Path) _ (ok_or_not (resource_at (values_of 11 message.options)) reject.Path (λ is. cc)) (λ resource.
    then_not (method_of resource message.code) _ (method_not resource (method_in message.code)) (λ m.
    then_not (refuse_hop_limit (value_of 16 message.options)) _ (hop_limit_not (value_of 16 message.options)) (λ _.
    then_not (operation_of resource m gateway) _ (operation_not resource m gateway) (λ operation.
    then_not (refuse_media reject.Accept (value_of 17 message.options)) _ (media_not reject.Accept (value_of 17 message.options) (λ is. cc)) (λ _.
    then_not (refuse_format m message.options) _ (format_not m message.options) (λ _.
    then_not (content_of m (values_of 15 message.options)) _ (content_not m (values_of 15 message.options)) (λ content. tt))))))))

-- so a head whose refusal is want of memory can't be
pub no_refusal : {P : Type 0} (message : CoapMessage) (gateway : Bool) (e : Reject) → head_of message gateway ≡ Err e → e ≡ reject.NoMemory → P
no_refusal message gateway e is memory = absurd (subst_not (head_of message gateway) e is (head_not message gateway) memory)
  where
    subst_not : {A : Type 0} (r : Result A Reject) (e : Reject) → r ≡ Err e → NotMemory r → e ≡ reject.NoMemory → ⊥
    subst_not (Ok x) e is not memory = cc
    subst_not (Err d) e is not memory = let same : d ≡ e = cc in not (cc)
