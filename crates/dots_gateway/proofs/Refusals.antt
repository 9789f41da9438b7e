-- What a gateway refuses of what a server refuses.
use Rattle.std.proofs.Common.{◌≡◌, ℕ, Bool, true, false, cond, List, [], ◌∷◌, refl, ap, ◌∙◌}
use Rattle.std.specs.Prelude.{◌==◌, Option, Some, None, Result, Ok, Err, ok_or, ⊤}
use Rattle.std.proofs.lemmas.Bool.{cond-false, ne_eqb}
use Rattle.coap_message.specs.Message.{CoapOption, CoapMessage}
use Rattle.dots_keys.specs.declared.operation.Method.{Method}
use Rattle.dots_keys.specs.declared.operation.Method.TheVariants as method
use Rattle.dots_keys.specs.declared.reject.Reject.{Reject}
use Rattle.dots_keys.specs.declared.reject.Reject.TheVariants as reject
use Rattle.dots_keys.specs.declared.head_request.MitigationPath.{MitigationPath}
use Rattle.dots_keys.specs.Heads.{Head, refuse_critical, refuse_hop_limit, refuse_media, refuse_format, content_of, content_named, observe_of, head_of}
use Rattle.dots_keys.specs.Operations.{Operation, allowed, method_in, method_of, operation_of, client_name, is_client_name, identifier, is_identifier, optional, mandatory, mitigation_path, mitigation_operation, with_mid}
use Rattle.dots_keys.specs.Options.{first_critical, values_of, value_of, option_number}
use Rattle.dots_keys.specs.Paths.{Resource, mitigation, resource_at}
use Rattle.dots_keys.specs.Results.{◌>>=◌}
use Rattle.dots_gateway.specs.Wanted.{hop_limit, hop_in, refuse_operation}
use Rattle.dots_gateway.specs.WantedValues.{operation_refusal}

-- its refusals are of the operation
abbrev pub IsOperation : {A : Type 0} → Result A Reject → Type 0
IsOperation (Ok x) = ⊤
IsOperation (Err e) = operation_refusal e ≡ Err e

-- and of something else
abbrev pub IsOther : {A : Type 0} → Result A Reject → Type 0
IsOther (Ok x) = ⊤
IsOther (Err e) = operation_refusal e ≡ Ok tt

operation_then : {A B : Type 0} (r : Result A Reject) (f : A → Result B Reject) → IsOperation r → ((x : A) → IsOperation (f x)) → IsOperation (r >>= f)
operation_then (Ok x) f is each = each x
operation_then (Err e) f is each = is

other_then : {A B : Type 0} (r : Result A Reject) (f : A → Result B Reject) → IsOther r → ((x : A) → IsOther (f x)) → IsOther (r >>= f)
other_then (Ok x) f is each = each x
other_then (Err e) f is each = is

-- ---- the operation

allowed_so : (cdid cuid mid : Option (List ℕ)) (m : Option Method) → IsOperation (allowed (mitigation cdid cuid mid) m)
allowed_so cdid cuid mid None = refl
allowed_so cdid cuid mid (Some method.Get) = tt
allowed_so cdid cuid mid (Some method.Put) = tt
allowed_so cdid cuid mid (Some method.Delete) = tt

mandatory_so : {A : Type 0} (o : Option A) → IsOperation (mandatory o)
mandatory_so None = refl
mandatory_so (Some x) = tt

parameter_so : {A : Type 0} (b : Bool) (x : A) → IsOperation (cond b (Ok x) (Err reject.Parameter))
parameter_so true x = tt
parameter_so false x = refl

mid_so : (o : Option (List ℕ)) → IsOperation (optional identifier o)
mid_so None = tt
mid_so (Some text) = operation_then (identifier text) (λ n. Ok (Some n)) (parameter_so (is_identifier text) _) (λ n. tt)

path_so : (cdid cuid mid : Option (List ℕ)) → IsOperation (mitigation_path false cdid cuid mid)
path_so cdid cuid mid =
    operation_then (mandatory cuid) _ (mandatory_so cuid)
    (λ text. operation_then (client_name text) _ (parameter_so (is_client_name text) text) (λ client. operation_then (optional identifier mid) _ (mid_so mid) (λ number. tt)))

done_so : (m : Method) (path : MitigationPath) → IsOperation (mitigation_operation m path)
done_so method.Get path = tt
done_so method.Put path = operation_then (with_mid path) _ (operation_then (mandatory path.mid) _ (mandatory_so path.mid) (λ mid. tt)) (λ path. tt)
done_so method.Delete path = operation_then (with_mid path) _ (operation_then (mandatory path.mid) _ (mandatory_so path.mid) (λ mid. tt)) (λ path. tt)

operation_so : (cdid cuid mid : Option (List ℕ)) (m : Method) → IsOperation (operation_of (mitigation cdid cuid mid) m false)
operation_so cdid cuid mid m = operation_then (mitigation_path false cdid cuid mid) (mitigation_operation m) (path_so cdid cuid mid) (λ path. done_so m path)

-- ---- what is behind it

media_so : (e : Reject) (o : Option (List ℕ)) → operation_refusal e ≡ Ok tt → IsOther (refuse_media e o)
media_so e None is = tt
media_so e (Some value) is = by_test (option_number value == 271)
  where
    by_test : (b : Bool) → IsOther (cond {A = Result (Unit {0}) Reject} b (Ok tt) (Err e))
    by_test true = tt
    by_test false = is

format_so : (m : Method) (options : List CoapOption) → IsOther (refuse_format m options)
format_so method.Put options = media_so reject.Format (value_of 12 options) refl
format_so method.Get options = tt
format_so method.Delete options = tt

named_so : {A : Type 0} (o : Option A) → IsOther (ok_or o reject.Query)
named_so None = refl
named_so (Some x) = tt

content_so : (m : Method) (queries : List (List ℕ)) → IsOther (content_of m queries)
content_so m [] = tt
content_so method.Get (text ∷ []) = named_so (content_named text)
content_so method.Put (text ∷ []) = refl
content_so method.Delete (text ∷ []) = refl
content_so method.Get (text ∷ other ∷ queries) = refl
content_so method.Put (text ∷ other ∷ queries) = refl
content_so method.Delete (text ∷ other ∷ queries) = refl

abbrev behind : CoapMessage → Method → Operation → Result Head Reject
behind message method operation = do
  _ ← refuse_media reject.Accept (value_of 17 message.options)
  _ ← refuse_format method message.options
  content ← content_of method (values_of 15 message.options)
  Ok (record { operation = operation; content = content; observe = observe_of (value_of 6 message.options) })

behind_so : (message : CoapMessage) (m : Method) (o : Operation) → IsOther (behind message m o)
behind_so message m o =
    other_then (refuse_media reject.Accept (value_of 17 message.options)) _ (media_so reject.Accept (value_of 17 message.options) refl)
    (λ _. other_then (refuse_format m message.options) _ (format_so m message.options)
    (λ _. other_then (content_of m (values_of 15 message.options)) _ (content_so m (values_of 15 message.options)) (λ content. tt)))

-- ---- both

abbrev pub judged : {A : Type 0} → Result A Reject → Result (Unit {0}) Reject
judged (Ok x) = Ok tt
judged (Err e) = operation_refusal e

judged_other : {A : Type 0} (r : Result A Reject) → IsOther r → judged r ≡ Ok tt
judged_other (Ok x) is = refl
judged_other (Err e) is = is

judged_operation : {A B : Type 0} (r : Result A Reject) (f : A → Result B Reject) (g : A → Result (Unit {0}) Reject) → IsOperation r → ((x : A) → judged (f x) ≡ g x)
    → judged (r >>= f) ≡ r >>= g
judged_operation (Ok x) f g is each = each x
judged_operation (Err e) f g is each = is

no_hop : (o : Option (List ℕ)) → (hop_limit o ≡ 0 → ⊥) → refuse_hop_limit o ≡ Ok tt
no_hop None some = refl
no_hop (Some value) some = cond-false (option_number value == 0) (Err reject.HopLimit) (Ok tt) (ne_eqb (option_number value) 0 some)

abbrev from_method : CoapMessage → Resource → Result Head Reject
from_method message resource = method_of resource message.code >>= λ method. operation_of resource method false >>= λ operation. behind message method operation

head_so : (message : CoapMessage) (resource : Resource) → first_critical None message.options ≡ None → (hop_in message.options ≡ 0 → ⊥)
    → resource_at (values_of 11 message.options) ≡ Some resource → head_of message false ≡ from_method message resource
head_so message resource critical some is =
    ap (λ (c : Option ℕ). refuse_critical c >>= λ _. after_critical) critical
    ∙ ap (λ (r : Option Resource). ok_or r reject.Path >>= λ resource. method_of resource message.code >>= λ method. refuse_hop_limit (value_of 16 message.options) >>= λ _. operation_of resource method false >>= λ operation. behind message method operation) is
    ∙ ap (λ (h : Result (Unit {0}) Reject). method_of resource message.code >>= λ method. h >>= λ _. operation_of resource method false >>= λ operation. behind message method operation) (no_hop (value_of 16 message.options) some)
  where
    after_critical : Result Head Reject
    after_critical = ok_or (resource_at (values_of 11 message.options)) reject.Path >>= λ resource. method_of resource message.code >>= λ method. refuse_hop_limit (value_of 16 message.options) >>= λ _. operation_of resource method false >>= λ operation. behind message method operation

pub refused_so : (message : CoapMessage) (cdid cuid mid : Option (List ℕ)) → first_critical None message.options ≡ None → (hop_in message.options ≡ 0 → ⊥)
    → resource_at (values_of 11 message.options) ≡ Some (mitigation cdid cuid mid) → judged (head_of message false) ≡ refuse_operation (mitigation cdid cuid mid) message.code
refused_so message cdid cuid mid critical some is =
    ap judged (head_so message (mitigation cdid cuid mid) critical some is)
    ∙ judged_operation (method_of (mitigation cdid cuid mid) message.code) _ _ (allowed_so cdid cuid mid (method_in message.code))
    (λ method. judged_operation (operation_of (mitigation cdid cuid mid) method false) _ _ (operation_so cdid cuid mid method)
    (λ operation. judged_other (behind message method operation) (behind_so message method operation)))
