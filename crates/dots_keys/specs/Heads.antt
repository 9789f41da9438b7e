-- What a message says before its body, with the checks in their order (RFC 9132, section 4; RFC 7252, section 5.10; RFC 8768, section 3).
use Rattle.std.specs.Prelude.{ℕ, Bool, ◌==◌, if◌then◌else◌, List, [], ◌∷◌, codes, bytes_eq, Option, Some, None, ok_or, Result, Ok, Err}
use Rattle.coap_message.specs.Message.{CoapOption, CoapMessage}
use Rattle.dots_keys.specs.declared.operation.Method.{Method}
use Rattle.dots_keys.specs.declared.operation.Method.TheVariants as method
use Rattle.dots_keys.specs.declared.reject.Reject.{Reject}
use Rattle.dots_keys.specs.declared.reject.Reject.TheVariants as reject
use Rattle.dots_keys.specs.declared.head_request.Content.{Content}
use Rattle.dots_keys.specs.declared.head_request.Content.TheVariants as content
use Rattle.dots_keys.specs.declared.head_request.Observe.{Observe}
use Rattle.dots_keys.specs.declared.head_request.Observe.TheVariants as observe
use Rattle.dots_keys.specs.Options.{first_critical, values_of, value_of, option_number}
use Rattle.dots_keys.specs.Operations.{Operation, method_of, operation_of}
use Rattle.dots_keys.specs.Paths.{resource_at}
use Rattle.dots_keys.specs.Results.{◌>>=◌}

pub record Head : Type 0 where
  pub operation : Operation
  pub content : Content
  pub observe : Observe

-- the first critical option that isn't recognised
abbrev pub refuse_critical : Option ℕ → Result (Unit {0}) Reject
refuse_critical None = Ok tt
refuse_critical (Some number) = Err (reject.Critical number)

-- a Hop-Limit (16) of 0
abbrev pub refuse_hop_limit : Option (List ℕ) → Result (Unit {0}) Reject
refuse_hop_limit None = Ok tt
refuse_hop_limit (Some value) = if option_number value == 0 then Err reject.HopLimit else Ok tt

-- a media type other than application/dots+cbor, 271 (RFC 9132, section 10.3)
abbrev pub refuse_media : Reject → Option (List ℕ) → Result (Unit {0}) Reject
refuse_media refusal None = Ok tt
refuse_media refusal (Some value) = if option_number value == 271 then Ok tt else Err refusal

-- Accept (17) in any request, Content-Format (12) in a PUT
abbrev pub refuse_format : Method → List CoapOption → Result (Unit {0}) Reject
refuse_format method.Put options = refuse_media reject.Format (value_of 12 options)
refuse_format _ options = Ok tt

abbrev pub content_named : List ℕ → Option Content
content_named text =
    if bytes_eq text (codes "c=a") then Some content.All
    else if bytes_eq text (codes "c=c") then Some content.Config
    else if bytes_eq text (codes "c=n") then Some content.State
    else None

-- Uri-Query (15): one of these in a GET, or none at all
abbrev pub content_of : Method → List (List ℕ) → Result Content Reject
content_of method [] = Ok content.All
content_of method.Get (text ∷ []) = ok_or (content_named text) reject.Query
content_of _ queries = Err reject.Query

-- Observe (6)
abbrev pub observe_of : Option (List ℕ) → Observe
observe_of None = observe.No
observe_of (Some value) =
    if option_number value == 0 then observe.Register else if option_number value == 1 then observe.Deregister else observe.No

-- The head of a message from a gateway or from a client, or the first refusal: an option; the path, which its Uri-Path options (11)
-- spell; the method; Hop-Limit; the parameters; Accept; Content-Format; the query.
abbrev pub head_of : CoapMessage → Bool → Result Head Reject
head_of message gateway = do
  _ ← refuse_critical (first_critical None message.options)
  resource ← ok_or (resource_at (values_of 11 message.options)) reject.Path
  method ← method_of resource message.code
  _ ← refuse_hop_limit (value_of 16 message.options)
  operation ← operation_of resource method gateway
  _ ← refuse_media reject.Accept (value_of 17 message.options)
  _ ← refuse_format method message.options
  content ← content_of method (values_of 15 message.options)
  Ok (record { operation = operation; content = content; observe = observe_of (value_of 6 message.options) })
