-- What a client's message wants of a gateway, with the checks in their order (RFC 7252, section 5.4; RFC 8768, section 3; RFC 9132,
-- section 4.4).
use Rattle.std.specs.Prelude.{ℕ, false, ◌==◌, if◌then◌else◌, List, Option, Some, None, Result, Ok, Err}
use Rattle.coap_message.specs.declared.codes.TheConstants.{PUT}
use Rattle.coap_message.specs.declared.option_numbers.TheConstants.{URI_PATH, HOP_LIMIT}
use Rattle.coap_message.specs.Message.{CoapOption, CoapMessage}
use Rattle.dots_keys.specs.declared.reject.Reject.{Reject}
use Rattle.dots_keys.specs.declared.reject.Reject.TheVariants as reject
use Rattle.dots_keys.specs.Heads.{refuse_critical, refuse_hop_limit}
use Rattle.dots_keys.specs.Operations.{method_of, operation_of}
use Rattle.dots_keys.specs.Options.{first_critical, values_of, value_of, option_number}
use Rattle.dots_keys.specs.Paths.{Resource, mitigation, config, heartbeat, resource_at}
use Rattle.dots_keys.specs.Results.{◌>>=◌}

-- what a request has that is passed on: its Hop-Limit, and the texts of the parameters
pub record Passage : Type 0 where
  pub hop : ℕ
  pub cuid : Option (List ℕ)
  pub mid : Option (List ℕ)

-- an answer to a heartbeat, or to be passed on
pub data Wanted : Type 0 where
  beat : Wanted
  passage : Passage → Wanted

-- a request without a Hop-Limit counts as one with 16 (RFC 8768, section 3)
abbrev pub hop_limit : Option (List ℕ) → ℕ
hop_limit None = 16
hop_limit (Some value) = option_number value

abbrev pub hop_in : List CoapOption → ℕ
hop_in options = hop_limit (value_of HOP_LIMIT options)

-- A gateway passes requests for mitigations on. Their method and their parameters are judged as a server does, which passes over a
-- client's own cdid.
abbrev pub refuse_operation : Resource → ℕ → Result (Unit {0}) Reject
refuse_operation resource code = do
  method ← method_of resource code
  _ ← operation_of resource method false
  Ok tt

abbrev pub wanted_at : ℕ → ℕ → Option Resource → Result Wanted Reject
wanted_at code hop None = Err reject.Path
wanted_at code hop (Some (config sid)) = Err reject.Path
wanted_at code hop (Some heartbeat) = if code == PUT then Ok beat else Err reject.Path
wanted_at code hop (Some (mitigation cdid cuid mid)) =
    refuse_operation (mitigation cdid cuid mid) code >>= λ _. Ok (passage (record { hop = hop; cuid = cuid; mid = mid }))

-- the first critical option that isn't recognised; a Hop-Limit of 0; and what is asked of which resource
abbrev pub wanted_of : CoapMessage → Result Wanted Reject
wanted_of m = do
  _ ← refuse_critical (first_critical None m.options)
  _ ← refuse_hop_limit (value_of HOP_LIMIT m.options)
  wanted_at m.code (hop_in m.options) (resource_at (values_of URI_PATH m.options))
