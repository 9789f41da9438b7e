-- What a client's datagram and the datagram that goes to the upstream for it have in common, in the words of the standards.
use Rattle.std.specs.Prelude.{◌≡◌, ℕ, ◌+◌, List, [], Option, Some}
use Rattle.coap_message.specs.declared.option_numbers.TheConstants.{OBSERVE, URI_PATH, CONTENT_FORMAT, URI_QUERY, ACCEPT}
use Rattle.coap_message.specs.Message.{CoapMessage, IsMessage, spelling}
use Rattle.dots_keys.specs.Options.{values_of, value_of}
use Rattle.dots_keys.specs.Paths.{mitigation, resource_at}
use Rattle.dots_gateway.specs.Wanted.{hop_in}

-- The request that is passed on asks the same of the same mitigation. Its cdid is the domain, whatever the client gave (RFC 9132, section
-- 4.4.1), and its Hop-Limit is less by one (RFC 8768, section 3). It observes nothing.
pub record IsPassedFor (domain : List ℕ) (asked passed : CoapMessage) : Type 0 where
  pub kind : passed.kind ≡ asked.kind
  pub code : passed.code ≡ asked.code
  pub payload : passed.payload ≡ asked.payload
  pub path : (cdid cuid mid : Option (List ℕ)) → resource_at (values_of URI_PATH asked.options) ≡ Some (mitigation cdid cuid mid)
      → resource_at (values_of URI_PATH passed.options) ≡ Some (mitigation (Some domain) cuid mid)
  pub format : value_of CONTENT_FORMAT passed.options ≡ value_of CONTENT_FORMAT asked.options
  pub queries : values_of URI_QUERY passed.options ≡ values_of URI_QUERY asked.options
  pub accept : value_of ACCEPT passed.options ≡ value_of ACCEPT asked.options
  pub hop : hop_in passed.options + 1 ≡ hop_in asked.options
  pub observe : values_of OBSERVE passed.options ≡ []

-- both datagrams spell such messages
pub record IsPassedOn (domain datagram bytes : List ℕ) : Type 0 where
  pub asked : CoapMessage
  pub passed : CoapMessage
  pub is_message : IsMessage asked
  pub spelled : datagram ≡ spelling asked
  pub written : bytes ≡ spelling passed
  pub mitigates : (cdid : Option (List ℕ)) × (cuid : Option (List ℕ)) × (mid : Option (List ℕ))
      × (resource_at (values_of URI_PATH asked.options) ≡ Some (mitigation cdid cuid mid))
  pub same : IsPassedFor domain asked passed
