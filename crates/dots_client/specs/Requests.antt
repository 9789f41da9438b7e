-- Requests for mitigations as the messages that are sent for them (RFC 9132, sections 4.4.1 and 4.4.4).
use Rattle.std.specs.Prelude.{ℕ, ℤ, ◌%◌, ◌^◌, List, [], ◌∷◌, ◌++◌, map, decimal, Option, Some, None}
use Rattle.std.specs.Int.{w64, to_be_bytes}
use Rattle.acl_lists.specs.declared.asked.Asked.{Asked}
use Rattle.cbor_profile.specs.Canon.{canon}
use Rattle.coap_message.specs.declared.codes.TheConstants.{PUT, DELETE}
use Rattle.coap_message.specs.declared.kind.Kind.{Kind}
use Rattle.coap_message.specs.declared.kind.Kind.TheVariants.{Non}
use Rattle.coap_message.specs.declared.option_numbers.TheConstants.{URI_PATH}
use Rattle.coap_message.specs.Message.{CoapOption, CoapMessage}
use Rattle.dots_keys.specs.Replies.{dots_cbor}
use Rattle.dots_keys.specs.Paths.{mitigation, path_of}
use Rattle.reply_bodies.specs.Requests.{request_tree}

-- A request of its own number. The cdid, where a gateway says it, and the cuid are those of the client, and the mid is its text. The
-- options are those behind the path.
pub record Written : Type 0 where
  pub kind : Kind
  pub code : ℕ
  pub number : ℕ
  pub cdid : Option (List ℕ)
  pub cuid : List ℕ
  pub mid : List ℕ
  pub options : List CoapOption
  pub payload : List ℕ

-- a segment of the path (RFC 7252, section 5.10.1)
abbrev pub uri_path : List ℕ → CoapOption
uri_path segment = record { number = URI_PATH; value = segment }

-- the token is the number's 8 bytes, and the Message ID the number modulo 65,536
abbrev pub request_message : Written → CoapMessage
request_message w = record {
  kind = w.kind;
  code = w.code;
  identifier = w.number % 2 ^ 16;
  token = to_be_bytes w64 w.number;
  options = map uri_path (path_of (mitigation w.cdid (Some w.cuid) (Some w.mid))) ++ w.options;
  payload = w.payload;
}

-- a client's PUT for a mitigation, non-confirmable (section 4.4.1)
abbrev pub asking : ℕ → List ℕ → ℕ → Asked → ℤ → CoapMessage
asking number cuid mid asked lifetime = request_message (record {
  kind = Non;
  code = PUT;
  number = number;
  cdid = None;
  cuid = cuid;
  mid = decimal mid;
  options = dots_cbor ∷ [];
  payload = canon (request_tree asked lifetime);
})

-- a client's DELETE of a mitigation, non-confirmable (section 4.4.4)
abbrev pub withdrawing : ℕ → List ℕ → ℕ → CoapMessage
withdrawing number cuid mid = request_message (record {
  kind = Non;
  code = DELETE;
  number = number;
  cdid = None;
  cuid = cuid;
  mid = decimal mid;
  options = [];
  payload = [];
})
