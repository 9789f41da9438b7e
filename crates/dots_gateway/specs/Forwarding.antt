-- The messages that a gateway passes on (RFC 7252, section 5.7; RFC 8768, section 3; RFC 9132, section 4.4.1).
use Rattle.std.specs.Prelude.{ℕ, ◌-◌, ◌%◌, ◌^◌, not, ◌==◌, List, [], ◌∷◌, ◌++◌, map, filter, Option, Some, None}
use Rattle.std.specs.Int.{w64, to_be_bytes}
use Rattle.coap_message.specs.declared.kind.Kind.{Kind}
use Rattle.coap_message.specs.declared.kind.Kind.TheVariants.{Ack, Non}
use Rattle.coap_message.specs.declared.option_numbers.TheConstants.{OBSERVE, URI_PATH, CONTENT_FORMAT, URI_QUERY, HOP_LIMIT, ACCEPT}
use Rattle.coap_message.specs.Message.{CoapOption, CoapMessage}
use Rattle.dots_keys.specs.Options.{values_of, value_of}
use Rattle.dots_keys.specs.Paths.{mitigation, path_of}
use Rattle.dots_history.specs.declared.entry.MessageKey.{MessageKey}
use Rattle.dots_history.specs.declared.entry.MessageKey.TheVariants as key
use Rattle.dots_gateway.specs.declared.exchange.Exchange.{Exchange}
use Rattle.dots_gateway.specs.Exchanges.{id_of}
use Rattle.dots_gateway.specs.Wanted.{Passage}

abbrev pub option_with : ℕ → List ℕ → CoapOption
option_with number value = record { number = number; value = value }

-- an option that may be missing
abbrev pub option_for : ℕ → Option (List ℕ) → List CoapOption
option_for number None = []
option_for number (Some value) = option_with number value ∷ []

-- the path of the mitigation, with the domain of the client as the cdid, whatever cdid the client gave
abbrev pub path_for : List ℕ → Passage → List CoapOption
path_for domain p = map (option_with URI_PATH) (path_of (mitigation (Some domain) p.cuid p.mid))

-- The path; the format, the queries and the Accept of the request; and a Hop-Limit that is less by one. Nothing else is passed on, so
-- no Observe, and none that isn't recognised.
abbrev pub passed_options : List ℕ → Passage → List CoapOption → List CoapOption
passed_options domain p options =
    path_for domain p
    ++ option_for CONTENT_FORMAT (value_of CONTENT_FORMAT options)
    ++ map (option_with URI_QUERY) (values_of URI_QUERY options)
    ++ option_with HOP_LIMIT ((p.hop - 1) ∷ []) ∷ option_for ACCEPT (value_of ACCEPT options)

-- A client's request under a number, for a domain: its type, its code and its payload are the client's. The token is the number's 8
-- bytes, and the Message ID the number modulo 65,536.
abbrev pub forwarded : ℕ → List ℕ → Passage → CoapMessage → CoapMessage
forwarded number domain p m = record {
  kind = m.kind;
  code = m.code;
  identifier = number % 2 ^ 16;
  token = to_be_bytes w64 number;
  options = passed_options domain p m.options;
  payload = m.payload;
}

-- the type of the answer to a request
abbrev pub answer_kind : MessageKey → Kind
answer_kind (key.Con id) = Ack
answer_kind _ = Non

-- all options but Observe
abbrev pub without_observe : List CoapOption → List CoapOption
without_observe options = filter (λ (o : CoapOption). not (o.number == OBSERVE)) options

-- A response as the client gets it: with the Message ID and the token of its request, its own code and payload, and all its options but
-- Observe.
abbrev pub answered : Exchange → CoapMessage → CoapMessage
answered exchange m = record {
  kind = answer_kind exchange.key;
  code = m.code;
  identifier = id_of exchange.key;
  token = exchange.token;
  options = without_observe m.options;
  payload = m.payload;
}
