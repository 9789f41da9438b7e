-- Replies: messages with the Message ID and the token of the request (RFC 7252, section 5.2).
use Rattle.std.specs.Prelude.{ℕ, ◌/◌, ◌%◌, List, [], ◌∷◌}
use Rattle.coap_message.specs.declared.codes.TheConstants.{EMPTY}
use Rattle.coap_message.specs.declared.option_numbers.TheConstants.{CONTENT_FORMAT}
use Rattle.coap_message.specs.declared.TheConstants.{DOTS_CBOR}
use Rattle.coap_message.specs.declared.kind.Kind.TheVariants.{Rst}
use Rattle.coap_message.specs.Message.{CoapOption, spelling}
use Rattle.dots_keys.specs.declared.reject.Reject.{Reject}
use Rattle.dots_keys.specs.RejectText.{reject_text, reject_code}
use Rattle.dots_keys.specs.declared.exchange.Exchange.{Exchange}
use Rattle.dots_keys.specs.Exchanges.{reply_kind}

-- a reply without options, whose payload is a text that says why, or empty (section 5.5.2: a diagnostic payload)
abbrev pub plain : ℕ → Exchange → List ℕ → List ℕ
plain code exchange text = spelling (record {
  kind = reply_kind exchange.kind;
  code = code;
  identifier = exchange.id;
  token = exchange.token;
  options = [];
  payload = text;
})

-- an empty reset (section 4.2)
abbrev pub reset_message : ℕ → List ℕ
reset_message id = spelling (record { kind = Rst; code = EMPTY; identifier = id; token = []; options = []; payload = [] })

-- Content-Format application/dots+cbor, whose number is a value of two bytes
abbrev pub dots_cbor : CoapOption
dots_cbor = record { number = CONTENT_FORMAT; value = DOTS_CBOR / 256 ∷ DOTS_CBOR % 256 ∷ [] }

-- a reply with a body
abbrev pub with_body : ℕ → Exchange → List ℕ → List ℕ
with_body code exchange body = spelling (record {
  kind = reply_kind exchange.kind;
  code = code;
  identifier = exchange.id;
  token = exchange.token;
  options = dots_cbor ∷ [];
  payload = body;
})

-- the refusal of a message
abbrev pub rejection : Exchange → Reject → List ℕ
rejection exchange reject = plain (reject_code reject) exchange (reject_text reject)
