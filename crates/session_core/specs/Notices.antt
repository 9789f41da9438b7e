-- The bytes of notifications (RFC 7641, section 4.2; RFC 9132, section 4.4.2.1). None is confirmable.
use Rattle.std.specs.Prelude.{ℕ, ◌/◌, ◌%◌, ◌==◌, nat_lt, if◌then◌else◌, List, [], ◌∷◌, codes}
use Rattle.coap_message.specs.declared.codes.TheConstants.{CONTENT, NOT_FOUND}
use Rattle.coap_message.specs.declared.option_numbers.TheConstants.{OBSERVE}
use Rattle.coap_message.specs.declared.kind.Kind.{Kind}
use Rattle.coap_message.specs.declared.kind.Kind.TheVariants.{Non}
use Rattle.coap_message.specs.Message.{CoapOption, spelling}
use Rattle.dots_keys.specs.Replies.{dots_cbor}

-- the fewest bytes that stand for a number of 24 bits, the highest first (RFC 7252, section 3.2)
abbrev pub shortest : ℕ → List ℕ
shortest number =
    if number == 0 then []
    else if nat_lt number 256 then number ∷ []
    else if nat_lt number 65536 then number / 256 ∷ number % 256 ∷ []
    else number / 65536 % 256 ∷ number / 256 % 256 ∷ number % 256 ∷ []

-- Observe with the number of a notification (RFC 7641, section 2)
abbrev pub observe : ℕ → CoapOption
observe number = record { number = OBSERVE; value = shortest number }

-- 2.05 Content, with a number and a body
abbrev pub numbered_content : Kind → ℕ → List ℕ → ℕ → List ℕ → List ℕ
numbered_content kind id token number body = spelling (record {
  kind = kind;
  code = CONTENT;
  identifier = id;
  token = token;
  options = observe number ∷ dots_cbor ∷ [];
  payload = body;
})

-- with the body of a reply to the GET that registered the observer
abbrev pub content_notice : ℕ → List ℕ → ℕ → List ℕ → List ℕ
content_notice id token number body = numbered_content Non id token number body

-- 4.04 Not Found, where nothing is left to see: it ends the observing, so it has no Observe (RFC 7641, section 4.2)
abbrev pub gone_notice : ℕ → List ℕ → List ℕ
gone_notice id token = spelling (record {
  kind = Non;
  code = NOT_FOUND;
  identifier = id;
  token = token;
  options = [];
  payload = codes "absent";
})
