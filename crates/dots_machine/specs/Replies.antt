-- The replies: messages with the Message ID and the token of the request (RFC 7252, section 5.2; RFC 9132, section 4.4).
use Rattle.std.specs.Prelude.{ℕ, Bool, true, false, List, [], ◌∷◌, ◌++◌, codes, decimal, map, Option, Some, None}
use Rattle.cbor_profile.specs.Canon.{canon}
use Rattle.cbor_profile.specs.Tree.{Tree, unsigned}
use Rattle.coap_message.specs.declared.codes.TheConstants.{CREATED, DELETED, CHANGED, CONTENT, BAD_REQUEST, NOT_FOUND, CONFLICT, UNPROCESSABLE_ENTITY, INTERNAL_SERVER_ERROR, SERVICE_UNAVAILABLE}
use Rattle.coap_message.specs.Message.{CoapOption, spelling}
use Rattle.dots_keys.specs.declared.reject.Reject.TheVariants as reject
use Rattle.dots_keys.specs.declared.head_request.Content.{Content}
use Rattle.dots_keys.specs.declared.head_request.Content.TheVariants.{Config, State}
use Rattle.reply_bodies.specs.declared.conflict.ConflictCause.{ConflictCause}
use Rattle.reply_bodies.specs.declared.keys.TheConstants.{MID, LIFETIME, MITIGATION_START, STATUS}
use Rattle.reply_bodies.specs.declared.reply.Reply.TheVariants as reply
use Rattle.reply_bodies.specs.Maps.{field, map_of, integer}
use Rattle.reply_bodies.specs.Mitigations.{trigger_fields, asked_fields, mitigations_with}
use Rattle.reply_bodies.specs.Replies.{reply_tree}
use Rattle.conflict_rules.specs.LiveViews.{LiveView}
use Rattle.conflict_rules.specs.declared.judging.Judged.{Judged}
use Rattle.dots_history.specs.declared.config.Values.{Values}
use Rattle.reply_bodies.specs.declared.session.Current.{Current}
use Rattle.reply_bodies.specs.declared.session.SessionView.{SessionView}
use Rattle.conflict_rules.specs.declared.target.TargetFault.{TargetFault}
use Rattle.session_core.specs.Notices.{observe}
use Rattle.dots_keys.specs.declared.exchange.Exchange.{Exchange}
use Rattle.conflict_rules.specs.AskableTargets.{target_text}
use Rattle.dots_keys.specs.Exchanges.{reply_kind}
use Rattle.dots_keys.specs.Replies.{plain, dots_cbor, with_body, rejection}
use Rattle.dots_machine.specs.ConfiguredPeers.{Configured, sid_of, config_in}

-- 2.04 Changed where a mitigation that stands is refreshed, and else 2.01 Created (section 4.4.1.3)
abbrev pub grant_code : Bool → ℕ
grant_code true = CHANGED
grant_code false = CREATED

-- with the mid and the granted lifetime
abbrev pub granting : Exchange → Judged → List ℕ
granting exchange judged =
    with_body (grant_code judged.refreshed) exchange (canon (reply_tree (reply.Granted judged.put.mid judged.put.granted)))

-- 4.09 Conflict (section 4.4.1.3); of a request without a mid none is told
abbrev pub conflicting : Exchange → Option ℕ → ConflictCause → List ℕ
conflicting exchange mid cause = with_body CONFLICT exchange (canon (reply_tree (reply.Conflict (record { mid = mid; cause = cause }))))

-- 2.02 Deleted, whether or not there was something to withdraw (section 4.4.4)
abbrev pub deleted : Exchange → List ℕ
deleted exchange = plain DELETED exchange []

-- Of a mitigation the client is told what was asked for and the seconds left, the start and the status, or one of these parts (section 4.4.2);
-- and, with what was asked for, that it waits for a lost signal, where it does.
abbrev pub config_fields : Content → LiveView → List (Tree × Tree)
config_fields State m = []
config_fields _ m = asked_fields m.put.asked ++ field LIFETIME (integer m.left)

abbrev pub state_fields : Content → LiveView → List (Tree × Tree)
state_fields Config m = []
state_fields _ m = field MITIGATION_START (unsigned m.put.start) ++ field STATUS (unsigned m.status)

abbrev pub trigger_part : Content → Bool → List (Tree × Tree)
trigger_part State trigger = []
trigger_part _ trigger = trigger_fields trigger

abbrev pub mitigation_fields : Content → LiveView → Tree
mitigation_fields content m = map_of (field MID (unsigned m.put.mid) ++ config_fields content m ++ state_fields content m ++ trigger_part content m.put.trigger)

-- the body that shows these mitigations, in their order
abbrev pub retrieved_body : Content → List LiveView → List ℕ
retrieved_body content ms = canon (mitigations_with (map (mitigation_fields content) ms))

-- Observe, where there is a number for it (RFC 7641, section 2)
abbrev pub observe_with : Option ℕ → List CoapOption
observe_with None = []
observe_with (Some number) = observe number ∷ []

-- 2.05 Content, with the body that shows mitigations
abbrev pub showing : Exchange → Option ℕ → List ℕ → List ℕ
showing exchange number body = spelling (record {
  kind = reply_kind exchange.kind;
  code = CONTENT;
  identifier = exchange.id;
  token = exchange.token;
  options = observe_with number ++ dots_cbor ∷ [];
  payload = body;
})

-- 4.04 Not Found, where there is none
abbrev pub absent : Exchange → List ℕ
absent exchange = plain NOT_FOUND exchange (codes "absent")

-- 4.00 Bad Request, for a parameter that is missing, for a domain that there isn't, for what may not be asked for in a domain, and
-- for a request that can't be granted, with the cause as its text
abbrev pub bad_parameter : Exchange → List ℕ
bad_parameter exchange = rejection exchange reject.Parameter

abbrev pub bad_target : Exchange → TargetFault → List ℕ
bad_target exchange fault = plain BAD_REQUEST exchange (target_text fault)

abbrev pub bad_request : Exchange → List ℕ → List ℕ
bad_request exchange text = plain BAD_REQUEST exchange text

-- 5.03 Service Unavailable, where as many mitigations live as may be
abbrev pub at_capacity : Exchange → List ℕ
at_capacity exchange = plain SERVICE_UNAVAILABLE exchange (codes "capacity")

-- 2.04 Changed where the configuration of the sid is replaced, and else 2.01 Created (section 4.5.2)
abbrev pub configuring : Exchange → Bool → List ℕ
configuring exchange replaced = plain (grant_code replaced) exchange []

-- 4.09 Conflict, where a higher sid is held
abbrev pub older_sid : Exchange → List ℕ
older_sid exchange = plain CONFLICT exchange (codes "sid")

-- 4.22 Unprocessable Entity, with the key of the first value that is out of its range
abbrev pub out_of_range : Exchange → ℕ → List ℕ
out_of_range exchange key = plain UNPROCESSABLE_ENTITY exchange (codes "range " ++ decimal key)

abbrev pub current_of : Values → Current
current_of values = record {
  interval = values.interval;
  missing = values.missing;
  retransmit = values.retransmit;
  timeout = values.timeout;
  factor = values.factor;
  rate = values.rate;
}

-- 2.05 Content, with what is configured, or with what holds where nothing is (section 4.5.1)
abbrev pub session_view : Option Configured → SessionView
session_view configured = record {
  sid = sid_of configured;
  mitigating = current_of (config_in configured).mitigating;
  idle = current_of (config_in configured).idle;
}

abbrev pub configuration_reply : Exchange → Option Configured → List ℕ
configuration_reply exchange configured = with_body CONTENT exchange (canon (reply_tree (reply.Session (session_view configured))))

-- 2.04 Changed, of a heartbeat (section 4.7)
abbrev pub heartbeat_reply : Exchange → List ℕ
heartbeat_reply exchange = plain CHANGED exchange []

-- 5.00 Internal Server Error, for want of memory
abbrev pub unavailable : Exchange → List ℕ
unavailable exchange = plain INTERNAL_SERVER_ERROR exchange []
