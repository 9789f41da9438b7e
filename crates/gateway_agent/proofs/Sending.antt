-- What is sent for an event: each request under a number is of an exchange that is kept.
use Rattle.std.proofs.Common.{◌≡◌, ℕ, ◌/◌, Bool, true, false, cond, List, [], Contains, refl, sym, subst}
use Rattle.std.specs.Prelude.{◌==◌, ◌||◌, not, ⊤, Option, Some, None, Result, Ok, Err}
use Rattle.std.specs.List.{find}
use Rattle.std.proofs.lemmas.Bool.{and_parts, and_right, ne_eqb}
use Rattle.coap_message.specs.declared.kind.Kind.{Kind}
use Rattle.coap_message.specs.declared.kind.Kind.TheVariants.{Con, Non, Ack, Rst}
use Rattle.coap_message.specs.Message.{CoapMessage, spelling}
use Rattle.coap_message.specs.Salvage.{salvaged}
use Rattle.dots_keys.specs.Exchanges.{exchange_in, reply_kind, is_request, rejected, dismissed_unread}
use Rattle.dots_keys.specs.Replies.{plain, rejection, reset_message}
use Rattle.dots_keys.specs.RejectText.{reject_code, reject_text}
use Rattle.dots_keys.specs.declared.reject.Reject.{Reject}
use Rattle.dots_keys.specs.declared.reject.Reject.TheVariants as reject
use Rattle.dots_gateway.specs.declared.exchange.Waiting.{Waiting}
use Rattle.dots_gateway.specs.declared.passed.Passed.{Passed}
use Rattle.dots_gateway.specs.declared.passed.Passed.TheVariants as passed
use Rattle.dots_gateway.specs.declared.passed.GatewayFault.TheVariants as fault
use Rattle.dots_gateway.specs.Exchanges.{ExchangesValue, is_full, is_from, is_passed, exchange_for}
use Rattle.dots_gateway.specs.Forwarding.{forwarded, answered}
use Rattle.dots_gateway.specs.Gateway.{GatewayValue, Said, Ups, of_no_client, unreadable, asking, asked_said, wanted_said, passed_on, passed_by, passed_again, passed_first, came_again, refused, refused_option, dismissed_said, Downs, no_message, beating, answering, beat_answer, may_answer, is_response, answer_to, response_said}
use Rattle.dots_gateway.specs.Wanted.{Passage, Wanted, beat, passage, hop_in, wanted_of}
use Rattle.gateway_agent.proofs.Packets.{IsNumbered, IsNone, may_be_asked, none_asked}
use Rattle.gateway_agent.proofs.Rising.{found_in}

-- ---- replies are no requests

pub plain_none : (code : ℕ) (m : CoapMessage) (text : List ℕ) → may_be_asked code ≡ false → IsNone (plain code (exchange_in m) text)
plain_none code m text other =
    none_asked (record { kind = reply_kind m.kind; code = code; identifier = m.identifier; token = m.token; options = []; payload = text }) other

reset_none : (id : ℕ) → IsNone (reset_message id)
reset_none id = none_asked (record { kind = Rst; code = 0; identifier = id; token = []; options = []; payload = [] }) refl

code_none : (why : Reject) → may_be_asked (reject_code why) ≡ false
code_none (reject.Critical number) = refl
code_none reject.Path = refl
code_none reject.Method = refl
code_none reject.HopLimit = refl
code_none reject.Parameter = refl
code_none reject.Accept = refl
code_none reject.Format = refl
code_none reject.Query = refl
code_none (reject.Body cause) = refl
code_none reject.NoMemory = refl

rejection_none : (m : CoapMessage) (why : Reject) → IsNone (rejection (exchange_in m) why)
rejection_none m why = plain_none (reject_code why) m (reject_text why) (code_none why)

class_none : (class : ℕ) → (class == 2 || class == 4 || class == 5) ≡ true → (class == 0) ≡ false
class_none class is = ne_eqb class 0 (λ zero. not_zero (subst (λ (c : ℕ). (c == 2 || c == 4 || c == 5) ≡ true) zero is))
  where
    not_zero : (0 == 2 || 0 == 4 || 0 == 5) ≡ true → ⊥
    not_zero is = absurd (cc)

response_none : (m : CoapMessage) → is_response m ≡ true → may_be_asked m.code ≡ false
response_none m is =
    let class = and_parts (may_answer m.kind) (m.code / 32 == 2 || m.code / 32 == 4 || m.code / 32 == 5) is in
    and_right (not (m.code == 0)) (m.code / 32 == 0) (class_none (m.code / 32) class.1)

-- ---- a datagram of the upstream is only answered

abbrev pub OnlyReplies : Passed → Type 0
OnlyReplies (passed.Forward bytes fresh) = ⊥
OnlyReplies (passed.Reply to bytes) = IsNone bytes
OnlyReplies _ = ⊤

answer_replies : (m : CoapMessage) (o : Option Waiting) → is_response m ≡ true → OnlyReplies (answer_to o m)
answer_replies m None is = tt
answer_replies m (Some k) is = none_asked (answered k.exchange m) (response_none m is)

response_replies : (e : ExchangesValue) (m : CoapMessage) → OnlyReplies (response_said e m)
response_replies e m = by_test (is_response m) refl
  where
    by_test : (b : Bool) → is_response m ≡ b → OnlyReplies (cond b (answer_to (find (is_passed m.token m.identifier) e.waiting) m) passed.Nothing)
    by_test true is = answer_replies m (find (is_passed m.token m.identifier) e.waiting) is
    by_test false is = tt

beat_none : (m : CoapMessage) → IsNone (beat_answer m)
beat_none m = by_test (hop_in m.options == 0)
  where
    by_test : (b : Bool) → IsNone (cond b (rejection (exchange_in m) reject.HopLimit) (plain 0x44 (exchange_in m) []))
    by_test true = rejection_none m reject.HopLimit
    by_test false = plain_none 0x44 m [] refl

pub down_replies : (g : GatewayValue) (datagram : List ℕ) (said : Passed) → Downs g datagram said → OnlyReplies said
down_replies g datagram said (no_message none is) = subst OnlyReplies (sym is) tt
down_replies g datagram said (beating m message spelled beats is) = subst OnlyReplies (sym is) (beat_none m)
down_replies g datagram said (answering m message spelled other is) = subst OnlyReplies (sym is) (response_replies g.exchanges m)

-- ---- what is said of a client's datagram

-- A request that is passed on has the next number, where an exchange is new, or that of one that waits.
abbrev pub IsOfOne : ExchangesValue → Said → Type 0
IsOfOne e (Ok (passed.Forward bytes (Some x))) = IsNumbered e.next bytes
IsOfOne e (Ok (passed.Forward bytes None)) = (k : Waiting) × Contains e.waiting k × IsNumbered k.exchange.number bytes
IsOfOne e (Ok (passed.Reply to bytes)) = IsNone bytes
IsOfOne e _ = ⊤

numbered : (number : ℕ) (domain : List ℕ) (p : Passage) (m : CoapMessage) → IsNumbered number (spelling (forwarded number domain p m))
numbered number domain p m = record { m = forwarded number domain p m; spelled = refl; token = refl }

rejected_of : (e : ExchangesValue) (peer : ℕ) (kind : Kind) (id : ℕ) → IsOfOne e (dismissed_said peer (rejected kind id))
rejected_of e peer Con id = reset_none id
rejected_of e peer Non id = tt
rejected_of e peer Ack id = tt
rejected_of e peer Rst id = tt

unread_of : (e : ExchangesValue) (peer : ℕ) (o : Option (Kind × ℕ)) → IsOfOne e (dismissed_said peer (dismissed_unread o))
unread_of e peer None = tt
unread_of e peer (Some message) = rejected_of e peer message.0 message.1

module _ (e : ExchangesValue) (peer : ℕ) (m : CoapMessage) where
  option_of : (kind : Kind) (reply : List ℕ) → IsNone reply → IsOfOne e (refused_option peer kind reply)
  option_of Con reply none = none
  option_of Non reply none = tt
  option_of Ack reply none = tt
  option_of Rst reply none = tt

  refused_of : (why : Reject) → IsOfOne e (refused peer m why)
  refused_of (reject.Critical number) = option_of m.kind (rejection (exchange_in m) (reject.Critical number)) (rejection_none m (reject.Critical number))
  refused_of reject.Path = rejection_none m reject.Path
  refused_of reject.Method = rejection_none m reject.Method
  refused_of reject.HopLimit = rejection_none m reject.HopLimit
  refused_of reject.Parameter = rejection_none m reject.Parameter
  refused_of reject.Accept = rejection_none m reject.Accept
  refused_of reject.Format = rejection_none m reject.Format
  refused_of reject.Query = rejection_none m reject.Query
  refused_of (reject.Body cause) = rejection_none m (reject.Body cause)
  refused_of reject.NoMemory = rejection_none m reject.NoMemory

  again_of : (domain datagram : List ℕ) (p : Passage) (k : Waiting) → Contains e.waiting k → IsOfOne e (passed_again domain datagram m p k)
  again_of domain datagram p k waits = by_test (came_again k.asked k.exchange datagram m)
    where
      by_test : (b : Bool) → IsOfOne e (cond {A = Said} b (Ok (passed.Forward (spelling (forwarded k.exchange.number domain p m)) None)) (Ok passed.Nothing))
      by_test true = (k, waits, numbered k.exchange.number domain p m)
      by_test false = tt

  first_of_it : (domain : List ℕ) (p : Passage) → IsOfOne e (passed_first e peer domain m p)
  first_of_it domain p = by_test (is_full e)
    where
      by_test : (b : Bool) → IsOfOne e (cond {A = Said} b (Err fault.TableFull) (Ok (passed.Forward (spelling (forwarded e.next domain p m)) (Some (exchange_for e peer m)))))
      by_test true = tt
      by_test false = numbered e.next domain p m

  by_of : (domain datagram : List ℕ) (p : Passage) (o : Option Waiting) → find (is_from peer m.identifier) e.waiting ≡ o → IsOfOne e (passed_by e peer domain datagram m p o)
  by_of domain datagram p (Some k) found = again_of domain datagram p k (found_in (is_from peer m.identifier) e.waiting k found)
  by_of domain datagram p None found = first_of_it domain p

  on_of : (domain datagram : List ℕ) (p : Passage) → IsOfOne e (passed_on e peer domain datagram m p)
  on_of domain datagram p = by_test (p.hop == 1)
    where
      by_test : (b : Bool) → IsOfOne e (cond {A = Said} b (Ok (passed.Reply peer (plain 0xa8 (exchange_in m) []))) (passed_by e peer domain datagram m p (find (is_from peer m.identifier) e.waiting)))
      by_test true = plain_none 0xa8 m [] refl
      by_test false = by_of domain datagram p (find (is_from peer m.identifier) e.waiting) refl

  wanted_by : (domain datagram : List ℕ) (w : Result Wanted Reject) → IsOfOne e (wanted_said e peer domain datagram m w)
  wanted_by domain datagram (Err why) = refused_of why
  wanted_by domain datagram (Ok beat) = plain_none 0x44 m [] refl
  wanted_by domain datagram (Ok (passage p)) = on_of domain datagram p

  asked_of : (domain datagram : List ℕ) → IsOfOne e (asked_said e peer domain datagram m)
  asked_of domain datagram = by_test (is_request m)
    where
      by_test : (b : Bool) → IsOfOne e (cond {A = Said} b (wanted_said e peer domain datagram m (wanted_of m)) (dismissed_said peer (rejected m.kind m.identifier)))
      by_test true = wanted_by domain datagram (wanted_of m)
      by_test false = rejected_of e peer m.kind m.identifier

pub up_of_one : (g : GatewayValue) (peer : ℕ) (datagram : List ℕ) (said : Said) → Ups g peer datagram said → IsOfOne g.exchanges said
up_of_one g peer datagram said (of_no_client none is) = subst (IsOfOne g.exchanges) (sym is) tt
up_of_one g peer datagram said (unreadable domain is none so) = subst (IsOfOne g.exchanges) (sym so) (unread_of g.exchanges peer (salvaged datagram))
up_of_one g peer datagram said (asking domain m is message spelled so) = subst (IsOfOne g.exchanges) (sym so) (asked_of g.exchanges peer m domain datagram)
