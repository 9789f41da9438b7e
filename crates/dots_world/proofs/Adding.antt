-- What a datagram adds carries what it asks.
use Rattle.std.proofs.Common.{◌≡◌, inl, inr, ℕ, Bool, false, List, [], Some, Result, Ok, Err, refl, sym, ap, ◌∙◌, subst, ◌⊎◌, ◌++◌, ◌∷◌}
use Rattle.dots_host.specs.declared.event.Event.TheVariants as event
use Rattle.dots_host.specs.declared.out.OwnedOut.{OwnedOut}
use Rattle.coap_message.specs.declared.kind.Kind.{Kind}
use Rattle.coap_message.specs.declared.kind.Kind.TheVariants.{Con, Non, Ack, Rst}
use Rattle.coap_message.specs.Message.{CoapMessage, IsMessage}
use Rattle.dots_settings.specs.Settings.{SettingsValue}
use Rattle.dots_settings.specs.Lookups.{role_of}
use Rattle.dots_keys.specs.declared.reject.Reject.{Reject}
use Rattle.dots_keys.specs.declared.reject.Reject.TheVariants as reject
use Rattle.dots_keys.specs.RejectText.{reject_text}
use Rattle.dots_keys.specs.declared.request.Request.{Request}
use Rattle.dots_history.specs.declared.entry.Entry.{Entry}
use Rattle.dots_keys.specs.declared.exchange.Exchange.{Exchange}
use Rattle.dots_keys.specs.declared.dismissal.Dismissal.{Dismissal}
use Rattle.dots_keys.specs.declared.dismissal.Dismissal.TheVariants as dismissal
use Rattle.dots_machine.specs.declared.received.Received.{Received}
use Rattle.dots_machine.specs.declared.received.Received.TheVariants as received
use Rattle.dots_machine.specs.Verdict.{Verdict}
use Rattle.dots_machine.specs.declared.verdict.Verdict.TheVariants as verdict
use Rattle.dots_machine.specs.Domains.{is_gateway, is_stranger}
use Rattle.dots_keys.specs.Exchanges.{exchange_in}
use Rattle.dots_machine.specs.Requests.{received_as, IsReceived, unread, asks_nothing, meant}
use Rattle.dots_keys.specs.Replies.{rejection}
use Rattle.dots_machine.specs.Facts.{Facts, AreFacts}
use Rattle.dots_machine.specs.Deciding.{answer_to}
use Rattle.dots_machine.specs.Machine.{State, later, option_verdict, reject_verdict, dismissal_verdict, rules_say, Decides, by_silence, by_rules, for_want_of_memory, after, Answers, Step}
use Rattle.dots_machine.proofs.Hearing.{answer_history, hears_adds, hears_time}
use Rattle.dots_world.specs.Adding.{CarriesRequest, AddsWhatIsAsked}
use Rattle.dots_world.proofs.Telling.{quiet, plain_message}
use Rattle.dots_world.proofs.Deciding.{IsExchange, Meets, meets_weaker, CarriesSome, answer_carries}

-- ---- who asks something has a Message ID and a token
in_message : (m : CoapMessage) → IsMessage m → IsExchange (exchange_in m)
in_message m is = record { identifier = is.identifier; token = is.token }

of_answer : (m : CoapMessage) (answer : Result Request Reject) (x : Exchange) (asked : Request) → IsMessage m → received.Asked x asked ≡ received_as (exchange_in m) answer → IsExchange x
of_answer m (Ok request) x asked is e = let same : x ≡ exchange_in m = cc in subst IsExchange (sym same) (in_message m is)
of_answer m (Err reject) x asked is e = absurd (cc e)

pub asked_exchange : (datagram : List ℕ) (gateway : Bool) (x : Exchange) (asked : Request) → IsReceived datagram gateway (received.Asked x asked) → IsExchange x
asked_exchange datagram gateway x asked (unread fault breaks e) = absurd (cc e)
asked_exchange datagram gateway x asked (asks_nothing m answer is spelled none e) = absurd (cc e)
asked_exchange datagram gateway x asked (meant m answer is spelled none means e) = of_answer m answer x asked is e

-- ---- what is decided on a datagram
module _ (settings : SettingsValue) (state : State) (peer : ℕ) (datagram : List ℕ) where
  -- an entry that is accepted carries the request, with the reply to it
  pub record CarriesReply (reply : List ℕ) (entry : Entry) : Type 0 where
    pub carries : CarriesRequest settings state.time peer datagram entry
    pub reply_is : entry.reply ≡ reply

  abbrev pub IsRight : Verdict → Type 0
  IsRight v = Meets state.history peer CarriesReply v

  dismissed_right : (answer : Dismissal) → IsRight (dismissal_verdict answer)
  dismissed_right dismissal.Ignored = tt
  dismissed_right (dismissal.Reset id) = inl (quiet (record { kind = Rst; code = 0; identifier = id; token = []; options = []; payload = [] }) refl)
  dismissed_right (dismissal.Rejected id) = tt

  option_right : (kind : Kind) (x : Exchange) (number : ℕ) → IsRight (option_verdict kind (rejection x (reject.Critical number)))
  option_right Con x number = inl (quiet (plain_message 0x82 x (reject_text (reject.Critical number))) refl)
  option_right Non x number = tt
  option_right Ack x number = tt
  option_right Rst x number = tt

  rejected_right : (x : Exchange) (e : Reject) → IsRight (reject_verdict x e)
  rejected_right x (reject.Critical number) = option_right x.kind x number
  rejected_right x reject.Path = inl (quiet (plain_message 0x84 x (reject_text reject.Path)) refl)
  rejected_right x reject.Method = inl (quiet (plain_message 0x85 x (reject_text reject.Method)) refl)
  rejected_right x reject.HopLimit = inl (quiet (plain_message 0x80 x (reject_text reject.HopLimit)) refl)
  rejected_right x reject.Parameter = inl (quiet (plain_message 0x80 x (reject_text reject.Parameter)) refl)
  rejected_right x reject.Accept = inl (quiet (plain_message 0x86 x (reject_text reject.Accept)) refl)
  rejected_right x reject.Format = inl (quiet (plain_message 0x8f x (reject_text reject.Format)) refl)
  rejected_right x reject.Query = inl (quiet (plain_message 0x80 x (reject_text reject.Query)) refl)
  rejected_right x (reject.Body why) = inl (quiet (plain_message 0x80 x (reject_text (reject.Body why))) refl)
  rejected_right x reject.NoMemory = inl (quiet (plain_message 0x80 x (reject_text reject.NoMemory)) refl)

  module _ (known : is_stranger (role_of settings peer) ≡ false) (facts : Facts) (are : AreFacts settings state.time state.history facts) where
    said_right : (got : Received) → IsReceived datagram (is_gateway (role_of settings peer)) got → IsRight (rules_say settings facts peer got)
    said_right (received.Unread answer) is = dismissed_right answer
    said_right (received.Dismissed answer) is = dismissed_right answer
    said_right (received.Refused x e) is = rejected_right x e
    said_right (received.Asked x asked) is =
        let fit = asked_exchange datagram (is_gateway (role_of settings peer)) x asked is in
        meets_weaker state.history peer (CarriesSome settings state.time state.history facts are peer x fit asked) CarriesReply
        (λ reply entry has. record {
          carries = record {
            known = known;
            exchange = x;
            asked = asked;
            received = is;
            time_is = has.2.time_is;
            peer_is = has.2.peer_is;
            domain_is = has.1 ∙ ap (λ (d : ℕ). Some d) (sym has.2.domain_is);
            key_is = has.2.key_is;
            carries = has.2.carries;
          };
          reply_is = has.2.reply_is;
        }) (answer_to settings facts peer x asked) (answer_carries settings state.time state.history facts are peer x fit asked)

  pub decided_right : (v : Verdict) → Decides settings state peer datagram v → IsRight v
  decided_right v (by_silence unknown e) = subst IsRight (sym e) tt
  decided_right v (by_rules known got is rules) = subst IsRight (sym rules.2) (said_right known rules.0 rules.1 got is)
  decided_right v (for_want_of_memory known lacks) = subst IsRight (sym lacks.answer) (inl (quiet (plain_message 0xa0 (exchange_in lacks.message) []) refl))

  -- it adds nothing, or what carries the request
  abbrev AddsAsked : List Entry → Type 0
  AddsAsked new = (new ≡ state.history) ⊎ ((entry : Entry) × (new ≡ state.history ++ entry ∷ []) × CarriesRequest settings state.time peer datagram entry)

  right_adds : (v : Verdict) → IsRight v → AddsAsked (after v state).history
  right_adds verdict.Silent right = inl refl
  right_adds (verdict.Reply reply) right = inl refl
  right_adds (verdict.LongReply reply) right = inl refl
  right_adds (verdict.Retrieves x body) right = inl refl
  right_adds (verdict.Accept reply entry) right = inr (entry, refl, right.carries)

pub answers_add : (settings : SettingsValue) (state : State) (peer : ℕ) (datagram : List ℕ) (sends : List OwnedOut) (new : State) → Answers settings state peer datagram sends new
    → AddsWhatIsAsked settings state.time peer datagram state.history new.history
answers_add settings state peer datagram sends new a = (
  a.met.history,
  hears_adds settings peer datagram state a.met a.hears,
  subst (λ t. (new.history ≡ a.met.history) ⊎ ((entry : Entry) × (new.history ≡ a.met.history ++ entry ∷ []) × CarriesRequest settings t peer datagram entry))
      (hears_time settings peer datagram state a.met a.hears)
      (subst (AddsAsked settings a.met peer datagram) (sym (answer_history settings state peer datagram sends new a))
      (right_adds settings a.met peer datagram a.decided (decided_right settings a.met peer datagram a.decided a.decides))),
)

pub step_adds : (settings : SettingsValue) (old : State) (peer : ℕ) (datagram : List ℕ) (at : ℕ) (owed : List (State × OwnedOut)) (new : State)
    → Step settings old (event.Datagram peer datagram) at owed new → AddsWhatIsAsked settings (later old at).time peer datagram old.history new.history
step_adds settings old peer datagram at owed new step = answers_add settings (later old at) peer datagram step.0 new step.2
